use Rattle.opc_cli_commands.proofs.hint.nearest_verb.Goals as goal

pub returns : goal.returns
returns c = rw (c.deref.ensures.value, c.in_ok-verbs.ensures, c.verb_rows.ensures) at c.nearest.ensures
