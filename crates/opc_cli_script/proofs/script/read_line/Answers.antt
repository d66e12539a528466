use Rattle.std.proofs.Common.{append-nil, sym, ◌∙◌}
use Rattle.opc_cli_script.proofs.Lines.{blank_asks_nothing}
use Rattle.opc_cli_script.proofs.script.read_line.Goals as goal

pub returns-then-is_blank-clause-request : goal.returns-then-is_blank-clause-request
returns-then-is_blank-clause-request c = rw (blank_asks_nothing c.args.line.now (sym c.is_blank.ensures ∙ c.if-is_blank.true)) (sym (append-nil _))
