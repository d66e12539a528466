use Rattle.std.proofs.Common.{ap, ◌∙◌}
use Rattle.std.specs.Option.{option_map}
use Rattle.opc_check_notes.specs.declared.effect.Kept.{Kept}
use Rattle.opc_check_notes.specs.declared.effect.RowKey.TheVariants as key
use Rattle.opc_check_notes.specs.Connects.{number_at}
use Rattle.opc_check_notes.proofs.Placing.{number_so}
use Rattle.opc_check_notes.proofs.known.Known.number_of.Goals as goal

pub returns : goal.returns
returns c =
    c.number.ensures
    ∙ ap (option_map (λ (k : Kept). k.number))
    (rw c.connect_key.ensures at c.kept_of.ensures ∙ c.self.invariant.10 (key.Connect c.args.user.now c.args.group.now))
    ∙ number_so c.self.inside.rows c.args.user.now c.args.group.now
    ∙ ap (λ l. number_at l c.args.user.now c.args.group.now) c.self.view_is
