use Rattle.std.proofs.Common.{ap, ◌∙◌}
use Rattle.opc_check_notes.specs.Kinds.{of_kind}
use Rattle.opc_check_notes.specs.Named.{count}
use Rattle.opc_check_notes.proofs.OfKind.{counted_of}
use Rattle.opc_check_notes.proofs.names.count.Goals as goal

pub returns : goal.returns
returns c =
    c.count_among.ensures
    ∙ ap (λ l. count l c.args.given) (c.of.ensures ∙ ap (of_kind c.args.rows.now) c.giving.ensures)
    ∙ counted_of c.args.rows.now c.args.given
