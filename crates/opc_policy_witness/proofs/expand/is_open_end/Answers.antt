use Rattle.std.proofs.Common.{◌&&◌, ◌∙◌, ap, sym}
use Rattle.opc_names.specs.Patterns.{ends_in_star, tokens}
use Rattle.opc_names.proofs.CoveredSuffixes.{none_is_empty}
use Rattle.opc_policy_witness.proofs.expand.is_open_end.Goals as goal

pub returns-else-is_none : goal.returns-else-is_none
returns-else-is_none c =
    let star = ends_in_star (tokens c.args.qualifier.now) in
    c.if-is_none.false ∙ ap (λ b. b && star) (sym c.if-is_none.false ∙ none_is_empty c.args.others c.is_none.result c.is_none.ensures)
