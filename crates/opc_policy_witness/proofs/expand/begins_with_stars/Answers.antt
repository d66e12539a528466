use Rattle.std.proofs.Common.{◌≡◌, ◌∷◌, ◌∙◌, ap, map, sym, subst}
use Rattle.std.specs.List.{AllByRecursion}
use Rattle.std.specs.Option.{option_copied}
use Rattle.opc_names.specs.Patterns.{tokens}
use Rattle.opc_names.specs.Walk.{IsQualifier, qualifiers_left}
use Rattle.opc_policy_witness.specs.Pieces.{begins_with_stars}
use Rattle.opc_policy_witness.proofs.Spreading.{first_stars}
use Rattle.opc_policy_witness.proofs.expand.begins_with_stars.Goals as goal

pub returns-in-Some : goal.returns-in-Some
returns-in-Some c =
    let q = c.split_qualifier.result.0.now in
    let rest = qualifiers_left (option_copied c.split_qualifier.result.1) in
    let parts : qualifiers_left (option_copied c.args.others) ≡ q ∷ rest = rw c.in-Some.is c.split_qualifier.ensures.parts in
    let first = subst (λ l. AllByRecursion IsQualifier l) parts c.requires in
    first_stars q rest c.is_stars.result first.0 c.is_stars.ensures ∙ ap (λ l. begins_with_stars (map tokens l)) (sym parts)
