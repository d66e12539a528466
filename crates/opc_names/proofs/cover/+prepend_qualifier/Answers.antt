use Rattle.std.proofs.Common.{◌≡◌, ◌<◌, ◌∷◌, map, length, arith, ◌∙◌}
use Rattle.std.specs.Option.{option_copied}
use Rattle.opc_names.specs.Patterns.{tokens}
use Rattle.opc_names.specs.Walk.{qualifiers_left, covered_suffixes}
use Rattle.opc_names.proofs.CoveredSuffixes.{two_suffixes, none_is_empty, prepended_part, prefix_written}
use Rattle.opc_names.proofs.Stars.{begins_other}
use Rattle.opc_names.proofs.cover.+prepend_qualifier.Goals as goal

pub bounds-covered-1 : goal.bounds-covered-1
bounds-covered-1 t c =
    let of_name : qualifiers_left (option_copied c.args.name) ≡ c.split_qualifier.result.0.now
    ∷ qualifiers_left (option_copied c.split_qualifier.result.1) =
    rw c.in-Some.is c.split_qualifier.ensures.parts in
    let two : 1 < length c.args.covered.now =
    rw (c.requires.others, of_name) (two_suffixes (map tokens (qualifiers_left (option_copied c.args.others)))
    c.split_qualifier.result.0.now (qualifiers_left (option_copied c.split_qualifier.result.1))) in
    omega arith

pub returns : goal.returns
returns t c =
    let others = map tokens (qualifiers_left (option_copied c.args.others)) in
    let s = c.split_qualifier.result.0.now in
    let r = qualifiers_left (option_copied c.split_qualifier.result.1) in
    let of_name : qualifiers_left (option_copied c.args.name) ≡ s ∷ r = rw c.in-Some.is c.split_qualifier.ensures.parts in
    let was : c.args.covered.now ≡ covered_suffixes others (s ∷ r) = rw of_name at c.requires.others in
    let put = prepended_part (tokens c.args.qualifier.now) others s r c.args.covered.now c.prepend_qualifier.new.covered
    c.is_none.result c.covers_from.result (begins_other c.args.qualifier.now c.requires.plain)
    (none_is_empty c.args.others c.is_none.result c.is_none.ensures) was c.prepend_qualifier.ensures
    c.covers_from.ensures in
    let two : 1 < length c.args.covered.now = rw was (two_suffixes others s r) in
    rw of_name (prefix_written c.args.covered.now c.prepend_qualifier.new.covered c.covers_from.result (omega arith) ∙ put)
