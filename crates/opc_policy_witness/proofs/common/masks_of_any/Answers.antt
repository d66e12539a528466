use Rattle.std.proofs.Common.{◌≡◌, ◌||◌, ◌∙◌, ap, map, refl, subst, sym, take, []}
use Rattle.std.specs.List.{AllByRecursion, list_any}
use Rattle.opc_names.specs.Names.{qualifiers}
use Rattle.opc_names.specs.Walk.{IsQualifier}
use Rattle.opc_names.proofs.Faults.{pattern_qualifiers}
use Rattle.opc_policy_witness.specs.Pieces.{filled}
use Rattle.opc_policy_witness.specs.Witness.{covers_parts}
use Rattle.opc_policy_witness.specs.Masks.{fits_one}
use Rattle.opc_policy_witness.proofs.Products.{any_more, covered_by_last, pattern_more}
use Rattle.opc_policy_witness.proofs.common.masks_of_any.Goals as goal

pub add_masks-requires-clause-qualifiers : goal.add_masks-requires-clause-qualifiers
add_masks-requires-clause-qualifiers c =
    subst (λ x. AllByRecursion IsQualifier (qualifiers x)) (sym (c.as_bytes.ensures.value ∙ c.text.ensures.text))
    (pattern_qualifiers c.pattern-item.result c.text.ensures.reads_back)

pub loop-pattern-preserved : goal.loop-pattern-preserved
loop-pattern-preserved c = λ s h.
    let pieces = c.args.pieces.now in
    let pattern = c.pattern-item.result in
    let is : c.as_bytes.result.now ≡ pattern = c.as_bytes.ensures.value ∙ c.text.ensures.text in
    let parts = covers_parts (filled pieces s) in
    pattern_more c.as_bytes.result.now pieces _ _ [] s refl h c.in_ok-add_masks.ensures
    ∙ ap (λ b. b || parts c.as_bytes.result.now) (c.loop-pattern.invariant s h)
    ∙ ap (λ x. list_any parts (take c.loop-pattern.pattern-index c.args.patterns.now) || parts x) is
    ∙ sym (any_more parts c.args.patterns.now c.loop-pattern.pattern-index pattern c.loop-pattern-test.true c.pattern-item.is)

pub returns-then-last_takes_all : goal.returns-then-last_takes_all
returns-then-last_takes_all c = λ s h.
    let pieces = c.args.pieces.now in
    let pattern = c.pattern-item.result in
    let is : c.as_bytes.result.now ≡ pattern = c.as_bytes.ensures.value ∙ c.text.ensures.text in
    let parts = covers_parts (filled pieces s) in
    covered_by_last parts c.args.patterns.now c.loop-pattern.pattern-index pattern _ c.loop-pattern-test.true c.pattern-item.is
    (ap (λ masks. fits_one (map (λ m. m.items) masks) s) (sym c.as_slice.ensures.value)
    ∙ c.last_takes_all.ensures c.if-last_takes_all.true s (h ∙ sym c.size_of-length.ensures))
    (pattern_more c.as_bytes.result.now pieces _ _ [] s refl h c.in_ok-add_masks.ensures
    ∙ ap (λ b. b || parts c.as_bytes.result.now) (c.loop-pattern.invariant s h)
    ∙ ap (λ x. list_any parts (take c.loop-pattern.pattern-index c.args.patterns.now) || parts x) is)
