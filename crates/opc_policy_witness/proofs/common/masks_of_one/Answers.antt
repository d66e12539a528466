use Rattle.std.proofs.Common.{◌≡◌, ◌||◌, ◌∙◌, ap, refl, subst, sym, []}
use Rattle.std.specs.List.{AllByRecursion}
use Rattle.opc_names.specs.Names.{qualifiers}
use Rattle.opc_names.specs.Walk.{IsQualifier}
use Rattle.opc_names.proofs.Faults.{pattern_qualifiers}
use Rattle.opc_policy_witness.specs.Pieces.{filled}
use Rattle.opc_policy_witness.specs.Witness.{covers_parts}
use Rattle.opc_policy_witness.proofs.Products.{fits_vec, pattern_more}
use Rattle.opc_policy_witness.proofs.common.masks_of_one.Goals as goal

pub add_masks-requires-clause-qualifiers : goal.add_masks-requires-clause-qualifiers
add_masks-requires-clause-qualifiers c =
    subst (λ x. AllByRecursion IsQualifier (qualifiers x)) (sym (c.as_bytes.ensures.value ∙ c.text.ensures.text))
    (pattern_qualifiers c.args.pattern.now c.text.ensures.reads_back)

pub returns : goal.returns
returns c = λ s h.
    let pieces = c.args.pieces.now in
    let is : c.as_bytes.result.now ≡ c.args.pattern.now = c.as_bytes.ensures.value ∙ c.text.ensures.text in
    let parts = covers_parts (filled pieces s) in
    pattern_more c.as_bytes.result.now pieces _ _ [] s refl h c.in_ok-add_masks.ensures
    ∙ ap (λ l. fits_vec l s || parts c.as_bytes.result.now) c.new-masks.ensures.items ∙ ap parts is
