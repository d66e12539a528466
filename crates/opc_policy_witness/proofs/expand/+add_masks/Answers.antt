use Rattle.std.proofs.Common.{
  ◌≡◌,
  ◌++◌,
  ◌∷◌,
  [],
  ◌∙◌,
  ap,
  append-nil,
  drop,
  map,
  replicate,
  sym,
  subst,
  List,
  None,
  Option,
  Vec,
  Global,
  ℕ,
}
use Rattle.std.specs.List.{AllByRecursion}
use Rattle.std.specs.Option.{option_copied, option_map}
use Rattle.std.proofs.lemmas.List.{map-append, take_rest}
use Rattle.opc_names.specs.Patterns.{tokens}
use Rattle.opc_names.specs.Walk.{IsQualifier, qualifiers_left}
use Rattle.opc_policy_witness.specs.Pieces.{masks_of, size}
use Rattle.opc_policy_witness.proofs.Spreading.{
  last_star_of,
  matched_last,
  matched_more,
  none_matched,
  on_ok,
  skipped_more,
}
use Rattle.opc_policy_witness.proofs.expand.+add_masks.Goals as goal

abbrev items : List (Vec (Option ℕ) Global) → List (List (Option ℕ))
items masks = map (λ mask. mask.items) masks

pub returns-then-is_stars : goal.returns-then-is_stars
returns-then-is_stars t c =
    let head = c.args.head.now in
    let pieces = c.args.pieces.now in
    let others = qualifiers_left (option_copied c.split_qualifier.result.1) in
    let p = map tokens others in
    let parts : qualifiers_left (option_copied c.args.pattern) ≡ c.split_qualifier.result.0.now ∷ others =
    rw c.in-Some.is c.split_qualifier.ensures.parts in
    let of_pattern : map tokens (qualifiers_left (option_copied c.args.pattern)) ≡ tokens (42 ∷ 42 ∷ []) ∷ p =
    ap (map tokens) parts ∙ ap (λ q. tokens q ∷ p) (c.is_stars.ensures.0 c.if-is_stars.true) in
    let slice = c.as_slice.result.now in
    let old = items c.args.masks.now.items in
    let middle = items c.add_masks-then-is_stars.new.masks.items in
    let last = items c.add_masks-then-is_stars-2.new.masks.items in
    on_ok c.add_masks-then-is_stars-2.result _ _ c.add_masks-then-is_stars-2.ensures (λ e.
    subst (λ x. last ≡ old ++ map (λ mask. head ++ mask) (masks_of x pieces)) (sym of_pattern)
    (skipped_more p pieces _ head slice old middle last (sym c.begins_with_stars.ensures ∙ c.if-begins_with_stars.false)
    c.in-len1-up.len_at_least
    (c.as_slice.ensures.value ∙ c.in_ok-skipped.ensures ∙ ap (λ n. head ++ replicate n None) c.width.ensures)
    c.in_ok-add_masks.ensures
    (subst (λ x. last ≡ middle ++ map (λ mask. slice ++ mask) (masks_of x (drop 1 pieces))) of_pattern (rw take_rest at e))))

pub returns-in_default-2 : goal.returns-in_default-2
returns-in_default-2 t c =
    let head = c.args.head.now in
    let pieces = c.args.pieces.now in
    let q = c.split_qualifier.result.0.now in
    let others = qualifiers_left (option_copied c.split_qualifier.result.1) in
    let p = map tokens others in
    let parts : qualifiers_left (option_copied c.args.pattern) ≡ q ∷ others = rw c.in-Some.is c.split_qualifier.ensures.parts in
    let first = subst (λ l. AllByRecursion IsQualifier l) parts c.requires.qualifiers in
    let last = last_star_of q c.is_stars.result first.0 c.is_stars.ensures c.if-is_stars.false in
    let old = items c.args.masks.now.items in
    sym (ap (λ l. old ++ map (λ mask. head ++ mask) l) (ap (λ l. masks_of (map tokens l) pieces) parts
    ∙ none_matched q p pieces _ head last c.in-len1-up-pieces.len_at_least
    (ap (option_map {T = Vec (Option ℕ) Global} (λ mask. mask.items)) (sym c.in_default-2.is) ∙ c.in_ok-longer.ensures)) ∙ append-nil old)

pub returns-then-is_open_end : goal.returns-then-is_open_end
returns-then-is_open_end t c =
    let head = c.args.head.now in
    let pieces = c.args.pieces.now in
    let q = c.split_qualifier.result.0.now in
    let others = qualifiers_left (option_copied c.split_qualifier.result.1) in
    let p = map tokens others in
    let parts : qualifiers_left (option_copied c.args.pattern) ≡ q ∷ others = rw c.in-Some.is c.split_qualifier.ensures.parts in
    let first = subst (λ l. AllByRecursion IsQualifier l) parts c.requires.qualifiers in
    let last = last_star_of q c.is_stars.result first.0 c.is_stars.ensures c.if-is_stars.false in
    let longer = c.in-Some-2.longer.items in
    let old = items c.args.masks.now.items in
    let whole = c.in_ok-with_open.field-0.items in
    let is : whole ≡ longer ++ replicate (size (drop 1 pieces)) None =
    c.in_ok-with_open.ensures ∙ ap (λ l. l ++ replicate c.size_of.result None) c.as_slice-then-is_open_end.ensures.value
    ∙ ap (λ n. longer ++ replicate n None) (rw take_rest at c.size_of.ensures) in
    ap items c.in_ok-push-2.ensures.items ∙ map-append (λ (mask : Vec (Option ℕ) Global). mask.items) c.args.masks.now.items (c.in_ok-with_open.field-0 ∷ [])
    ∙ ap (λ l. old ++ l) (matched_last q p pieces _ head longer whole last c.in-len1-up-pieces.len_at_least
    (ap (option_map {T = Vec (Option ℕ) Global} (λ mask. mask.items)) (sym c.in-Some-2.is) ∙ c.in_ok-longer.ensures)
    (sym c.is_open_end.ensures ∙ c.if-is_open_end.true) is
    ∙ ap (λ l. map (λ mask. head ++ mask) (masks_of (map tokens l) pieces)) (sym parts))

pub returns : goal.returns
returns t c =
    let head = c.args.head.now in
    let pieces = c.args.pieces.now in
    let q = c.split_qualifier.result.0.now in
    let others = qualifiers_left (option_copied c.split_qualifier.result.1) in
    let p = map tokens others in
    let parts : qualifiers_left (option_copied c.args.pattern) ≡ q ∷ others = rw c.in-Some.is c.split_qualifier.ensures.parts in
    let first = subst (λ l. AllByRecursion IsQualifier l) parts c.requires.qualifiers in
    let last = last_star_of q c.is_stars.result first.0 c.is_stars.ensures c.if-is_stars.false in
    let longer = c.in-Some-2.longer.items in
    let old = items c.args.masks.now.items in
    on_ok c.add_masks-2.result _ _ c.add_masks-2.ensures (λ e.
    (rw take_rest at e) ∙ ap (λ h. old ++ map (λ mask. h ++ mask) (masks_of p (drop 1 pieces))) c.as_slice-2.ensures.value
    ∙ ap (λ l. old ++ l) (matched_more q p pieces _ head longer last c.in-len1-up-pieces.len_at_least
    (ap (option_map {T = Vec (Option ℕ) Global} (λ mask. mask.items)) (sym c.in-Some-2.is) ∙ c.in_ok-longer.ensures)
    (sym c.is_open_end.ensures ∙ c.if-is_open_end.false)
    ∙ ap (λ l. map (λ mask. head ++ mask) (masks_of (map tokens l) pieces)) (sym parts)))
