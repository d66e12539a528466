use Rattle.std.proofs.Common.{
  ◌≡◌,
  ◌≤◌,
  ◌∙◌,
  ap,
  arith,
  false,
  length,
  map,
  refl,
  sym,
  true,
  List,
  Ok,
  Option,
  Vec,
  Global,
  ℕ,
}
use Rattle.std.proofs.lemmas.Bool.Decides.{nat_tests}
use Rattle.std.proofs.lemmas.List.{length-take-le}
use Rattle.opc_policy_witness.specs.Pieces.{filled, size}
use Rattle.opc_policy_witness.specs.Witness.{LiesIn, joined}
use Rattle.opc_policy_witness.proofs.Joining.{places_long, size_room}
use Rattle.opc_policy_witness.proofs.Placing.{among_is, if_found, nothing_wanted}
use Rattle.opc_policy_witness.proofs.Products.{fits_vec}
use Rattle.opc_policy_witness.proofs.witness.among.Goals as goal

abbrev items : List (Vec (Option ℕ) Global) → List (List (Option ℕ))
items masks = map (λ mask. mask.items) masks

pub masks_of_all-requires : goal.masks_of_all-requires
masks_of_all-requires c = let e = size_room c.args.pieces.now in omega (arith, e, c.requires.short)

pub masks_of_any-requires : goal.masks_of_any-requires
masks_of_any-requires c = let e = size_room c.args.pieces.now in omega (arith, e, c.requires.short)

pub slice_bounds-characters-end : goal.slice_bounds-characters-end
slice_bounds-characters-end c =
    let e = size_room c.args.pieces.now in
    let long : length c.as_slice-places.result.now ≡ size c.args.pieces.now =
    ap length (c.as_slice-places.ensures.value ∙ c.in_ok-all.ensures) ∙ places_long c.args.pieces.now in
    omega (arith, e, c.requires.short, long)

pub slice_bounds-name-end : goal.slice_bounds-name-end
slice_bounds-name-end c =
    let e = size_room c.args.pieces.now in
    let long : length c.as_slice-places.result.now ≡ size c.args.pieces.now =
    ap length (c.as_slice-places.ensures.value ∙ c.in_ok-all.ensures) ∙ places_long c.args.pieces.now in
    let few : length c.as_slice-places.result.now ≤ 40 = omega (arith, e, c.requires.short, long) in
    sym (length-take-le (length c.as_slice-places.result.now) _ few)

pub find_any-requires : goal.find_any-requires
find_any-requires c =
    let e = size_room c.args.pieces.now in
    let long : length c.as_slice-places.result.now ≡ size c.args.pieces.now =
    ap length (c.as_slice-places.ensures.value ∙ c.in_ok-all.ensures) ∙ places_long c.args.pieces.now in
    let few : length c.as_slice-places.result.now ≤ 40 = omega (arith, e, c.requires.short, long) in
    length-take-le (length c.as_slice-places.result.now) _ few

pub returns-then-branch-clause-found : goal.returns-then-branch-clause-found
returns-then-branch-clause-found c =
    let pieces = c.args.pieces.now in
    let include = c.args.include.now in
    let exclude = c.args.exclude.now in
    let name = c.find_any.new.name in
    let was : c.find_any.result ≡ Ok true = c.in_ok-find_any.was ∙ ap Ok c.if-branch.true in
    let is = among_is pieces include exclude c.as_slice-places.result.now (items c.as_slice.result.now) (items c.as_slice-2.result.now) name
    (c.as_slice-places.ensures.value ∙ c.in_ok-all.ensures)
    (λ h. ap (λ l. fits_vec l name) c.as_slice.ensures.value ∙ c.in_ok-wanted.ensures name h)
    (λ h. ap (λ l. fits_vec l name) c.as_slice-2.ensures.value ∙ c.in_ok-unwanted.ensures name h) in
    if_found c.resource_of.result (LiesIn pieces include exclude) (joined (filled pieces name))
    (name, sym is ∙ c.find_any.ensures.found was, refl) c.resource_of.ensures

pub returns-clause-none : goal.returns-clause-none
returns-clause-none c = λ e s.
    let was : c.find_any.result ≡ Ok false = c.in_ok-find_any.was ∙ ap Ok c.if-branch.false in
    sym (among_is c.args.pieces.now c.args.include.now c.args.exclude.now c.as_slice-places.result.now (items c.as_slice.result.now)
    (items c.as_slice-2.result.now) s (c.as_slice-places.ensures.value ∙ c.in_ok-all.ensures)
    (λ h. ap (λ l. fits_vec l s) c.as_slice.ensures.value ∙ c.in_ok-wanted.ensures s h)
    (λ h. ap (λ l. fits_vec l s) c.as_slice-2.ensures.value ∙ c.in_ok-unwanted.ensures s h))
    ∙ c.find_any.ensures.none was s

pub returns-then-is_empty-clause-none : goal.returns-then-is_empty-clause-none
returns-then-is_empty-clause-none c = λ e s.
    nothing_wanted (λ (m : Vec (Option ℕ) Global). m.items) c.args.pieces.now c.args.include.now c.args.exclude.now c.in_ok-wanted.wanted.items s
    (grind (arith, nat_tests, c.is_empty.ensures, c.if-is_empty.true)) (c.in_ok-wanted.ensures s)
