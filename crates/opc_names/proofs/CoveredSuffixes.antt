-- For each suffix of a name, whether a pattern covers it.
use Rattle.std.proofs.Common.{
  ◌≡◌,
  ℕ,
  ◌+◌,
  ◌-◌,
  ◌<◌,
  ◌≤◌,
  Bool,
  true,
  false,
  not,
  ◌&&◌,
  ◌||◌,
  List,
  [],
  ◌∷◌,
  ◌++◌,
  map,
  length,
  replicate,
  take,
  slice_set,
  slice_index_or,
  Option,
  Some,
  None,
  Bor,
  refl,
  ap,
  sym,
  ◌∙◌,
  arith,
}
use Rattle.std.proofs.lemmas.Grind.{common_steps}
use Rattle.std.proofs.lemmas.List.{take_more_set, take-replicate, length-replicate}
use borrow.Rule.Slice.PartMut.{put_mid}
use Rattle.std.specs.List.{list_any}
use Rattle.std.specs.Option.{is_some, option_copied}
use Rattle.opc_names.specs.declared.token.Token.{Token}
use Rattle.opc_names.specs.declared.token.Token.TheVariants.{Literal, Percent, Star, Stars}
use Rattle.opc_names.specs.Names.{qualifiers}
use Rattle.opc_names.specs.Patterns.{tokens, matches, ends_in_star, is_empty, suffixes, covers}
use Rattle.opc_names.specs.Walk.{qualifiers_left, covered_suffixes, any_from_here}
use Rattle.opc_names.proofs.Parts.{qualifiers_some}
use Rattle.opc_names.proofs.Stars.{BeginsOther}

-- what a qualifier other than `**` covers with those after it
computed_part : (q : List Token) (p : List (List Token)) (s : List ℕ) (r : List (List ℕ)) → BeginsOther q
    → covers (q ∷ p) (s ∷ r) ≡ (matches q s && (is_empty p && ends_in_star q || covers p r))
computed_part [] p s r b = refl
computed_part (Literal c ∷ q) p s r b = refl
computed_part (Percent ∷ q) p s r b = refl
computed_part (Star ∷ q) p s r b = refl
computed_part (Stars ∷ q) p s r b = absurd b

next_suffix : (p : List (List Token)) (s : List ℕ) (r : List (List ℕ)) → slice_index_or (covered_suffixes p (s ∷ r)) 1 false ≡ covers p r
next_suffix p s [] = refl
next_suffix p s (x ∷ r) = refl

pub two_suffixes : (p : List (List Token)) (s : List ℕ) (r : List (List ℕ)) → 1 < length (covered_suffixes p (s ∷ r))
two_suffixes p s [] = omega arith
two_suffixes p s (x ∷ r) = omega arith

-- no qualifier is left if and only if there is no text
pub none_is_empty : (text : Option (Bor (List ℕ))) (b : Bool) → is_some text ≡ not b → b ≡ is_empty (map tokens (qualifiers_left (option_copied text)))
none_is_empty None true e = refl
none_is_empty None false e = cc
none_is_empty (Some x) true e = cc
none_is_empty (Some x) false e = some_left (qualifiers x.now) (qualifiers_some x.now)
  where
    some_left : (parts : List (List ℕ)) → (parts ≡ [] → ⊥) → false ≡ is_empty (map tokens parts)
    some_left [] h = absurd (h refl)
    some_left (q ∷ parts) h = refl

pub prepended_part : (q : List Token) (p : List (List Token)) (s : List ℕ) (r : List (List ℕ)) (old new : List Bool)
    (last here : Bool) → BeginsOther q → last ≡ is_empty p → old ≡ covered_suffixes p (s ∷ r)
    → new ≡ covered_suffixes (q ∷ p) r
    → here ≡ (matches q s && (last && ends_in_star q || slice_index_or old 1 false)) → here ∷ new ≡ covered_suffixes (q ∷ p) (s ∷ r)
prepended_part q p s r old new last here b e f g h =
    let one = computed_part q p s r b in
    let first : slice_index_or old 1 false ≡ covers p r = rw f (next_suffix p s r) in
    let k : here ≡ (matches q s && (is_empty p && ends_in_star q || covers p r)) = rw (sym e, sym first) h in
    cc

any_covered : (p : List (List Token)) (rs : List (List (List ℕ))) → list_any (λ b. b) (map (covers p) rs) ≡ list_any (covers p) rs
any_covered p [] = refl
any_covered p (r ∷ rs) = ap (λ b. covers p r || b) (any_covered p rs)

-- after `**`, a suffix is covered if it or a shorter one was
pub prepended_stars : (q : List Token) (p : List (List Token)) (r : List (List ℕ)) → any_from_here (covered_suffixes p r) ≡ covered_suffixes ((Stars ∷ q) ∷ p) r
prepended_stars q p [] = refl
prepended_stars q p (s ∷ r) = let here = any_covered p (suffixes (s ∷ r)) in let rest = prepended_stars q p r in cc

-- without qualifiers, only the empty suffix is covered
pub nothing_is : (r : List (List ℕ)) → covered_suffixes [] r ≡ replicate (length r) false ++ true ∷ []
nothing_is [] = refl
nothing_is (s ∷ r) = ap (λ bs. false ∷ bs) (nothing_is r)

-- the first of a list and what follows it, each written
pub prefix_written : (old new : List Bool) (x : Bool) → 0 < length old → slice_set (put_mid 1 (length old - 1) old new) 0 x ≡ x ∷ new
prefix_written [] new x h = absurd (omega (arith, h))
prefix_written (b ∷ bs) new x h = grind (arith, common_steps)

-- the places for the suffixes of a name, of which only the last is true, stand for a pattern without qualifiers
pub nothing_prepended : (n : ℕ) (r : List (List ℕ)) → length r < n → take (length r + 1) (slice_set (replicate n false) (length r) true) ≡ covered_suffixes [] r
nothing_prepended n r h =
    let short : length r < length (replicate n false) = rw length-replicate h in
    let few : length r ≤ n = omega arith in
    take_more_set (replicate n false) (length r) true short ∙ ap (λ bs. bs ++ true ∷ []) (take-replicate (length r) n false few) ∙ sym (nothing_is r)

-- the first place is that of the whole name
pub first_covers : (p : List (List Token)) (r : List (List ℕ)) (covered more : List Bool)
    → covered ≡ covered_suffixes p r → slice_index_or (covered ++ more) 0 false ≡ covers p r
first_covers p [] covered more e = rw e refl
first_covers p (s ∷ r) covered more e = rw e refl
