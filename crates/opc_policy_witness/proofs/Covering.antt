-- The masks of a pattern say what it covers.
use Rattle.std.proofs.Common.{
  ◌≡◌,
  ℕ,
  zero,
  suc,
  ◌+◌,
  ◌==◌,
  subst,
  Bool,
  true,
  false,
  if◌then◌else◌,
  ◌&&◌,
  ◌||◌,
  List,
  [],
  ◌∷◌,
  ◌++◌,
  Option,
  Some,
  None,
  drop,
  length,
  map,
  replicate,
  take,
  refl,
  ap,
  sym,
  ◌∙◌,
  arith,
}
use Rattle.std.specs.List.{list_any}
use Rattle.std.specs.Option.{option_map}
use Rattle.std.proofs.lemmas.List.{length-drop, length-replicate, length-take, take-append-drop}
use Rattle.std.proofs.lemmas.List.Folds.{list_any-append}
use Rattle.opc_names.specs.declared.token.Token.{Token}
use Rattle.opc_names.specs.declared.token.Token.TheVariants.{Literal, Percent, Star, Stars}
use Rattle.opc_names.specs.Patterns.{covers, ends_in_star, is_empty, matches, suffixes}
use Rattle.opc_policy_witness.specs.declared.pieces.FormPiece.{FormPiece}
use Rattle.opc_policy_witness.specs.declared.pieces.FormPiece.TheVariants.{Word, Name}
use Rattle.opc_policy_witness.specs.Masks.{fits, fits_one, fits_place}
use Rattle.opc_policy_witness.specs.Pieces.{
  behind,
  filled,
  mask_of,
  masks_of,
  open_mask,
  qualifier,
  size,
  skipping,
  spread,
  width,
}

-- ---- names of a fixed length

abbrev pub fits_found : Option (List (Option ℕ)) → List ℕ → Bool
fits_found None s = false
fits_found (Some mask) s = fits mask s

pub and_false : (a : Bool) → (a && false) ≡ false
and_false true = refl
and_false false = refl

pub or_false : (a : Bool) → (a || false) ≡ a
or_false true = refl
or_false false = refl

and_more : (a b c : Bool) → (a && (b && c)) ≡ ((a && b) && c)
and_more true b c = refl
and_more false b c = refl

pub open_fits : (s : List ℕ) → fits (replicate (length s) None) s ≡ true
open_fits [] = refl
open_fits (c ∷ s) = open_fits s

first_found : (cell : Option ℕ) (found : Option (List (Option ℕ))) (c : ℕ) (s : List ℕ)
    → fits_found (option_map (λ mask. cell ∷ mask) found) (c ∷ s) ≡ (fits_place cell c && fits_found found s)
first_found cell None c s = sym (and_false (fits_place cell c))
first_found cell (Some mask) c s = refl

spread_fits : (q : List Token) (s : List ℕ) → matches q s ≡ fits_found (spread q (length s)) s
spread_fits [] [] = refl
spread_fits [] (c ∷ s) = refl
spread_fits (Literal a ∷ q) [] = refl
spread_fits (Literal a ∷ q) (c ∷ s) =
    ap (λ b. (a == c) && b) (spread_fits q s) ∙ sym (first_found (Some a) (spread q (length s)) c s)
spread_fits (Percent ∷ q) [] = refl
spread_fits (Percent ∷ q) (c ∷ s) = spread_fits q s ∙ sym (first_found None (spread q (length s)) c s)
spread_fits (Star ∷ q) s = sym (open_fits s)
spread_fits (Stars ∷ q) s = refl

-- a mask of so many places, if there is one
abbrev IsLong : Option (List (Option ℕ)) → ℕ → Type 0
IsLong None n = Unit {0}
IsLong (Some mask) n = length mask ≡ n

one_longer : (cell : Option ℕ) (found : Option (List (Option ℕ))) (n : ℕ) → IsLong found n
    → IsLong (option_map (λ mask. cell ∷ mask) found) (suc n)
one_longer cell None n h = tt
one_longer cell (Some mask) n h = ap suc h

spread_long : (q : List Token) (n : ℕ) → IsLong (spread q n) n
spread_long [] zero = refl
spread_long [] (suc n) = tt
spread_long (Literal a ∷ q) zero = tt
spread_long (Literal a ∷ q) (suc n) = one_longer (Some a) (spread q n) n (spread_long q n)
spread_long (Percent ∷ q) zero = tt
spread_long (Percent ∷ q) (suc n) = one_longer None (spread q n) n (spread_long q n)
spread_long (Star ∷ q) n = length-replicate n None
spread_long (Stars ∷ q) n = tt

mask_long : (q : List Token) (piece : FormPiece) → IsLong (mask_of q piece) (width piece)
mask_long q (Word text) =
    elim (matches q text.now) as (λ b. IsLong (if b then Some [] else None) 0) [ true ↦ refl | false ↦ tt ]
mask_long q (Name first n) = spread_long q n

mask_fits : (q : List Token) (piece : FormPiece) (t : List ℕ) → length t ≡ width piece
    → matches q (qualifier piece t) ≡ fits_found (mask_of q piece) t
mask_fits q (Word text) [] h =
    elim (matches q text.now) as (λ b. b ≡ fits_found (if b then Some [] else None) []) [ true ↦ refl | false ↦ refl ]
mask_fits q (Word text) (c ∷ t) h = absurd (omega (arith, h))
mask_fits q (Name first n) t h = spread_fits q t ∙ ap (λ m. fits_found (spread q m) t) h

-- ---- masks behind others

fits_behind : (mask rest : List (Option ℕ)) (t s : List ℕ) → length mask ≡ length t
    → fits (mask ++ rest) (t ++ s) ≡ (fits mask t && fits rest s)
fits_behind [] rest [] s h = refl
fits_behind [] rest (c ∷ t) s h = absurd (omega (arith, h))
fits_behind (cell ∷ mask) rest [] s h = absurd (omega (arith, h))
fits_behind (cell ∷ mask) rest (c ∷ t) s h =
    ap (λ b. fits_place cell c && b) (fits_behind mask rest t s (omega (arith, h)))
    ∙ and_more (fits_place cell c) (fits mask t) (fits rest s)

all_behind : (mask : List (Option ℕ)) (masks : List (List (Option ℕ))) (t s : List ℕ) → length mask ≡ length t
    → fits_one (map (λ rest. mask ++ rest) masks) (t ++ s) ≡ (fits mask t && fits_one masks s)
all_behind mask [] t s h = sym (and_false (fits mask t))
all_behind mask (rest ∷ masks) t s h =
    let one = fits_behind mask rest t s h in
    let others = all_behind mask masks t s h in
    rw (one, others) (spread_over (fits mask t) (fits rest s) (fits_one masks s)) where
      spread_over : (a b c : Bool) → ((a && b) || (a && c)) ≡ (a && (b || c))
      spread_over true b c = refl
      spread_over false b c = refl

found_behind : (found : Option (List (Option ℕ))) (masks : List (List (Option ℕ))) (t s : List ℕ) → IsLong found (length t)
    → fits_one (behind found masks) (t ++ s) ≡ (fits_found found t && fits_one masks s)
found_behind None masks t s h = refl
found_behind (Some mask) masks t s h = all_behind mask masks t s h

-- ---- the characters of the first piece, and the others

module _ (piece : FormPiece) (pieces : List FormPiece) (s : List ℕ) (h : length s ≡ width piece + size pieces) where
  first_long : length (take (width piece) s) ≡ width piece
  first_long = simp length-take (omega (arith, h))

  rest_long : length (drop (width piece) s) ≡ size pieces
  rest_long = simp length-drop (omega (arith, h))

open_all : (pieces : List FormPiece) (s : List ℕ) → length s ≡ size pieces → fits (open_mask pieces) s ≡ true
open_all [] [] h = refl
open_all [] (c ∷ s) h = absurd (omega (arith, h))
open_all (piece ∷ pieces) s h =
    let w = width piece in
    let t = take w s in
    let long = first_long piece pieces s h in
    let opened : fits (replicate w None) t ≡ true = subst (λ n. fits (replicate n None) t ≡ true) long (open_fits t) in
    ap (fits (open_mask (piece ∷ pieces))) (sym (take-append-drop w s))
    ∙ fits_behind (replicate w None) (open_mask pieces) t (drop w s) (length-replicate w None ∙ sym long)
    ∙ rw (opened, open_all pieces (drop w s) (rest_long piece pieces s h)) refl

-- ---- patterns

part_fits : (q : List Token) (p : List (List Token)) (piece : FormPiece) (pieces : List FormPiece) (s : List ℕ)
    → length s ≡ width piece + size pieces
    → covers p (filled pieces (drop (width piece) s)) ≡ fits_one (masks_of p pieces) (drop (width piece) s)
    → (matches q (qualifier piece (take (width piece) s))
    && (is_empty p && ends_in_star q || covers p (filled pieces (drop (width piece) s))))
    ≡ fits_one (behind (mask_of q piece) (if is_empty p && ends_in_star q then open_mask pieces ∷ [] else masks_of p pieces)) s
part_fits q p piece pieces s h rest =
    let w = width piece in
    let long = first_long piece pieces s h in
    let masks = if is_empty p && ends_in_star q then open_mask pieces ∷ [] else masks_of p pieces in
    ap (λ b. b && (is_empty p && ends_in_star q || covers p (filled pieces (drop w s)))) (mask_fits q piece (take w s) long)
    ∙ ap (λ b. fits_found (mask_of q piece) (take w s) && b) (others (is_empty p && ends_in_star q))
    ∙ sym (found_behind (mask_of q piece) masks (take w s) (drop w s) (subst (IsLong (mask_of q piece)) (sym long) (mask_long q piece)))
    ∙ ap (fits_one (behind (mask_of q piece) masks)) (take-append-drop w s) where
      others : (b : Bool) → (b || covers p (filled pieces (drop (width piece) s)))
          ≡ fits_one (if b then open_mask pieces ∷ [] else masks_of p pieces) (drop (width piece) s)
      others true = sym (or_false _ ∙ open_all pieces (drop (width piece) s) (rest_long piece pieces s h))
      others false = rest

skipped_fits : (p : List (List Token))
    → ((pieces : List FormPiece) (s : List ℕ) → length s ≡ size pieces → covers p (filled pieces s) ≡ fits_one (masks_of p pieces) s)
    → (pieces : List FormPiece) (s : List ℕ) → length s ≡ size pieces
    → list_any (covers p) (suffixes (filled pieces s)) ≡ fits_one (skipping (masks_of p) pieces) s
skipped_fits p rest [] s h = or_false (covers p []) ∙ rest [] s h
skipped_fits p rest (piece ∷ pieces) s h =
    let w = width piece in
    let t = take w s in
    let u = drop w s in
    let long = first_long piece pieces s h in
    let masks = skipping (masks_of p) pieces in
    let opened : fits (replicate w None) t ≡ true = subst (λ n. fits (replicate n None) t ≡ true) long (open_fits t) in
    let skipped : fits_one (map (λ mask. replicate w None ++ mask) masks) s ≡ fits_one masks u =
    ap (fits_one (map (λ mask. replicate w None ++ mask) masks)) (sym (take-append-drop w s))
    ∙ all_behind (replicate w None) masks t u (length-replicate w None ∙ sym long)
    ∙ rw opened refl in
    let others = skipped_fits p rest pieces u (rest_long piece pieces s h) in
    rw (rest (piece ∷ pieces) s h, others)
    (rw (sym skipped) (sym (list_any-append (λ mask. fits mask s) (masks_of p (piece ∷ pieces)) (map (λ mask. replicate w None ++ mask) masks))))

stars_twice : (f : List (List ℕ) → Bool) (r : List (List ℕ)) → list_any (λ x. list_any f (suffixes x)) (suffixes r) ≡ list_any f (suffixes r)
stars_twice f [] = or_false (f [] || false)
stars_twice f (x ∷ r) = rw (stars_twice f r) (again (f (x ∷ r)) (list_any f (suffixes r))) where
  again : (a b : Bool) → ((a || b) || b) ≡ (a || b)
  again true b = refl
  again false true = refl
  again false false = refl

-- a pattern covers a resource if and only if its names fit a mask of the pattern
pub covers_fits : (p : List (List Token)) (pieces : List FormPiece) (s : List ℕ) → length s ≡ size pieces
    → covers p (filled pieces s) ≡ fits_one (masks_of p pieces) s
covers_fits [] [] [] h = refl
covers_fits [] [] (c ∷ s) h = absurd (omega (arith, h))
covers_fits [] (piece ∷ pieces) s h = refl
covers_fits ((Stars ∷ q) ∷ []) pieces s h = skipped_fits [] (λ x y k. covers_fits [] x y k) pieces s h
covers_fits ((Stars ∷ q) ∷ ([] ∷ p)) pieces s h = skipped_fits ([] ∷ p) (λ x y k. covers_fits ([] ∷ p) x y k) pieces s h
covers_fits ((Stars ∷ q) ∷ ((Literal c ∷ r) ∷ p)) pieces s h =
    skipped_fits ((Literal c ∷ r) ∷ p) (λ x y k. covers_fits ((Literal c ∷ r) ∷ p) x y k) pieces s h
covers_fits ((Stars ∷ q) ∷ ((Percent ∷ r) ∷ p)) pieces s h =
    skipped_fits ((Percent ∷ r) ∷ p) (λ x y k. covers_fits ((Percent ∷ r) ∷ p) x y k) pieces s h
covers_fits ((Stars ∷ q) ∷ ((Star ∷ r) ∷ p)) pieces s h =
    skipped_fits ((Star ∷ r) ∷ p) (λ x y k. covers_fits ((Star ∷ r) ∷ p) x y k) pieces s h
covers_fits ((Stars ∷ q) ∷ ((Stars ∷ r) ∷ p)) pieces s h =
    stars_twice (covers p) (filled pieces s) ∙ covers_fits ((Stars ∷ r) ∷ p) pieces s h
covers_fits ([] ∷ p) [] s h = refl
covers_fits ((Literal c ∷ q) ∷ p) [] s h = refl
covers_fits ((Percent ∷ q) ∷ p) [] s h = refl
covers_fits ((Star ∷ q) ∷ p) [] s h = refl
covers_fits ([] ∷ p) (piece ∷ pieces) s h =
    part_fits [] p piece pieces s h (covers_fits p pieces (drop (width piece) s) (rest_long piece pieces s h))
covers_fits ((Literal c ∷ q) ∷ p) (piece ∷ pieces) s h =
    part_fits (Literal c ∷ q) p piece pieces s h (covers_fits p pieces (drop (width piece) s) (rest_long piece pieces s h))
covers_fits ((Percent ∷ q) ∷ p) (piece ∷ pieces) s h =
    part_fits (Percent ∷ q) p piece pieces s h (covers_fits p pieces (drop (width piece) s) (rest_long piece pieces s h))
covers_fits ((Star ∷ q) ∷ p) (piece ∷ pieces) s h =
    part_fits (Star ∷ q) p piece pieces s h (covers_fits p pieces (drop (width piece) s) (rest_long piece pieces s h))
