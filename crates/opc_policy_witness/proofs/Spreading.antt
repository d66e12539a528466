-- The masks of a pattern, as the code makes them from its text.
use Rattle.std.proofs.Common.{
  ◌≡◌,
  ◌≢◌,
  ℕ,
  ◌-◌,
  ◌<◌,
  ◌≤◌,
  ◌==◌,
  Bool,
  true,
  false,
  if◌then◌else◌,
  ◌&&◌,
  List,
  [],
  ◌∷◌,
  ◌++◌,
  Option,
  Some,
  None,
  map,
  drop,
  get_or,
  length,
  replicate,
  append_assoc,
  refl,
  ap,
  sym,
  ◌∙◌,
  arith,
  suc,
  inl,
  inr,
  subst,
  IsTrue,
  ◌↔◌,
  Result,
  Ok,
  Err,
  OnOk,
}
use Rattle.std.specs.Option.{option_map}
use Rattle.std.proofs.lemmas.Bool.Decides.{eqb_tells}
use Rattle.std.proofs.lemmas.List.{map-append, replicate-append-replicate}
use Rattle.opc_names.specs.declared.token.Token.{Token}
use Rattle.opc_names.specs.declared.token.Token.TheVariants.{Literal, Percent, Star, Stars}
use Rattle.opc_names.specs.Patterns.{ends_in_star, is_empty, token_of, tokens}
use Rattle.opc_names.specs.Walk.{IsQualifier, StarOnlyLast}
use Rattle.opc_names.proofs.Stars.{BeginsOther, begins_other, tokens-other}
use Rattle.opc_policy_witness.specs.declared.pieces.FormPiece.{FormPiece}
use Rattle.opc_policy_witness.specs.Pieces.{
  begins_with_stars,
  behind,
  cell_of,
  mask_of,
  masks_of,
  open_mask,
  size,
  skipping,
  spread,
  width,
}

abbrev Mask : Type 0
Mask = List (Option ℕ)

-- ---- qualifiers

pub last_star_of : (q : List ℕ) (b : Bool) → IsQualifier q → (IsTrue b ↔ (q ≡ 42 ∷ 42 ∷ [])) → b ≡ false → StarOnlyLast q
last_star_of q b (inl e) h other = absurd (let bad : true ≡ false = sym (h.1 e) ∙ other in cc)
last_star_of q b (inr k) h other = k

other_begins : (q : List Token) (p : List (List Token)) → BeginsOther q → begins_with_stars (q ∷ p) ≡ false
other_begins [] p b = refl
other_begins (Literal c ∷ q) p b = refl
other_begins (Percent ∷ q) p b = refl
other_begins (Star ∷ q) p b = refl
other_begins (Stars ∷ q) p b = absurd b

no_stars : (q : List ℕ) → StarOnlyLast q → q ≡ 42 ∷ 42 ∷ [] → ⊥
no_stars q h e = (subst (λ x. StarOnlyLast x) e h).0 refl

false_of : (b : Bool) → (b ≡ true → ⊥) → b ≡ false
false_of true h = absurd (h refl)
false_of false h = refl

pub first_stars : (q : List ℕ) (qs : List (List ℕ)) (b : Bool) → IsQualifier q → (IsTrue b ↔ (q ≡ 42 ∷ 42 ∷ []))
    → b ≡ begins_with_stars (map tokens (q ∷ qs))
first_stars q qs b (inl e) h = h.1 e ∙ ap (λ x. begins_with_stars (tokens x ∷ map tokens qs)) (sym e)
first_stars q qs b (inr k) h =
    false_of b (λ t. no_stars q k (h.0 t)) ∙ sym (other_begins (tokens q) (map tokens qs) (begins_other q k))

pub on_ok : {T E : Type 0} (result : Result T E) (P Q : Type 0) → OnOk result P → (P → Q) → OnOk result Q
on_ok (Ok v) P Q h f = f h
on_ok (Err e) P Q h f = tt

-- ---- what one qualifier asks

spread_first : (c : ℕ) (q : List Token) (n : ℕ) → c ≢ 42 → spread (token_of c ∷ q) (suc n) ≡ option_map (λ mask. cell_of c ∷ mask) (spread q n)
spread_first c q n h =
    elim (eqb_tells c 42) [
      | inl k ↦ absurd (h k.1)
      | inr k ↦ rw k.0 (elim (c == 37) as (λ b. spread ((if b then Percent else Literal c) ∷ q) (suc n)
          ≡ option_map (λ mask. (if b then None else Some c) ∷ mask) (spread q n)) [ true ↦ refl | false ↦ refl ])
    ]

behind_head : (head : Mask) (cell : Option ℕ) (found : Option Mask)
    → option_map (λ mask. (head ++ cell ∷ []) ++ mask) found ≡ option_map (λ mask. head ++ mask) (option_map (λ mask. cell ∷ mask) found)
behind_head head cell None = refl
behind_head head cell (Some mask) = ap Some (append_assoc head (cell ∷ []) mask)

pub spread_behind : (q : List ℕ) (head longer : Mask) (n : ℕ) (d : ℕ) → 1 ≤ length q → get_or q 0 d ≢ 42 → 0 < n
    → longer ≡ head ++ cell_of (get_or q 0 d) ∷ []
    → option_map (λ mask. longer ++ mask) (spread (tokens (drop 1 q)) (n - 1)) ≡ option_map (λ mask. head ++ mask) (spread (tokens q) n)
spread_behind [] head longer n d h k some is = absurd (omega (arith, h))
spread_behind (c ∷ q) head longer n d h k some is =
    let e : suc (n - 1) ≡ n = omega (arith, some) in
    ap (λ l. option_map (λ mask. l ++ mask) (spread (tokens q) (n - 1))) is
    ∙ behind_head head (cell_of c) (spread (tokens q) (n - 1))
    ∙ ap (λ f. option_map (λ mask. head ++ mask) f) (sym (spread_first c (tokens q) (n - 1) k)
    ∙ ap (λ m. spread (token_of c ∷ tokens q) m) e ∙ ap (λ t. spread t n) (sym (tokens-other c q k)))

pub spread_none : (q : List ℕ) (n : ℕ) (d : ℕ) → 1 ≤ length q → get_or q 0 d ≢ 42 → n ≡ 0 → spread (tokens q) n ≡ None
spread_none [] n d h k e = absurd (omega (arith, h))
spread_none (c ∷ q) n d h k e = ap (λ t. spread t n) (tokens-other c q k) ∙ ap (λ m. spread (token_of c ∷ tokens q) m) e ∙ by where
  by : spread (token_of c ∷ tokens q) 0 ≡ None
  by =
      elim (eqb_tells c 42) [
        | inl m ↦ absurd (k m.1)
        | inr m ↦ rw m.0 (elim (c == 37) as (λ b. spread ((if b then Percent else Literal c) ∷ tokens q) 0 ≡ None) [ true ↦ refl | false ↦ refl ])
      ]

pub spread_star : (q : List ℕ) (n : ℕ) (d : ℕ) → 1 ≤ length q → get_or q 0 d ≡ 42 → StarOnlyLast q → spread (tokens q) n ≡ Some (replicate n None)
spread_star [] n d h k last = absurd (omega (arith, h))
spread_star (c ∷ []) n d h k last = ap (λ x. spread (token_of x ∷ []) n) k
spread_star (c ∷ (e ∷ q)) n d h k last = absurd (last.0 k)

-- ---- masks behind a head

pub behind_all : (head cells : Mask) (masks : List Mask)
    → map (λ mask. (head ++ cells) ++ mask) masks ≡ map (λ mask. head ++ mask) (map (λ mask. cells ++ mask) masks)
behind_all head cells [] = refl
behind_all head cells (mask ∷ masks) =
    ap (λ m. m ∷ map (λ mask. (head ++ cells) ++ mask) masks) (append_assoc head cells mask)
    ∙ ap (λ l. (head ++ (cells ++ mask)) ∷ l) (behind_all head cells masks)

pub open_is : (pieces : List FormPiece) → open_mask pieces ≡ replicate (size pieces) None
open_is [] = refl
open_is (piece ∷ pieces) = ap (λ l. replicate (width piece) None ++ l) (open_is pieces) ∙ replicate-append-replicate (width piece) (size pieces) None

-- ---- the masks of a pattern whose first qualifier is another than `**`

part_empty : (q : List Token) (p : List (List Token)) → BeginsOther q → masks_of (q ∷ p) [] ≡ []
part_empty [] p b = refl
part_empty (Literal c ∷ q) p b = refl
part_empty (Percent ∷ q) p b = refl
part_empty (Star ∷ q) p b = refl
part_empty (Stars ∷ q) p b = absurd b

part_more : (q : List Token) (p : List (List Token)) (piece : FormPiece) (pieces : List FormPiece) → BeginsOther q
    → masks_of (q ∷ p) (piece ∷ pieces)
    ≡ behind (mask_of q piece) (if is_empty p && ends_in_star q then open_mask pieces ∷ [] else masks_of p pieces)
part_more [] p piece pieces b = refl
part_more (Literal c ∷ q) p piece pieces b = refl
part_more (Percent ∷ q) p piece pieces b = refl
part_more (Star ∷ q) p piece pieces b = refl
part_more (Stars ∷ q) p piece pieces b = absurd b

pub none_left : (q : List ℕ) (p : List (List Token)) (pieces : List FormPiece) → StarOnlyLast q → length pieces < 1 → masks_of (tokens q ∷ p) pieces ≡ []
none_left q p [] last h = part_empty (tokens q) p (begins_other q last)
none_left q p (piece ∷ pieces) last h = absurd (omega (arith, h))

pub none_matched : (q : List ℕ) (p : List (List Token)) (pieces : List FormPiece) (d : FormPiece) (head : Mask) → StarOnlyLast q → 1 ≤ length pieces
    → None ≡ option_map (λ mask. head ++ mask) (mask_of (tokens q) (get_or pieces 0 d)) → masks_of (tokens q ∷ p) pieces ≡ []
none_matched q p [] d head last h e = absurd (omega (arith, h))
none_matched q p (piece ∷ pieces) d head last h e =
    part_more (tokens q) p piece pieces (begins_other q last)
    ∙ lost (mask_of (tokens q) piece) (if is_empty p && ends_in_star (tokens q) then open_mask pieces ∷ [] else masks_of p pieces) e where
      lost : (found : Option Mask) (masks : List Mask) → None ≡ option_map (λ mask. head ++ mask) found → behind found masks ≡ []
      lost None masks k = refl
      lost (Some mask) masks k = cc

-- a mask behind the head, and the masks of what is left behind it
matched_behind : (head longer : Mask) (found : Option Mask) (masks : List Mask) → Some longer ≡ option_map (λ mask. head ++ mask) found
    → map (λ mask. head ++ mask) (behind found masks) ≡ map (λ mask. longer ++ mask) masks
matched_behind head longer None masks e = cc
matched_behind head longer (Some mask) masks e =
    sym (behind_all head mask masks) ∙ ap (λ l. map (λ rest. l ++ rest) masks) (sym (same longer (head ++ mask) e)) where
      same : (x y : Mask) → Some x ≡ Some y → x ≡ y
      same x y k = cc

pub matched_last : (q : List ℕ) (p : List (List Token)) (pieces : List FormPiece) (d : FormPiece) (head longer whole : Mask) → StarOnlyLast q → 1 ≤ length pieces
    → Some longer ≡ option_map (λ mask. head ++ mask) (mask_of (tokens q) (get_or pieces 0 d)) → (is_empty p && ends_in_star (tokens q)) ≡ true
    → whole ≡ longer ++ replicate (size (drop 1 pieces)) None → whole ∷ [] ≡ map (λ mask. head ++ mask) (masks_of (tokens q ∷ p) pieces)
matched_last q p [] d head longer whole last h e star is = absurd (omega (arith, h))
matched_last q p (piece ∷ pieces) d head longer whole last h e star is =
    sym (ap (map (λ mask. head ++ mask)) (part_more (tokens q) p piece pieces (begins_other q last)
    ∙ ap (λ b. behind (mask_of (tokens q) piece) (if b then open_mask pieces ∷ [] else masks_of p pieces)) star)
    ∙ matched_behind head longer (mask_of (tokens q) piece) (open_mask pieces ∷ []) e
    ∙ ap (λ l. (longer ++ l) ∷ []) (open_is pieces) ∙ ap (λ l. l ∷ []) (sym is))

pub matched_more : (q : List ℕ) (p : List (List Token)) (pieces : List FormPiece) (d : FormPiece) (head longer : Mask) → StarOnlyLast q → 1 ≤ length pieces
    → Some longer ≡ option_map (λ mask. head ++ mask) (mask_of (tokens q) (get_or pieces 0 d)) → (is_empty p && ends_in_star (tokens q)) ≡ false
    → map (λ mask. longer ++ mask) (masks_of p (drop 1 pieces)) ≡ map (λ mask. head ++ mask) (masks_of (tokens q ∷ p) pieces)
matched_more q p [] d head longer last h e star = absurd (omega (arith, h))
matched_more q p (piece ∷ pieces) d head longer last h e star =
    sym (ap (map (λ mask. head ++ mask)) (part_more (tokens q) p piece pieces (begins_other q last)
    ∙ ap (λ b. behind (mask_of (tokens q) piece) (if b then open_mask pieces ∷ [] else masks_of p pieces)) star)
    ∙ matched_behind head longer (mask_of (tokens q) piece) (masks_of p pieces) e)

-- ---- the masks of a pattern whose first qualifier is `**`

pub twice : (p : List (List Token)) (pieces : List FormPiece) → begins_with_stars p ≡ true → masks_of (tokens (42 ∷ 42 ∷ []) ∷ p) pieces ≡ masks_of p pieces
twice [] pieces h = cc
twice ([] ∷ p) pieces h = cc
twice ((Literal c ∷ q) ∷ p) pieces h = cc
twice ((Percent ∷ q) ∷ p) pieces h = cc
twice ((Star ∷ q) ∷ p) pieces h = cc
twice ((Stars ∷ q) ∷ p) pieces h = refl

stars_skip : (p : List (List Token)) (pieces : List FormPiece) → begins_with_stars p ≡ false → masks_of ((Stars ∷ []) ∷ p) pieces ≡ skipping (masks_of p) pieces
stars_skip [] pieces h = refl
stars_skip ([] ∷ p) pieces h = refl
stars_skip ((Literal c ∷ q) ∷ p) pieces h = refl
stars_skip ((Percent ∷ q) ∷ p) pieces h = refl
stars_skip ((Star ∷ q) ∷ p) pieces h = refl
stars_skip ((Stars ∷ q) ∷ p) pieces h = cc

pub skipped_none : (p : List (List Token)) (pieces : List FormPiece) → begins_with_stars p ≡ false → length pieces < 1
    → masks_of (tokens (42 ∷ 42 ∷ []) ∷ p) pieces ≡ masks_of p pieces
skipped_none p [] h k = stars_skip p [] h
skipped_none p (piece ∷ pieces) h k = absurd (omega (arith, k))

pub skipped_more : (p : List (List Token)) (pieces : List FormPiece) (d : FormPiece) (head longer : Mask) (before middle after : List Mask)
    → begins_with_stars p ≡ false → 1 ≤ length pieces → longer ≡ head ++ replicate (width (get_or pieces 0 d)) None
    → middle ≡ before ++ map (λ mask. head ++ mask) (masks_of p pieces)
    → after ≡ middle ++ map (λ mask. longer ++ mask) (masks_of (tokens (42 ∷ 42 ∷ []) ∷ p) (drop 1 pieces))
    → after ≡ before ++ map (λ mask. head ++ mask) (masks_of (tokens (42 ∷ 42 ∷ []) ∷ p) pieces)
skipped_more p [] d head longer before middle after h k is one two = absurd (omega (arith, k))
skipped_more p (piece ∷ pieces) d head longer before middle after h k is one two =
    let skipped = replicate (width piece) None in
    let rest = masks_of ((Stars ∷ []) ∷ p) pieces in
    let same : rest ≡ skipping (masks_of p) pieces = stars_skip p pieces h in
    let own : map (λ mask. longer ++ mask) rest ≡ map (λ mask. head ++ mask) (map (λ mask. skipped ++ mask) rest) =
    ap (λ l. map (λ mask. l ++ mask) rest) is ∙ behind_all head skipped rest in
    two ∙ ap (λ l. l ++ map (λ mask. longer ++ mask) rest) one
    ∙ append_assoc before (map (λ mask. head ++ mask) (masks_of p (piece ∷ pieces))) (map (λ mask. longer ++ mask) rest)
    ∙ ap (λ l. before ++ (map (λ mask. head ++ mask) (masks_of p (piece ∷ pieces)) ++ l)) own
    ∙ ap (λ l. before ++ l) (sym (map-append (λ mask. head ++ mask) (masks_of p (piece ∷ pieces)) (map (λ mask. skipped ++ mask) rest)))
    ∙ ap (λ r. before ++ map (λ mask. head ++ mask) (masks_of p (piece ∷ pieces) ++ map (λ mask. skipped ++ mask) r)) same
    ∙ ap (λ l. before ++ map (λ mask. head ++ mask) l) (sym (stars_skip p (piece ∷ pieces) h))
