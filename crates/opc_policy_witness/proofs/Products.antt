-- The masks of names that fit a mask of each of several patterns.
use Rattle.std.proofs.Common.{
  ◌≡◌,
  ℕ,
  ◌+◌,
  ◌<◌,
  ◌≤◌,
  ◌==◌,
  Bool,
  true,
  false,
  ◌&&◌,
  ◌||◌,
  List,
  [],
  ◌∷◌,
  ◌++◌,
  Option,
  Some,
  None,
  Vec,
  Global,
  map,
  take,
  drop,
  get_or,
  length,
  replicate,
  append_assoc,
  refl,
  ap,
  sym,
  ◌∙◌,
  subst,
  arith,
  zero,
  suc,
  not,
  inl,
  inr,
  zero,
  suc,
}
use Rattle.std.specs.List.{list_all, list_any}
use Rattle.std.specs.Option.{option_map}
use Rattle.std.proofs.lemmas.Bool.Decides.{eqb_tells}
use Rattle.std.proofs.lemmas.List.{take_more, map-append}
use Rattle.std.proofs.lemmas.List.Folds.{list_any-append, list_all-append}
use Rattle.opc_names.specs.Patterns.{tokens}
use Rattle.opc_names.specs.Names.{qualifiers}
use Rattle.opc_policy_witness.specs.declared.pieces.FormPiece.{FormPiece}
use Rattle.opc_policy_witness.specs.declared.places.NamePlace.{NamePlace}
use Rattle.opc_policy_witness.specs.Masks.{
  behind_cell,
  common_cell,
  fits,
  fits_one,
  fits_place,
  is_among,
  is_between,
  may_stand_all,
  merged,
}
use Rattle.opc_policy_witness.specs.Pieces.{filled, masks_of, size}
use Rattle.opc_policy_witness.specs.Witness.{covers_parts}
use Rattle.opc_policy_witness.proofs.Between.{both, or_right}
use Rattle.opc_policy_witness.proofs.Covering.{and_false, covers_fits, fits_found, open_fits, or_false}

abbrev Masks : Type 0
Masks = List (Vec (Option ℕ) Global)

abbrev pub fits_vec : Masks → List ℕ → Bool
fits_vec masks s = fits_one (map (λ m. m.items) masks) s

-- ---- two masks together

abbrev fits_cell : Option (Option ℕ) → ℕ → Bool
fits_cell None c = false
fits_cell (Some cell) c = fits_place cell c

and_true_right : (a : Bool) → a ≡ (a && true)
and_true_right true = refl
and_true_right false = refl

and_same : (a : Bool) → a ≡ (a && a)
and_same true = refl
and_same false = refl

cell_fits : (a b : Option ℕ) (c : ℕ) → fits_cell (common_cell a b) c ≡ (fits_place a c && fits_place b c)
cell_fits None b c = refl
cell_fits (Some x) None c = and_true_right (x == c)
cell_fits (Some x) (Some y) c =
    elim (eqb_tells x y) [
      | inl k ↦ rw (k.0, k.1) (and_same (y == c))
      | inr k ↦ rw k.0 (apart x y c k.1)
    ] where
      apart : (x y c : ℕ) → (x ≡ y → ⊥) → false ≡ ((x == c) && (y == c))
      apart x y c h =
          elim (eqb_tells x c) [
            | inl k ↦ elim (eqb_tells y c) [
              | inl m ↦ absurd (h (k.1 ∙ sym m.1))
              | inr m ↦ rw (m.0) (sym (and_false (x == c)))
            ]
            | inr k ↦ rw k.0 refl
          ]

behind_empty : (o : Option (Option ℕ)) (r : Option (List (Option ℕ))) → false ≡ fits_found (behind_cell o r) []
behind_empty None r = refl
behind_empty (Some cell) None = refl
behind_empty (Some cell) (Some mask) = refl

behind_fits : (o : Option (Option ℕ)) (r : Option (List (Option ℕ))) (c : ℕ) (s : List ℕ)
    → fits_found (behind_cell o r) (c ∷ s) ≡ (fits_cell o c && fits_found r s)
behind_fits None r c s = refl
behind_fits (Some cell) None c s = sym (and_false (fits_place cell c))
behind_fits (Some cell) (Some mask) c s = refl

swapped : (a b m n : Bool) → ((a && b) && (m && n)) ≡ ((a && m) && (b && n))
swapped true b true n = refl
swapped true b false n = and_false b
swapped false b m n = refl

pub merged_fits : (mask other : List (Option ℕ)) (s : List ℕ) → fits_found (merged mask other) s ≡ (fits mask s && fits other s)
merged_fits [] [] [] = refl
merged_fits [] [] (c ∷ s) = refl
merged_fits [] (b ∷ other) [] = refl
merged_fits [] (b ∷ other) (c ∷ s) = refl
merged_fits (a ∷ mask) [] [] = refl
merged_fits (a ∷ mask) [] (c ∷ s) = sym (and_false (fits_place a c && fits mask s))
merged_fits (a ∷ mask) (b ∷ other) [] = sym (behind_empty (common_cell a b) (merged mask other))
merged_fits (a ∷ mask) (b ∷ other) (c ∷ s) =
    behind_fits (common_cell a b) (merged mask other) c s
    ∙ ap (λ x. x && fits_found (merged mask other) s) (cell_fits a b c)
    ∙ ap (λ x. (fits_place a c && fits_place b c) && x) (merged_fits mask other s)
    ∙ swapped (fits_place a c) (fits_place b c) (fits mask s) (fits other s)

-- as the code makes them
behind_start : (start : List (Option ℕ)) (cell : Option ℕ) (r : Option (List (Option ℕ)))
    → option_map (λ rest. start ++ rest) (option_map (λ mask. cell ∷ mask) r) ≡ option_map (λ rest. (start ++ cell ∷ []) ++ rest) r
behind_start start cell None = refl
behind_start start cell (Some mask) = ap Some (sym (append_assoc start (cell ∷ []) mask))

pub common_more : (mask other start next : List (Option ℕ)) (d e : Option ℕ) (both : Option ℕ) (last : Option (List (Option ℕ)))
    → 1 ≤ length mask → 1 ≤ length other → Some both ≡ common_cell (get_or mask 0 d) (get_or other 0 e) → next ≡ start ++ both ∷ []
    → option_map (λ rest. next ++ rest) (merged (drop 1 mask) (drop 1 other)) ≡ last
    → option_map (λ rest. start ++ rest) (merged mask other) ≡ last
common_more [] other start next d e both last h k is new rest = absurd (omega (arith, h))
common_more (a ∷ mask) [] start next d e both last h k is new rest = absurd (omega (arith, k))
common_more (a ∷ mask) (b ∷ other) start next d e both last h k is new rest =
    ap (λ o. option_map (λ r. start ++ r) (behind_cell o (merged mask other))) (sym is)
    ∙ behind_start start both (merged mask other)
    ∙ ap (λ n. option_map (λ r. n ++ r) (merged mask other)) (sym new) ∙ rest

pub common_none : (mask other : List (Option ℕ)) (d e : Option ℕ) (both : Option ℕ) → 1 ≤ length mask → 1 ≤ length other
    → Some both ≡ common_cell (get_or mask 0 d) (get_or other 0 e) → merged (drop 1 mask) (drop 1 other) ≡ None → merged mask other ≡ None
common_none [] other d e both h k is rest = absurd (omega (arith, h))
common_none (a ∷ mask) [] d e both h k is rest = absurd (omega (arith, k))
common_none (a ∷ mask) (b ∷ other) d e both h k is rest =
    ap (λ o. behind_cell o (merged mask other)) (sym is) ∙ ap (λ r. option_map (λ m. both ∷ m) r) rest

pub common_apart : (mask other : List (Option ℕ)) (d e : Option ℕ) → 1 ≤ length mask → 1 ≤ length other
    → None ≡ common_cell (get_or mask 0 d) (get_or other 0 e) → merged mask other ≡ None
common_apart [] other d e h k is = absurd (omega (arith, h))
common_apart (a ∷ mask) [] d e h k is = absurd (omega (arith, k))
common_apart (a ∷ mask) (b ∷ other) d e h k is = ap (λ o. behind_cell o (merged mask other)) (sym is)

-- ---- lists of masks, as they grow

pub one_more : (masks : Masks) (one : Vec (Option ℕ) Global) (s : List ℕ)
    → fits_vec (masks ++ one ∷ []) s ≡ (fits_vec masks s || fits one.items s)
one_more masks one s =
    ap (λ l. fits_one l s) (map-append (λ m. m.items) masks (one ∷ []))
    ∙ list_any-append (λ m. fits m s) (map (λ m. m.items) masks) (one.items ∷ [])
    ∙ ap (λ b. fits_vec masks s || b) (or_false (fits one.items s))

pub one_taken : (masks : Masks) (i : ℕ) (one : Vec (Option ℕ) Global) (s : List ℕ) → i < length masks → one ≡ get_or masks i one
    → fits_vec (take (i + 1) masks) s ≡ (fits_vec (take i masks) s || fits one.items s)
one_taken masks i one s h is =
    ap (λ l. fits_vec l s) (take_more masks i one h)
    ∙ ap (λ v. fits_vec (take i masks ++ v ∷ []) s) (sym is) ∙ one_more (take i masks) one s

or_more : (a b c : Bool) → ((a || b) || c) ≡ (a || (b || c))
or_more true b c = refl
or_more false b c = refl

and_over : (m b c : Bool) → ((m && b) || (m && c)) ≡ (m && (b || c))
and_over true b c = refl
and_over false b c = refl

found_fits : (found : Option (List (Option ℕ))) (v : List (Option ℕ)) (s : List ℕ) → option_map (λ rest. [] ++ rest) found ≡ Some v
    → fits v s ≡ fits_found found s
found_fits None v s h = cc
found_fits (Some mask) v s h = ap (λ o. fits_found o s) (sym h)

pub common_some : (others all next : Masks) (mask slice start : List (Option ℕ)) (i : ℕ) (other one : Vec (Option ℕ) Global) (s : List ℕ) (a : Bool)
    → i < length others → other ≡ get_or others i other → slice ≡ other.items → start ≡ []
    → option_map (λ rest. start ++ rest) (merged mask slice) ≡ Some one.items → next ≡ all ++ one ∷ []
    → fits_vec all s ≡ (a || fits mask s && fits_vec (take i others) s)
    → fits_vec next s ≡ (a || fits mask s && fits_vec (take (i + 1) others) s)
common_some others all next mask slice start i other one s a h at is empty new more before =
    let made : option_map (λ rest. [] ++ rest) (merged mask other.items) ≡ Some one.items =
    subst (λ x. option_map (λ rest. [] ++ rest) (merged mask x) ≡ Some one.items) is
    (subst (λ x. option_map (λ rest. x ++ rest) (merged mask slice) ≡ Some one.items) empty new) in
    ap (λ l. fits_vec l s) more ∙ one_more all one s
    ∙ ap (λ b. b || fits one.items s) before
    ∙ ap (λ b. (a || fits mask s && fits_vec (take i others) s) || b) (found_fits (merged mask other.items) one.items s made ∙ merged_fits mask other.items s)
    ∙ or_more a (fits mask s && fits_vec (take i others) s) (fits mask s && fits other.items s)
    ∙ ap (λ b. a || b) (and_over (fits mask s) (fits_vec (take i others) s) (fits other.items s)
    ∙ ap (λ b. fits mask s && b) (sym (one_taken others i other s h at)))

pub common_lost : (others all : Masks) (mask slice : List (Option ℕ)) (i : ℕ) (other : Vec (Option ℕ) Global) (s : List ℕ) (a : Bool)
    → i < length others → other ≡ get_or others i other → slice ≡ other.items → merged mask slice ≡ None
    → fits_vec all s ≡ (a || fits mask s && fits_vec (take i others) s)
    → fits_vec all s ≡ (a || fits mask s && fits_vec (take (i + 1) others) s)
common_lost others all mask slice i other s a h at is lost before =
    let none : false ≡ (fits mask s && fits other.items s) =
    ap (λ o. fits_found o s) (sym lost) ∙ merged_fits mask slice s ∙ ap (λ x. fits mask s && fits x s) is in
    before ∙ ap (λ b. a || b) (sym (or_false (fits mask s && fits_vec (take i others) s))
    ∙ ap (λ b. fits mask s && fits_vec (take i others) s || b) none
    ∙ and_over (fits mask s) (fits_vec (take i others) s) (fits other.items s)
    ∙ ap (λ b. fits mask s && b) (sym (one_taken others i other s h at)))

pub product_more : (masks : Masks) (i : ℕ) (one : Vec (Option ℕ) Global) (s : List ℕ) (a b c : Bool) → i < length masks → one ≡ get_or masks i one
    → a ≡ (fits_vec (take i masks) s && b) → c ≡ (a || fits one.items s && b) → c ≡ (fits_vec (take (i + 1) masks) s && b)
product_more masks i one s a b c h at before is =
    is ∙ ap (λ x. x || fits one.items s && b) before
    ∙ over (fits_vec (take i masks) s) (fits one.items s) b ∙ ap (λ x. x && b) (sym (one_taken masks i one s h at)) where
      over : (m n b : Bool) → ((m && b) || (n && b)) ≡ ((m || n) && b)
      over true n true = refl
      over true n false = and_false n
      over false n b = refl

-- ---- patterns

pub open_one : (masks before : Masks) (one : Vec (Option ℕ) Global) (n : ℕ) (head : List (Option ℕ)) (s : List ℕ) → before ≡ [] → masks ≡ before ++ one ∷ []
    → head ≡ [] → one.items ≡ head ++ replicate n None → length s ≡ n → fits_vec masks s ≡ true
open_one masks before one n head s empty new none is long =
    let mask : one.items ≡ replicate (length s) None = is ∙ ap (λ x. x ++ replicate n None) none ∙ ap (λ k. replicate k None) (sym long) in
    ap (λ l. fits_vec l s) (new ∙ ap (λ l. l ++ one ∷ []) empty)
    ∙ or_false (fits one.items s) ∙ ap (λ m. fits m s) mask ∙ open_fits s

map_nothing : (masks : List (List (Option ℕ))) → map (λ mask. [] ++ mask) masks ≡ masks
map_nothing [] = refl
map_nothing (mask ∷ masks) = ap (λ l. mask ∷ l) (map_nothing masks)

pub pattern_more : (p : List ℕ) (pieces : List FormPiece) (before after : List (List (Option ℕ))) (head : List (Option ℕ)) (s : List ℕ) → head ≡ []
    → length s ≡ size pieces → after ≡ before ++ map (λ mask. head ++ mask) (masks_of (map tokens (qualifiers p)) pieces)
    → fits_one after s ≡ (fits_one before s || covers_parts (filled pieces s) p)
pattern_more p pieces before after head s none long is =
    let masks = masks_of (map tokens (qualifiers p)) pieces in
    let own : map (λ mask. head ++ mask) masks ≡ masks = ap (λ h. map (λ mask. h ++ mask) masks) none ∙ map_nothing masks in
    ap (λ l. fits_one l s) (is ∙ ap (λ l. before ++ l) own)
    ∙ list_any-append (λ m. fits m s) before masks
    ∙ ap (λ b. fits_one before s || b) (sym (covers_fits (map tokens (qualifiers p)) pieces s long))

pub all_more : (f : List ℕ → Bool) (ps : List (List ℕ)) (i : ℕ) (p : List ℕ) → i < length ps → p ≡ get_or ps i p
    → list_all f (take (i + 1) ps) ≡ (list_all f (take i ps) && f p)
all_more f ps i p h at =
    ap (list_all f) (take_more ps i p h) ∙ ap (λ x. list_all f (take i ps ++ x ∷ [])) (sym at)
    ∙ list_all-append f (take i ps) (p ∷ []) ∙ ap (λ b. list_all f (take i ps) && b) (sym (and_true_right (f p)))

pub any_more : (f : List ℕ → Bool) (ps : List (List ℕ)) (i : ℕ) (p : List ℕ) → i < length ps → p ≡ get_or ps i p
    → list_any f (take (i + 1) ps) ≡ (list_any f (take i ps) || f p)
any_more f ps i p h at =
    ap (list_any f) (take_more ps i p h) ∙ ap (λ x. list_any f (take i ps ++ x ∷ [])) (sym at)
    ∙ list_any-append f (take i ps) (p ∷ []) ∙ ap (λ b. list_any f (take i ps) || b) (or_false (f p))

-- one of the first covers
pub one_of_first : (f : List ℕ → Bool) (ps : List (List ℕ)) (n : ℕ) → list_any f (take n ps) ≡ true → list_any f ps ≡ true
one_of_first f ps zero h = cc
one_of_first f [] (suc n) h = h
one_of_first f (p ∷ ps) (suc n) h = go (f p) h (one_of_first f ps n)
  where
    go : (b : Bool) → (b || list_any f (take n ps)) ≡ true → (list_any f (take n ps) ≡ true → list_any f ps ≡ true)
        → (b || list_any f ps) ≡ true
    go true k later = refl
    go false k later = later k

-- so a pattern that covers whatever there is ends them
pub covered_by_last : (f : List ℕ → Bool) (ps : List (List ℕ)) (i : ℕ) (p : List ℕ) (fit : Bool) → i < length ps → p ≡ get_or ps i p
    → fit ≡ true → fit ≡ (list_any f (take i ps) || f p) → fit ≡ list_any f ps
covered_by_last f ps i p fit low at fits is =
    fits ∙ sym (one_of_first f ps (i + 1) (any_more f ps i p low at ∙ sym is ∙ fits))

-- ---- one of the masks

pub fits_at : (masks : Masks) (i : ℕ) (one : Vec (Option ℕ) Global) (s : List ℕ) → i < length masks → one ≡ get_or masks i one
    → fits one.items s ≡ true → fits_vec masks s ≡ true
fits_at [] i one s h at is = absurd (omega (arith, h))
fits_at (m ∷ masks) zero one s h at is = rw (ap (λ (v : Vec (Option ℕ) Global). fits v.items s) (sym at) ∙ is) refl
fits_at (m ∷ masks) (suc i) one s h at is = or_right (fits m.items s) _ (fits_at masks i one s (omega (arith, h)) at is)

pub among_one : (at : List NamePlace) (masks : Masks) (mask : List (Option ℕ)) (exclude others : List (List (Option ℕ))) (i : ℕ) (one : Vec (Option ℕ) Global)
    (s : List ℕ) → i < length masks → one ≡ get_or masks i one → mask ≡ one.items → others ≡ exclude → is_between at mask others s ≡ true
    → is_among at (map (λ m. m.items) masks) exclude s ≡ true
among_one at masks mask exclude others i one s h is same rest found =
    let parts = both (may_stand_all at s) _ found in
    let sides = both (fits mask s) _ parts.1 in
    let one_fits : fits_vec masks s ≡ true = fits_at masks i one s h is (ap (λ m. fits m s) (sym same) ∙ sides.0) in
    let none_fits : not (fits_one exclude s) ≡ true = ap (λ l. not (fits_one l s)) (sym rest) ∙ sides.1 in
    rw (parts.0, one_fits, none_fits) refl
