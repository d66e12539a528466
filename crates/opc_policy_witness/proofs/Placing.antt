-- The search over the lengths of names.
use Rattle.std.proofs.Common.{
  ◌≡◌,
  ◌≢◌,
  ℕ,
  ◌+◌,
  ◌-◌,
  ◌<◌,
  ◌≤◌,
  max,
  Bool,
  true,
  false,
  not,
  ◌&&◌,
  List,
  [],
  ◌∷◌,
  ◌++◌,
  Option,
  Some,
  None,
  Result,
  Ok,
  Err,
  IfOk,
  IfSome,
  drop,
  get_or,
  length,
  map,
  append-nil,
  append_assoc,
  refl,
  ap,
  sym,
  ◌∙◌,
  subst,
  arith,
  ◌⊎◌,
  inl,
  inr,
}
use Rattle.std.specs.List.{AllByRecursion, list_all, list_any}
use Rattle.std.proofs.lemmas.Bool.{cases_lt}
use Rattle.std.proofs.lemmas.List.{length-append}
use Rattle.opc_names.specs.Names.{qualifiers}
use Rattle.opc_policy_witness.specs.declared.forms.FormQualifier.{FormQualifier}
use Rattle.opc_policy_witness.specs.declared.pieces.FormPiece.{FormPiece}
use Rattle.opc_policy_witness.specs.declared.places.NamePlace.{NamePlace}
use Rattle.opc_policy_witness.specs.Forms.{
  AreWidths,
  IsFine,
  IsForm,
  least_width,
  most_of_all,
  most_size,
  most_width,
  piece_of,
  pieces_of,
  places,
  total,
}
use Rattle.opc_policy_witness.specs.Masks.{fits_one, is_among, may_stand_all}
use Rattle.opc_policy_witness.specs.Pieces.{filled, size}
use Rattle.opc_policy_witness.specs.Witness.{
  HaveText,
  IsFinePiece,
  IsPlaced,
  IsWitness,
  NonePlaced,
  covers_parts,
  is_found,
  joined,
  lies_between,
  room,
  room_of,
}
use Rattle.opc_policy_witness.proofs.Names.{both}
use Rattle.opc_policy_witness.proofs.Joining.{parts_joined, places_long, stands_long}
use Rattle.opc_policy_witness.proofs.Sizes.{
  all_behind,
  found_witness,
  longer,
  most_sizes,
  one_fine,
  one_room,
  pieces_fine,
  pieces_some,
  room_behind,
  total_most,
  witness_found,
}

-- ---- names of these lengths

pub among_is : (pieces : List FormPiece) (include exclude : List (List ℕ)) (at : List NamePlace) (inc exc : List (List (Option ℕ))) (s : List ℕ)
    → at ≡ places pieces
    → (length s ≡ size pieces → fits_one inc s ≡ list_all (covers_parts (filled pieces s)) include)
    → (length s ≡ size pieces → fits_one exc s ≡ list_any (covers_parts (filled pieces s)) exclude)
    → is_among at inc exc s ≡ is_found pieces include exclude s
among_is pieces include exclude at inc exc s is all any =
    ap (λ ps. may_stand_all ps s && (fits_one inc s && not (fits_one exc s))) is ∙ by (may_stand_all (places pieces) s) refl where
      by : (b : Bool) → may_stand_all (places pieces) s ≡ b
          → (b && (fits_one inc s && not (fits_one exc s))) ≡ (b && lies_between include exclude (filled pieces s))
      by false h = refl
      by true h =
          let long : length s ≡ size pieces = stands_long (places pieces) s h ∙ places_long pieces in
          ap (λ b. b && not (fits_one exc s)) (all long)
          ∙ ap (λ b. list_all (covers_parts (filled pieces s)) include && not b) (any long)

-- of what the included patterns do not cover
pub nothing_wanted : {M : Type 0} (cells : M → List (Option ℕ)) (pieces : List FormPiece) (include exclude : List (List ℕ)) (masks : List M) (s : List ℕ)
    → length masks ≡ 0 → (length s ≡ size pieces → fits_one (map cells masks) s ≡ list_all (covers_parts (filled pieces s)) include)
    → is_found pieces include exclude s ≡ false
nothing_wanted cells pieces include exclude (m ∷ masks) s none all = absurd (omega (arith, none))
nothing_wanted cells pieces include exclude [] s none all = by (may_stand_all (places pieces) s) refl where
  by : (b : Bool) → may_stand_all (places pieces) s ≡ b → (b && lies_between include exclude (filled pieces s)) ≡ false
  by false h = refl
  by true h =
      let long : length s ≡ size pieces = stands_long (places pieces) s h ∙ places_long pieces in
      ap (λ b. b && not (list_any (covers_parts (filled pieces s)) exclude)) (sym (all long))

pub if_found : {E : Type 0} (result : Result (Option (List ℕ)) E) (P : List ℕ → Type 0) (x : List ℕ) → P x
    → IfOk result (λ found. found ≡ Some x) → IfOk result (λ found. IfSome found P)
if_found (Ok None) P x h is = cc
if_found (Ok (Some y)) P x h is = subst P (same x y (sym is)) h where
  same : (a b : List ℕ) → Some a ≡ Some b → a ≡ b
  same a b e = cc
if_found (Err e) P x h is = tt

pub not_none : {E : Type 0} (result : Result (Option (List ℕ)) E) (x : List ℕ) → IfOk result (λ found. found ≡ Some x) → result ≡ Ok None → ⊥
not_none (Ok None) x is h = cc
not_none (Ok (Some y)) x is h = cc
not_none (Err e) x is h = cc

pub if_mapped : {E : Type 0} (result : Result (Option (List ℕ)) E) (P Q : List ℕ → Type 0) → ((x : List ℕ) → P x → Q x)
    → IfOk result (λ found. IfSome found P) → IfOk result (λ found. IfSome found Q)
if_mapped (Ok None) P Q f h = tt
if_mapped (Ok (Some x)) P Q f h = f x h
if_mapped (Err e) P Q f h = tt

pub have_text : (pieces : List FormPiece) (form : List FormQualifier) → length form < 1 → AllByRecursion IsFinePiece pieces
    → room pieces + most_of_all form ≤ 40 → 1 ≤ length pieces + length form → HaveText pieces
have_text [] form h fine short some = absurd (omega (arith, h, some))
have_text (piece ∷ pieces) form h fine short some = record { some = λ e. cc; fine = fine; short = omega (arith, short) }

pub no_form : (form : List FormQualifier) → length form < 1 → [] ≡ form
no_form [] h = refl
no_form (f ∷ form) h = absurd (omega (arith, h))

pub from_max : (start a b w : ℕ) → start ≡ max a b → start ≤ w → a ≤ w
from_max start a b w is h = omega (arith, is, h)

pub rest_size : (form : List FormQualifier) (k : ℕ) → k + most_of_all form ≤ 40 → most_size (drop 1 form) ≤ 40
rest_size [] k h = omega arith
rest_size (f ∷ form) k h = let few = most_sizes form in omega (arith, few, h)

-- ---- names in the places that are left of a form

module _ (pieces : List FormPiece) (include exclude : List (List ℕ)) where
  pub placed_last : (form : List FormQualifier) (n : ℕ) (r s : List ℕ) → length form < 1 → n ≡ 0 → is_found pieces include exclude s ≡ true
      → r ≡ joined (filled pieces s) → IsPlaced pieces form include exclude n r
  placed_last [] n r s h z found is = record {
    widths = [];
    characters = s;
    are = tt;
    in_all = sym z;
    found = subst (λ ps. is_found ps include exclude s ≡ true) (sym (append-nil pieces)) found;
    text = is ∙ ap (λ ps. joined (filled ps s)) (sym (append-nil pieces));
  }
  placed_last (f ∷ form) n r s h z found is = absurd (omega (arith, h))

  pub none_last : (form : List FormQualifier) (n : ℕ) → length form < 1 → ((s : List ℕ) → is_found pieces include exclude s ≡ false)
      → NonePlaced pieces form include exclude n
  none_last [] n h none [] s a e = subst (λ ps. is_found ps include exclude s ≡ false) (sym (append-nil pieces)) (none s)
  none_last [] n h none (w ∷ widths) s a e = absurd a
  none_last (f ∷ form) n h none widths s a e = absurd (omega (arith, h))

  pub none_size : (form : List FormQualifier) (n : ℕ) → length form < 1 → n ≢ 0 → NonePlaced pieces form include exclude n
  none_size [] n h z [] s a e = absurd (z (sym e))
  none_size [] n h z (w ∷ widths) s a e = absurd a
  none_size (f ∷ form) n h z widths s a e = absurd (omega (arith, h))

  pub placed_more : (form : List FormQualifier) (n w : ℕ) (d : FormQualifier) (more : List FormPiece) (r : List ℕ) → 1 ≤ length form
      → least_width (get_or form 0 d) ≤ w → w ≤ most_width (get_or form 0 d) → w ≤ n → more ≡ pieces ++ piece_of (get_or form 0 d) w ∷ []
      → IsPlaced more (drop 1 form) include exclude (n - w) r → IsPlaced pieces form include exclude n r
  placed_more [] n w d more r h some few less is p = absurd (omega (arith, h))
  placed_more (f ∷ form) n w d more r h some few less is p =
      let same : more ++ pieces_of form p.widths ≡ pieces ++ piece_of f w ∷ pieces_of form p.widths =
      ap (λ ps. ps ++ pieces_of form p.widths) is ∙ append_assoc pieces (piece_of f w ∷ []) (pieces_of form p.widths) in
      let sum = p.in_all in
      record {
        widths = w ∷ p.widths;
        characters = p.characters;
        are = (some, few, p.are);
        in_all = omega (arith, sum, less);
        found = subst (λ ps. is_found ps include exclude p.characters ≡ true) same p.found;
        text = p.text ∙ ap (λ ps. joined (filled ps p.characters)) same;
      }

  -- the pieces with one more, and what is left of the form
  pub record Next (more : List FormPiece) (left : List FormQualifier) : Type 0 where
    pub fine : AllByRecursion IsFinePiece more
    pub all : AllByRecursion IsFine (drop 1 left)
    pub short : room more + most_of_all (drop 1 left) ≤ 40
    pub some : 1 ≤ length more + length (drop 1 left)

  pub next : (form : List FormQualifier) (w : ℕ) (d : FormQualifier) (more : List FormPiece) (one : FormPiece) (start : ℕ) (end : ℕ) → 1 ≤ length form
      → start ≡ least_width (get_or form 0 d) → end ≡ most_width (get_or form 0 d) → start ≤ w → w ≤ end → one ≡ piece_of (get_or form 0 d) w
      → more ≡ pieces ++ one ∷ [] → AllByRecursion IsFinePiece pieces → AllByRecursion IsFine form → room pieces + most_of_all form ≤ 40
      → Next more form
  next [] w d more one start end h from to some few is new fine all short = absurd (omega (arith, h))
  next (f ∷ form) w d more one start end h from to some few is new fine all short =
      let long : room more ≡ room pieces + (room_of (piece_of f w) + 1) =
      ap room new ∙ room_behind pieces one ∙ ap (λ p. room pieces + (room_of p + 1)) is in
      let least : least_width f ≤ w = omega (arith, from, some) in
      let greatest : w ≤ most_width f = omega (arith, to, few) in
      let wide = one_room f w greatest in
      let more_long : length more ≡ length pieces + 1 = ap length new ∙ length-append pieces (one ∷ []) in
      record {
        fine = subst (λ ps. AllByRecursion IsFinePiece ps) (sym (new ∙ ap (λ p. pieces ++ p ∷ []) is))
            (all_behind pieces (piece_of f w) fine (one_fine f w all.0 least));
        all = all.1;
        short = omega (arith, long, wide, short);
        some = omega (arith, more_long);
      }

  -- no resource whose first name has fewer characters
  abbrev pub NoneBelow : List FormQualifier → ℕ → ℕ → Type 0
  NoneBelow form n end =
      (w : ℕ) → (widths s : List ℕ) → w < end → AreWidths form (w ∷ widths) → total (w ∷ widths) ≡ n
      → is_found (pieces ++ pieces_of form (w ∷ widths)) include exclude s ≡ false

  -- nor one that leaves more characters than the other names can have
  pub below_least : (form : List FormQualifier) (n start least bound : ℕ) (d : FormQualifier) → 1 ≤ length form
      → least ≡ least_width (get_or form 0 d) → bound ≡ n - most_size (drop 1 form) → start ≡ max least bound → NoneBelow form n start
  below_least [] n start least bound d h one rest is w widths s less a e = absurd (omega (arith, h))
  below_least (f ∷ form) n start least bound d h one rest is w widths s less a e =
      let some : least ≤ w = omega (arith, one, a.0) in
      let few = total_most form widths a.2 in
      let left : bound ≤ w = omega (arith, rest, few, e) in
      absurd (omega (arith, is, less, some, left))

  pub below_next : (form : List FormQualifier) (n width : ℕ) (d : FormQualifier) (more : List FormPiece) → 1 ≤ length form
      → more ≡ pieces ++ piece_of (get_or form 0 d) width ∷ [] → NoneBelow form n width → NonePlaced more (drop 1 form) include exclude (n - width)
      → NoneBelow form n (width + 1)
  below_next [] n width d more h is before none w widths s less a e = absurd (omega (arith, h))
  below_next (f ∷ form) n width d more h is before none w widths s less a e =
      elim (split w width less) [
        | inl k ↦ before w widths s k a e
        | inr k ↦ (
            let same : more ++ pieces_of form widths ≡ pieces ++ piece_of f w ∷ pieces_of form widths =
            ap (λ ps. ps ++ pieces_of form widths) (is ∙ ap (λ x. pieces ++ piece_of f x ∷ []) (sym k))
            ∙ append_assoc pieces (piece_of f w ∷ []) (pieces_of form widths) in
            let sum : total widths ≡ n - width = omega (arith, e, k) in
            subst (λ ps. is_found ps include exclude s ≡ false) same (none widths s a.2 sum))
      ] where
        split : (x y : ℕ) → x < y + 1 → (x < y) ⊎ (x ≡ y)
        split x y k = elim (cases_lt x y) [ inl m ↦ inl m | inr m ↦ inr (omega (arith, k, m)) ]

  pub below_all : (form : List FormQualifier) (n end : ℕ) (d : FormQualifier) → 1 ≤ length form
      → ((w : ℕ) → w ≤ most_width (get_or form 0 d) → w ≤ n → w < end) → NoneBelow form n end → NonePlaced pieces form include exclude n
  below_all [] n end d h all none widths s a e = absurd (omega (arith, h))
  below_all (f ∷ form) n end d h all none [] s a e = absurd a
  below_all (f ∷ form) n end d h all none (w ∷ widths) s a e =
      let few = a.1 in none w widths s (all w few (omega (arith, e))) a e

-- ---- all names of a form

abbrev pub NoneSmaller : List FormQualifier → List (List ℕ) → List (List ℕ) → ℕ → Type 0
NoneSmaller form include exclude n =
    (widths s : List ℕ) → AreWidths form widths → total widths < n → is_found (pieces_of form widths) include exclude s ≡ false

module _ (form : List FormQualifier) (include exclude : List (List ℕ)) where
  pub smaller_next : (n : ℕ) → NoneSmaller form include exclude n → NonePlaced [] form include exclude n → NoneSmaller form include exclude (n + 1)
  smaller_next n before none widths s a less =
      elim (split (total widths) n less) [ inl k ↦ before widths s a k | inr k ↦ none widths s a k ] where
        split : (x y : ℕ) → x < y + 1 → (x < y) ⊎ (x ≡ y)
        split x y k = elim (cases_lt x y) [ inl m ↦ inl m | inr m ↦ inr (omega (arith, k, m)) ]

  pub placed_witness : (n : ℕ) (r : List ℕ) → IsForm form → IsPlaced [] form include exclude n r → IsWitness form include exclude r
  placed_witness n r h p =
      let stand = (both _ _ p.found).0 in
      let is : qualifiers r ≡ filled (pieces_of form p.widths) p.characters =
      ap qualifiers p.text ∙ parts_joined (pieces_of form p.widths) p.characters (pieces_some form p.widths h.some p.are)
      (pieces_fine form p.widths h.fine p.are) stand in
      found_witness form include exclude p.widths p.characters r p.are p.found is

  pub placed_shortest : (n : ℕ) (r : List ℕ) → IsForm form → IsPlaced [] form include exclude n r → NoneSmaller form include exclude n
      → (other : List ℕ) → IsWitness form include exclude other → length r ≤ length other
  placed_shortest n r h p none other w =
      let q = witness_found form include exclude other w in
      let stand = (both _ _ p.found).0 in
      let is : qualifiers r ≡ filled (pieces_of form p.widths) p.characters =
      ap qualifiers p.text ∙ parts_joined (pieces_of form p.widths) p.characters (pieces_some form p.widths h.some p.are)
      (pieces_fine form p.widths h.fine p.are) stand in
      let sum = p.in_all in
      let less : n ≤ total q.widths = at_least (total q.widths) n (λ k. differ (none q.widths q.characters q.are k) q.found) in
      longer form include exclude p.widths q.widths p.characters q.characters r other h.fine p.are q.are p.found q.found is q.is
      (omega (arith, sum, less)) where
        differ : {b : Bool} → b ≡ false → b ≡ true → ⊥
        differ e f = absurd (let bad : false ≡ true = sym e ∙ f in cc)

        at_least : (x y : ℕ) → (x < y → ⊥) → y ≤ x
        at_least x y k = elim (cases_lt x y) [ inl l ↦ absurd (k l) | inr l ↦ l ]

  pub none_smaller : (n : ℕ) → most_size form < n → NoneSmaller form include exclude n → (r : List ℕ) → IsWitness form include exclude r → ⊥
  none_smaller n h none r w =
      let q = witness_found form include exclude r w in
      let few = total_most form q.widths q.are in
      let bad : false ≡ true = sym (none q.widths q.characters q.are (omega (arith, few, h))) ∙ q.found in cc
