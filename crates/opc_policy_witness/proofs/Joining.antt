-- Names and their places, and the text of a resource that is made of them.
use Rattle.std.proofs.Common.{
  ◌≡◌,
  ◌≢◌,
  ℕ,
  zero,
  suc,
  ◌+◌,
  ◌<◌,
  ◌≤◌,
  ◌==◌,
  Bool,
  true,
  false,
  cond,
  ◌&&◌,
  ◌||◌,
  List,
  [],
  ◌∷◌,
  ◌++◌,
  Some,
  None,
  drop,
  take,
  get_or,
  length,
  replicate,
  append-nil,
  append_assoc,
  refl,
  ap,
  sym,
  ◌∙◌,
  subst,
  arith,
  Result,
  Ok,
  Err,
  MatchResult,
}
use Rattle.std.specs.List.{AllByRecursion, list_all, onto_first}
use Rattle.std.proofs.lemmas.List.{length-append, length-replicate, take_more}
use Rattle.std.specs.Result.{result_ok}
use Rattle.opc_names.specs.declared.rule.Alphabet.TheVariants.{Qualified}
use Rattle.opc_names.specs.declared.rule.NameFault.{NameFault}
use Rattle.opc_names.specs.Names.{is_name_character, is_qualifier, may_follow, name_fault, qualifiers, resource_rule}
use Rattle.opc_names.proofs.Parts.{qualifiers_some}
use Rattle.opc_names.proofs.Resources.{Fine, fine_period, no_fault}
use Rattle.opc_policy_witness.specs.declared.pieces.FormPiece.{FormPiece}
use Rattle.opc_policy_witness.specs.declared.pieces.FormPiece.TheVariants.{Word, Name}
use Rattle.opc_policy_witness.specs.declared.places.NamePlace.{NamePlace}
use Rattle.opc_policy_witness.specs.declared.places.NamePlace.TheVariants.{Character, NoDigit}
use Rattle.opc_policy_witness.specs.Forms.{IsPart, name_places, piece_places, places}
use Rattle.opc_policy_witness.specs.Masks.{may_stand, may_stand_all}
use Rattle.opc_policy_witness.specs.Pieces.{filled, qualifier, size, width}
use Rattle.opc_policy_witness.specs.Witness.{IsFinePiece, joined, room, room_of}
use Rattle.opc_policy_witness.proofs.Names.{and_true, both, one_qualifier, weaker_all}

-- ---- places

pub stands_long : (ps : List NamePlace) (s : List ℕ) → may_stand_all ps s ≡ true → length s ≡ length ps
stands_long [] [] h = refl
stands_long [] (c ∷ s) h = cc
stands_long (p ∷ ps) [] h = cc
stands_long (p ∷ ps) (c ∷ s) h = ap suc (stands_long ps s (both (may_stand p c) _ h).1)

pub piece_long : (piece : FormPiece) → length (piece_places piece) ≡ width piece
piece_long (Word text) = refl
piece_long (Name first zero) = refl
piece_long (Name first (suc n)) = ap suc (length-replicate n Character)

pub places_long : (pieces : List FormPiece) → length (places pieces) ≡ size pieces
places_long [] = refl
places_long (piece ∷ pieces) =
    length-append (piece_places piece) (places pieces) ∙ ap (λ n. n + length (places pieces)) (piece_long piece)
    ∙ ap (λ n. width piece + n) (places_long pieces)

width_room : (piece : FormPiece) → width piece ≤ room_of piece
width_room (Word text) = omega arith
width_room (Name first n) = omega arith

pub size_room : (pieces : List FormPiece) → size pieces ≤ room pieces
size_room [] = omega arith
size_room (piece ∷ pieces) = let one = width_room piece in let rest = size_room pieces in omega (arith, one, rest)

places_append : (pieces more : List FormPiece) → places (pieces ++ more) ≡ places pieces ++ places more
places_append [] more = refl
places_append (piece ∷ pieces) more =
    ap (λ l. piece_places piece ++ l) (places_append pieces more) ∙ sym (append_assoc (piece_places piece) (places pieces) (places more))

pub places_more : (pieces : List FormPiece) (i : ℕ) (d : FormPiece) (all next : List NamePlace) → i < length pieces
    → next ≡ all ++ piece_places (get_or pieces i d) → all ≡ places (take i pieces) → next ≡ places (take (i + 1) pieces)
places_more pieces i d all next h is before =
    is ∙ ap (λ l. l ++ piece_places (get_or pieces i d)) before
    ∙ sym (ap places (take_more pieces i d h) ∙ places_append (take i pieces) (get_or pieces i d ∷ [])
    ∙ ap (λ l. places (take i pieces) ++ l) (append-nil (piece_places (get_or pieces i d))))

and_more : (a b c : Bool) → (a && (b && c)) ≡ ((a && b) && c)
and_more true b c = refl
and_more false b c = refl

stands_split : (ps qs : List NamePlace) (s : List ℕ)
    → may_stand_all (ps ++ qs) s ≡ (may_stand_all ps (take (length ps) s) && may_stand_all qs (drop (length ps) s))
stands_split [] qs s = refl
stands_split (p ∷ ps) qs [] = refl
stands_split (p ∷ ps) qs (c ∷ s) =
    ap (λ b. may_stand p c && b) (stands_split ps qs s)
    ∙ and_more (may_stand p c) (may_stand_all ps (take (length ps) s)) (may_stand_all qs (drop (length ps) s))

-- the characters of the first piece, and the others
pub first_stands : (piece : FormPiece) (pieces : List FormPiece) (s : List ℕ) → may_stand_all (places (piece ∷ pieces)) s ≡ true
    → (may_stand_all (piece_places piece) (take (width piece) s) ≡ true) × (may_stand_all (places pieces) (drop (width piece) s) ≡ true)
first_stands piece pieces s h =
    let parts = both _ _ (sym (stands_split (piece_places piece) (places pieces) s) ∙ h) in (
      subst (λ n. may_stand_all (piece_places piece) (take n s) ≡ true) (piece_long piece) parts.0,
      subst (λ n. may_stand_all (places pieces) (drop n s) ≡ true) (piece_long piece) parts.1,
    )

pub both_stand : (ps qs : List NamePlace) (t s : List ℕ) → may_stand_all ps t ≡ true → may_stand_all qs s ≡ true → may_stand_all (ps ++ qs) (t ++ s) ≡ true
both_stand [] qs [] s h k = k
both_stand [] qs (c ∷ t) s h k = cc
both_stand (p ∷ ps) qs [] s h k = cc
both_stand (p ∷ ps) qs (c ∷ t) s h k =
    let parts = both (may_stand p c) (may_stand_all ps t) h in and_true _ _ parts.0 (both_stand ps qs t s parts.1 k)

-- ---- names

pub of_characters : (s : List ℕ) → list_all is_name_character s ≡ true → may_stand_all (replicate (length s) Character) s ≡ true
of_characters [] h = refl
of_characters (c ∷ s) h =
    let parts = both (is_name_character c) (list_all is_name_character s) h in and_true _ _ parts.0 (of_characters s parts.1)

pub characters_of : (n : ℕ) (s : List ℕ) → may_stand_all (replicate n Character) s ≡ true → list_all is_name_character s ≡ true
characters_of zero [] h = refl
characters_of zero (c ∷ s) h = cc
characters_of (suc n) [] h = cc
characters_of (suc n) (c ∷ s) h =
    let parts = both (is_name_character c) (may_stand_all (replicate n Character) s) h in and_true _ _ parts.0 (characters_of n s parts.1)

first_may : (first : NamePlace) (c : ℕ) → may_stand first c ≡ true → is_name_character c ≡ true
first_may Character c h = h
first_may NoDigit c h = (both (is_name_character c) _ h).0

name_part : (first : NamePlace) (n : ℕ) (s : List ℕ) → 1 ≤ n → may_stand_all (name_places first n) s ≡ true → IsPart s × (length s ≡ n)
name_part first zero s some h = absurd (omega (arith, some))
name_part first (suc n) [] some h = cc
name_part first (suc n) (c ∷ s) some h =
    let parts = both (may_stand first c) (may_stand_all (replicate n Character) s) h in (
      (λ e. cc, and_true _ _ (first_may first c parts.0) (characters_of n s parts.1)),
      ap suc (stands_long (replicate n Character) s parts.1 ∙ length-replicate n Character),
    )

-- ---- qualifiers of a resource

piece_part : (piece : FormPiece) (s : List ℕ) → IsFinePiece piece → may_stand_all (piece_places piece) s ≡ true
    → IsPart (qualifier piece s) × (length (qualifier piece s) ≡ room_of piece)
piece_part (Word text) s f h = (f, refl)
piece_part (Name first n) s f h = name_part first n s f h

pub part_alone : (s : List ℕ) → IsPart s → qualifiers s ≡ s ∷ []
part_alone s h = one_qualifier s h.1

part_fine : (s : List ℕ) → IsPart s → length s ≤ 39 → Fine s
part_fine [] h few = absurd (h.0 refl)
part_fine (c ∷ s) h few = record {
  short = few;
  stands = weaker_all is_name_character (may_follow Qualified) (c ∷ s) (λ d k. follows d k) h.1;
  parts = ap (list_all (is_qualifier Qualified)) (part_alone (c ∷ s) h);
} where
  follows : (d : ℕ) → is_name_character d ≡ true → may_follow Qualified d ≡ true
  follows d k = ap (λ b. b || d == 46) k

onto_append : (c : ℕ) (xs ys : List (List ℕ)) → (xs ≡ [] → ⊥) → onto_first c (xs ++ ys) ≡ onto_first c xs ++ ys
onto_append c [] ys h = absurd (h refl)
onto_append c (x ∷ xs) ys h = refl

pub qualifiers_period : (a b : List ℕ) → qualifiers (a ++ 46 ∷ b) ≡ qualifiers a ++ qualifiers b
qualifiers_period [] b = refl
qualifiers_period (c ∷ a) b =
    elim (c == 46) as (λ v. cond v ([] ∷ qualifiers (a ++ 46 ∷ b)) (onto_first c (qualifiers (a ++ 46 ∷ b))) ≡ cond v
    ([] ∷ qualifiers a) (onto_first c (qualifiers a)) ++ qualifiers b) [
      | true ↦ ap (λ t. [] ∷ t) (qualifiers_period a b)
      | false ↦ ap (onto_first c) (qualifiers_period a b) ∙ onto_append c (qualifiers a) (qualifiers b) (qualifiers_some a)
    ]

-- how long a text is by its qualifiers
abbrev pub spaced : List (List ℕ) → ℕ
spaced [] = 0
spaced (q ∷ qs) = length q + 1 + spaced qs

onto_spaced : (c : ℕ) (qs : List (List ℕ)) → (qs ≡ [] → ⊥) → spaced (onto_first c qs) ≡ suc (spaced qs)
onto_spaced c [] h = absurd (h refl)
onto_spaced c (q ∷ qs) h = omega arith

pub text_long : (text : List ℕ) → spaced (qualifiers text) ≡ length text + 1
text_long [] = refl
text_long (c ∷ cs) =
    let rest = text_long cs in
    elim (c == 46) as (λ b. spaced (cond b ([] ∷ qualifiers cs) (onto_first c (qualifiers cs))) ≡ suc (length cs) + 1) [
      | true ↦ (let e : 0 + 1 + spaced (qualifiers cs) ≡ suc (length cs) + 1 = omega (arith, rest) in e)
      | false ↦ (let one = onto_spaced c (qualifiers cs) (qualifiers_some cs) in
          let e : spaced (onto_first c (qualifiers cs)) ≡ suc (length cs) + 1 = omega (arith, one, rest) in e)
    ]

pub filled_long : (pieces : List FormPiece) (s : List ℕ) → AllByRecursion IsFinePiece pieces → may_stand_all (places pieces) s ≡ true
    → spaced (filled pieces s) ≡ room pieces
filled_long [] s f h = refl
filled_long (piece ∷ pieces) s f h =
    let parts = first_stands piece pieces s h in
    let one = piece_part piece (take (width piece) s) f.0 parts.0 in
    let rest = filled_long pieces (drop (width piece) s) f.1 parts.1 in
    ap (λ n. n + 1 + spaced (filled pieces (drop (width piece) s))) one.1 ∙ ap (λ n. room_of piece + 1 + n) rest

-- ---- the text of a resource

pub parts_joined : (pieces : List FormPiece) (s : List ℕ) → pieces ≢ [] → AllByRecursion IsFinePiece pieces → may_stand_all (places pieces) s ≡ true
    → qualifiers (joined (filled pieces s)) ≡ filled pieces s
parts_joined [] s some f h = absurd (some refl)
parts_joined (piece ∷ []) s some f h =
    let parts = first_stands piece [] s h in
    part_alone _ (piece_part piece (take (width piece) s) f.0 parts.0).0
parts_joined (piece ∷ (next ∷ pieces)) s some f h =
    let parts = first_stands piece (next ∷ pieces) s h in
    let rest = drop (width piece) s in
    let own = qualifier piece (take (width piece) s) in
    qualifiers_period own (joined (filled (next ∷ pieces) rest))
    ∙ ap (λ q. q ++ qualifiers (joined (filled (next ∷ pieces) rest))) (part_alone own (piece_part piece (take (width piece) s) f.0 parts.0).0)
    ∙ ap (λ q. own ∷ q) (parts_joined (next ∷ pieces) rest (λ e. cc) f.1 parts.1)

pub joined_long : (pieces : List FormPiece) (s : List ℕ) → pieces ≢ [] → AllByRecursion IsFinePiece pieces → may_stand_all (places pieces) s ≡ true
    → length (joined (filled pieces s)) + 1 ≡ room pieces
joined_long pieces s some f h =
    sym (text_long (joined (filled pieces s))) ∙ ap spaced (parts_joined pieces s some f h) ∙ filled_long pieces s f h

pub joined_fine : (pieces : List FormPiece) (s : List ℕ) → pieces ≢ [] → AllByRecursion IsFinePiece pieces → may_stand_all (places pieces) s ≡ true
    → room pieces ≤ 40 → Fine (joined (filled pieces s))
joined_fine [] s some f h few = absurd (some refl)
joined_fine (piece ∷ []) s some f h few =
    let parts = first_stands piece [] s h in
    let one = piece_part piece (take (width piece) s) f.0 parts.0 in
    part_fine _ one.0 (let e = one.1 in omega (arith, e, few))
joined_fine (piece ∷ (next ∷ pieces)) s some f h few =
    let parts = first_stands piece (next ∷ pieces) s h in
    let rest = drop (width piece) s in
    let one = piece_part piece (take (width piece) s) f.0 parts.0 in
    let long = joined_long (next ∷ pieces) rest (λ e. cc) f.1 parts.1 in
    let e = one.1 in
    fine_period (qualifier piece (take (width piece) s)) (joined (filled (next ∷ pieces) rest))
    (part_fine _ one.0 (omega (arith, e, few)))
    (joined_fine (next ∷ pieces) rest (λ e. cc) f.1 parts.1 (omega (arith, few)))
    (omega (arith, e, long, few))

-- as the code writes it
pub written_more : (pieces : List FormPiece) (s text next then last name part rest : List ℕ) (n : ℕ) (d : FormPiece) → 1 ≤ length pieces
    → (length (drop 1 pieces) == 0) ≡ false → name ≡ qualifier (get_or pieces 0 d) part → part ≡ take n s → rest ≡ drop n s
    → n ≡ width (get_or pieces 0 d) → next ≡ text ++ name → then ≡ next ++ 46 ∷ []
    → last ≡ then ++ joined (filled (drop 1 pieces) rest) → last ≡ text ++ joined (filled pieces s)
written_more [] s text next then last name part rest n d h k is front back wide new dot more = absurd (omega (arith, h))
written_more (piece ∷ []) s text next then last name part rest n d h k is front back wide new dot more = cc
written_more (piece ∷ (second ∷ pieces)) s text next then last name part rest n d h k is front back wide new dot more =
    let after = joined (filled (second ∷ pieces) (drop (width piece) s)) in
    let own : name ≡ qualifier piece (take (width piece) s) = is ∙ ap (qualifier piece) (front ∙ ap (λ m. take m s) wide) in
    more ∙ ap (λ r. then ++ joined (filled (second ∷ pieces) r)) (back ∙ ap (λ m. drop m s) wide)
    ∙ ap (λ t. t ++ after) dot ∙ append_assoc next (46 ∷ []) after ∙ ap (λ t. t ++ 46 ∷ after) new
    ∙ append_assoc text name (46 ∷ after) ∙ ap (λ x. text ++ (x ++ 46 ∷ after)) own

pub read_back : (result : Result (List ℕ) NameFault) (text x : List ℕ) → text ≡ x → Fine x
    → MatchResult result (λ name. (name_fault resource_rule text ≡ None) × (name ≡ text)) (λ fault. name_fault resource_rule text ≡ Some fault)
    → result_ok result ≡ Some x
read_back (Ok name) text x e f h = ap Some (h.1 ∙ e)
read_back (Err fault) text x e f h =
    absurd (let bad : None ≡ Some fault = sym (no_fault x f) ∙ ap (name_fault resource_rule) (sym e) ∙ h in cc)
