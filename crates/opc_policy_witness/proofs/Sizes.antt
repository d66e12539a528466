-- The lengths of names in the places of a form, and the resources that have them.
use Rattle.std.proofs.Common.{
  ◌≡◌,
  ◌≢◌,
  ℕ,
  zero,
  suc,
  ◌+◌,
  ◌≤◌,
  Bool,
  true,
  false,
  not,
  cond,
  ◌||◌,
  List,
  [],
  ◌∷◌,
  ◌++◌,
  Some,
  None,
  drop,
  take,
  length,
  replicate,
  refl,
  ap,
  sym,
  ◌∙◌,
  subst,
  arith,
}
use Rattle.std.specs.List.{AllByRecursion, list_all, list_any, position}
use Rattle.std.specs.Option.{option_map}
use Rattle.std.proofs.lemmas.Bool.Decides.{nat_tests}
use Rattle.std.proofs.lemmas.List.{length-replicate}
use Rattle.opc_names.specs.declared.rule.Alphabet.TheVariants.{NoDigitFirst}
use Rattle.opc_names.specs.Names.{
  bad_character,
  console_rule,
  is_name_character,
  may_begin,
  may_follow,
  name_fault,
  qualifiers,
  unit_rule,
}
use Rattle.opc_names.specs.Patterns.{CoversText, covers_text}
use Rattle.opc_names.proofs.Computed.{text_computes}
use Rattle.opc_names.proofs.Faults.{name_long, name_passes, name_short}
use Rattle.opc_policy_witness.specs.declared.forms.FormQualifier.{FormQualifier}
use Rattle.opc_policy_witness.specs.declared.forms.FormQualifier.TheVariants.{Word, AnyUnit, AnyConsole}
use Rattle.opc_policy_witness.specs.declared.pieces.FormPiece.{FormPiece}
use Rattle.opc_policy_witness.specs.declared.places.NamePlace.TheVariants.{Character, NoDigit}
use Rattle.opc_policy_witness.specs.Forms.{
  AreOf,
  AreWidths,
  IsFine,
  IsOf,
  least_width,
  most,
  most_of_all,
  most_size,
  most_width,
  name_places,
  piece_of,
  piece_places,
  pieces_of,
  places,
  total,
}
use Rattle.opc_policy_witness.specs.Masks.{may_stand, may_stand_all}
use Rattle.opc_policy_witness.specs.Pieces.{filled, qualifier, width}
use Rattle.opc_policy_witness.specs.Witness.{
  IsFinePiece,
  IsWitness,
  covers_parts,
  is_found,
  lies_between,
  room,
  room_of,
}
use Rattle.opc_policy_witness.proofs.Names.{
  and_true,
  both,
  console_usual,
  is_name,
  name_characters,
  name_enough,
  unit_usual,
}
use Rattle.opc_policy_witness.proofs.Joining.{
  both_stand,
  characters_of,
  filled_long,
  first_stands,
  of_characters,
  spaced,
  stands_long,
  text_long,
}

-- ---- the characters of a name, and the name

unit_name : (n : ℕ) (s : List ℕ) → 1 ≤ n → n ≤ 8 → may_stand_all (name_places Character n) s ≡ true → name_fault unit_rule s ≡ None
unit_name zero s some few h = absurd (omega (arith, some))
unit_name (suc n) [] some few h = cc
unit_name (suc n) (c ∷ s) some few h =
    let parts = both (is_name_character c) (may_stand_all (replicate n Character) s) h in
    let long : length s ≡ n = stands_long (replicate n Character) s parts.1 ∙ length-replicate n Character in
    is_name unit_rule c s unit_usual parts.0 (characters_of n s parts.1) (omega arith) (omega (arith, long, few))

console_name : (n : ℕ) (s : List ℕ) → 2 ≤ n → n ≤ 8 → may_stand_all (name_places NoDigit n) s ≡ true → name_fault console_rule s ≡ None
console_name zero s some few h = absurd (omega (arith, some))
console_name (suc n) [] some few h = cc
console_name (suc n) (c ∷ s) some few h =
    let parts = both (may_stand NoDigit c) (may_stand_all (replicate n Character) s) h in
    let long : length s ≡ n = stands_long (replicate n Character) s parts.1 ∙ length-replicate n Character in
    is_name console_rule c s console_usual parts.0 (characters_of n s parts.1) (omega (arith, long, some)) (omega (arith, long, few))

unit_stands : (s : List ℕ) → name_fault unit_rule s ≡ None → may_stand_all (name_places Character (length s)) s ≡ true
unit_stands [] h = cc
unit_stands (c ∷ s) h =
    let all = both (is_name_character c) (list_all is_name_character s) (name_characters unit_rule (c ∷ s) unit_usual h) in
    and_true _ _ all.0 (of_characters s all.1)

first_begins : (c : ℕ) (s : List ℕ) → bad_character NoDigitFirst (c ∷ s) ≡ None → may_begin NoDigitFirst c ≡ true
first_begins c s h =
    elim (may_begin NoDigitFirst c) as (λ b. cond b (option_map (λ i. i + 1) (position (λ d. not (may_follow NoDigitFirst d)) s)) (Some 0) ≡ None → b ≡ true) [
      | true ↦ (λ k. refl)
      | false ↦ (λ k. cc)
    ] h

console_stands : (s : List ℕ) → name_fault console_rule s ≡ None → may_stand_all (name_places NoDigit (length s)) s ≡ true
console_stands [] h = cc
console_stands (c ∷ s) h =
    let all = both (is_name_character c) (list_all is_name_character s) (name_characters console_rule (c ∷ s) console_usual h) in
    and_true _ _ (first_begins c s (name_passes console_rule (c ∷ s) h).characters) (of_characters s all.1)

-- ---- the pieces of a form

one_made : (f : FormQualifier) (w : ℕ) (s : List ℕ) → least_width f ≤ w → w ≤ most_width f → may_stand_all (piece_places (piece_of f w)) s ≡ true
    → IsOf f (qualifier (piece_of f w) s)
one_made (Word text) w s some few h = refl
one_made AnyUnit w s some few h = unit_name w s some few h
one_made AnyConsole w s some few h = console_name w s some few h

pub all_made : (form : List FormQualifier) (widths s : List ℕ) → AreWidths form widths → may_stand_all (places (pieces_of form widths)) s ≡ true
    → AreOf form (filled (pieces_of form widths) s)
all_made [] [] s a h = tt
all_made [] (w ∷ widths) s a h = absurd a
all_made (f ∷ form) [] s a h = absurd a
all_made (f ∷ form) (w ∷ widths) s a h =
    let parts = first_stands (piece_of f w) (pieces_of form widths) s h in (
      one_made f w (take (width (piece_of f w)) s) a.0 a.1 parts.0,
      all_made form widths (drop (width (piece_of f w)) s) a.2 parts.1,
    )

-- a width and its characters
record Spelled (f : FormQualifier) (s : List ℕ) : Type 0 where
  at : ℕ
  characters : List ℕ
  enough : least_width f ≤ at
  few : at ≤ most_width f
  long : length characters ≡ width (piece_of f at)
  stand : may_stand_all (piece_places (piece_of f at)) characters ≡ true
  is : qualifier (piece_of f at) characters ≡ s

one_spelled : (f : FormQualifier) (s : List ℕ) → IsOf f s → Spelled f s
one_spelled (Word text) s h =
    record { at = 0; characters = []; enough = omega arith; few = omega arith; long = refl; stand = refl; is = sym h }
one_spelled AnyUnit s h = record {
  at = length s;
  characters = s;
  enough = (let e = name_long unit_rule s h in omega (arith, e));
  few = name_short unit_rule s h;
  long = refl;
  stand = unit_stands s h;
  is = refl;
}
one_spelled AnyConsole s h = record {
  at = length s;
  characters = s;
  enough = (let e = name_enough console_rule s h in grind (arith, nat_tests, e));
  few = name_short console_rule s h;
  long = refl;
  stand = console_stands s h;
  is = refl;
}

take_own : (t s : List ℕ) → take (length t) (t ++ s) ≡ t
take_own [] s = refl
take_own (c ∷ t) s = ap (λ l. c ∷ l) (take_own t s)

drop_own : (t s : List ℕ) → drop (length t) (t ++ s) ≡ s
drop_own [] s = refl
drop_own (c ∷ t) s = drop_own t s

pub record AllSpelled (form : List FormQualifier) (parts : List (List ℕ)) : Type 0 where
  pub widths : List ℕ
  pub characters : List ℕ
  pub are : AreWidths form widths
  pub stand : may_stand_all (places (pieces_of form widths)) characters ≡ true
  pub is : filled (pieces_of form widths) characters ≡ parts

pub all_spelled : (form : List FormQualifier) (parts : List (List ℕ)) → AreOf form parts → AllSpelled form parts
all_spelled [] [] h = record { widths = []; characters = []; are = tt; stand = refl; is = refl }
all_spelled [] (s ∷ parts) h = absurd h
all_spelled (f ∷ form) [] h = absurd h
all_spelled (f ∷ form) (s ∷ parts) h =
    let one = one_spelled f s h.0 in
    let rest = all_spelled form parts h.1 in
    let piece = piece_of f one.at in
    let pieces = pieces_of form rest.widths in
    let own : take (width piece) (one.characters ++ rest.characters) ≡ one.characters =
    ap (λ n. take n (one.characters ++ rest.characters)) (sym one.long) ∙ take_own one.characters rest.characters in
    let left : drop (width piece) (one.characters ++ rest.characters) ≡ rest.characters =
    ap (λ n. drop n (one.characters ++ rest.characters)) (sym one.long) ∙ drop_own one.characters rest.characters in
    record {
      widths = one.at ∷ rest.widths;
      characters = one.characters ++ rest.characters;
      are = (one.enough, one.few, rest.are);
      stand = both_stand (piece_places piece) (places pieces) one.characters rest.characters one.stand rest.stand;
      is = ap (λ t. qualifier piece t ∷ filled pieces (drop (width piece) (one.characters ++ rest.characters))) own
          ∙ ap (λ t. qualifier piece one.characters ∷ filled pieces t) left
          ∙ ap (λ q. q ∷ filled pieces rest.characters) one.is ∙ ap (λ r. s ∷ r) rest.is;
    }

-- ---- their room

pub one_fine : (f : FormQualifier) (w : ℕ) → IsFine f → least_width f ≤ w → IsFinePiece (piece_of f w)
one_fine (Word text) w h some = h
one_fine AnyUnit w h some = some
one_fine AnyConsole w h some = omega (arith, some)

pub one_room : (f : FormQualifier) (w : ℕ) → w ≤ most_width f → room_of (piece_of f w) ≤ most f
one_room (Word text) w few = omega arith
one_room AnyUnit w few = few
one_room AnyConsole w few = few

pub pieces_fine : (form : List FormQualifier) (widths : List ℕ) → AllByRecursion IsFine form → AreWidths form widths
    → AllByRecursion IsFinePiece (pieces_of form widths)
pieces_fine [] widths h a = tt
pieces_fine (f ∷ form) [] h a = absurd a
pieces_fine (f ∷ form) (w ∷ widths) h a = (one_fine f w h.0 a.0, pieces_fine form widths h.1 a.2)

pub pieces_some : (form : List FormQualifier) (widths : List ℕ) → form ≢ [] → AreWidths form widths → pieces_of form widths ≢ []
pieces_some [] widths h a = absurd (h refl)
pieces_some (f ∷ form) [] h a = absurd a
pieces_some (f ∷ form) (w ∷ widths) h a = λ e. cc

pub all_behind : (pieces : List FormPiece) (piece : FormPiece) → AllByRecursion IsFinePiece pieces → IsFinePiece piece
    → AllByRecursion IsFinePiece (pieces ++ piece ∷ [])
all_behind [] piece h k = (k, tt)
all_behind (p ∷ pieces) piece h k = (h.0, all_behind pieces piece h.1 k)

pub room_behind : (pieces : List FormPiece) (piece : FormPiece) → room (pieces ++ piece ∷ []) ≡ room pieces + (room_of piece + 1)
room_behind [] piece = omega arith
room_behind (p ∷ pieces) piece = let e = room_behind pieces piece in omega (arith, e)

room_swap : (f : FormQualifier) (w v : ℕ) → w ≤ most_width f → v ≤ most_width f → room_of (piece_of f w) + v ≡ room_of (piece_of f v) + w
room_swap (Word text) w v a b = omega (arith, a, b)
room_swap AnyUnit w v a b = omega arith
room_swap AnyConsole w v a b = omega arith

room_widths : (form : List FormQualifier) (ws vs : List ℕ) → AreWidths form ws → AreWidths form vs
    → room (pieces_of form ws) + total vs ≡ room (pieces_of form vs) + total ws
room_widths [] [] [] a b = refl
room_widths [] [] (v ∷ vs) a b = absurd b
room_widths [] (w ∷ ws) vs a b = absurd a
room_widths (f ∷ form) [] vs a b = absurd a
room_widths (f ∷ form) (w ∷ ws) [] a b = absurd b
room_widths (f ∷ form) (w ∷ ws) (v ∷ vs) a b =
    let one = room_swap f w v a.1 b.1 in
    let rest = room_widths form ws vs a.2 b.2 in
    omega (arith, one, rest)

pub total_most : (form : List FormQualifier) (widths : List ℕ) → AreWidths form widths → total widths ≤ most_size form
total_most [] [] a = omega arith
total_most [] (w ∷ widths) a = absurd a
total_most (f ∷ form) [] a = absurd a
total_most (f ∷ form) (w ∷ widths) a =
    let one = a.1 in
    let rest = total_most form widths a.2 in
    omega (arith, one, rest)

one_most : (f : FormQualifier) → most_width f ≤ most f
one_most (Word text) = omega arith
one_most AnyUnit = omega arith
one_most AnyConsole = omega arith

pub most_sizes : (form : List FormQualifier) → most_size form ≤ most_of_all form
most_sizes [] = omega arith
most_sizes (f ∷ form) = let one = one_most f in let rest = most_sizes form in omega (arith, one, rest)

-- ---- what lies between

pub cover_all : (ps : List (List ℕ)) (r : List ℕ) → list_all (covers_parts (qualifiers r)) ps ≡ true → AllByRecursion (λ p. CoversText p r) ps
cover_all [] r h = tt
cover_all (p ∷ ps) r h =
    let parts = both (covers_text p r) (list_all (covers_parts (qualifiers r)) ps) h in
    ((text_computes (covers_text p r) p r refl).0 parts.0, cover_all ps r parts.1)

pub all_cover : (ps : List (List ℕ)) (r : List ℕ) → AllByRecursion (λ p. CoversText p r) ps → list_all (covers_parts (qualifiers r)) ps ≡ true
all_cover [] r h = refl
all_cover (p ∷ ps) r h = and_true _ _ ((text_computes (covers_text p r) p r refl).1 h.0) (all_cover ps r h.1)

none_of : (a b : Bool) → not (a || b) ≡ true → (a ≡ false) × (not b ≡ true)
none_of true b h = cc
none_of false b h = (refl, h)

of_none : (a b : Bool) → a ≡ false → not b ≡ true → not (a || b) ≡ true
of_none true b h k = cc
of_none false b h k = k

not_both : (a : Bool) → a ≡ true → a ≡ false → ⊥
not_both true h k = cc
not_both false h k = cc

false_of : (a : Bool) → (a ≡ true → ⊥) → a ≡ false
false_of true h = absurd (h refl)
false_of false h = refl

pub cover_none : (ps : List (List ℕ)) (r : List ℕ) → not (list_any (covers_parts (qualifiers r)) ps) ≡ true
    → AllByRecursion (λ p. CoversText p r → ⊥) ps
cover_none [] r h = tt
cover_none (p ∷ ps) r h =
    let parts = none_of (covers_text p r) (list_any (covers_parts (qualifiers r)) ps) h in
    (λ k. not_both (covers_text p r) ((text_computes (covers_text p r) p r refl).1 k) parts.0, cover_none ps r parts.1)

pub none_cover : (ps : List (List ℕ)) (r : List ℕ) → AllByRecursion (λ p. CoversText p r → ⊥) ps
    → not (list_any (covers_parts (qualifiers r)) ps) ≡ true
none_cover [] r h = refl
none_cover (p ∷ ps) r h =
    of_none (covers_text p r) (list_any (covers_parts (qualifiers r)) ps)
    (false_of (covers_text p r) (λ k. h.0 ((text_computes (covers_text p r) p r refl).0 k))) (none_cover ps r h.1)

pub found_witness : (form : List FormQualifier) (include exclude : List (List ℕ)) (widths s r : List ℕ) → AreWidths form widths
    → is_found (pieces_of form widths) include exclude s ≡ true → qualifiers r ≡ filled (pieces_of form widths) s → IsWitness form include exclude r
found_witness form include exclude widths s r a h is =
    let parts = both (may_stand_all (places (pieces_of form widths)) s) _ h in
    let between : lies_between include exclude (qualifiers r) ≡ true = subst (λ x. lies_between include exclude x ≡ true) (sym is) parts.1 in
    let sides = both (list_all (covers_parts (qualifiers r)) include) _ between in
    record {
      of_form = subst (λ x. AreOf form x) (sym is) (all_made form widths s a parts.0);
      covered = cover_all include r sides.0;
      uncovered = cover_none exclude r sides.1;
    }

pub record Placed (form : List FormQualifier) (include exclude : List (List ℕ)) (r : List ℕ) : Type 0 where
  pub widths : List ℕ
  pub characters : List ℕ
  pub are : AreWidths form widths
  pub found : is_found (pieces_of form widths) include exclude characters ≡ true
  pub is : qualifiers r ≡ filled (pieces_of form widths) characters

pub witness_found : (form : List FormQualifier) (include exclude : List (List ℕ)) (r : List ℕ) → IsWitness form include exclude r
    → Placed form include exclude r
witness_found form include exclude r w =
    let spelled = all_spelled form (qualifiers r) w.of_form in
    let between : lies_between include exclude (qualifiers r) ≡ true = and_true _ _ (all_cover include r w.covered) (none_cover exclude r w.uncovered) in
    record {
      widths = spelled.widths;
      characters = spelled.characters;
      are = spelled.are;
      found = and_true _ _ spelled.stand (subst (λ x. lies_between include exclude x ≡ true) (sym spelled.is) between);
      is = sym spelled.is;
    }

-- how long it is
pub longer : (form : List FormQualifier) (include exclude : List (List ℕ)) (ws vs s t r q : List ℕ) → AllByRecursion IsFine form
    → AreWidths form ws → AreWidths form vs → is_found (pieces_of form ws) include exclude s ≡ true → is_found (pieces_of form vs) include exclude t ≡ true
    → qualifiers r ≡ filled (pieces_of form ws) s → qualifiers q ≡ filled (pieces_of form vs) t → total ws ≤ total vs → length r ≤ length q
longer form include exclude ws vs s t r q fine a b h k is at less =
    let one = text_long r in
    let two = text_long q in
    let long : length r + 1 ≡ room (pieces_of form ws) =
    sym one ∙ (ap (λ x. spaced x) is ∙ filled_long (pieces_of form ws) s (pieces_fine form ws fine a) (both _ _ h).0) in
    let far : length q + 1 ≡ room (pieces_of form vs) =
    sym two ∙ (ap (λ x. spaced x) at ∙ filled_long (pieces_of form vs) t (pieces_fine form vs fine b) (both _ _ k).0) in
    let swap = room_widths form ws vs a b in
    omega (arith, long, far, swap, less)
