-- What is decided at one place after another, as it is written.
use Rattle.std.proofs.Common.{◌≡◌, ◌∙◌, ◌+◌, ◌++◌, ◌∷◌, ℕ, Bool, List, [], Option, ap, append-nil, append_assoc, arith, length, refl, subst, sym}
use Rattle.std.specs.Io.KnownBytes.{Appends}
use Rattle.std.proofs.KnownBytes.{Appends-nil, Appends-trans}
use Rattle.std.proofs.lemmas.List.{length-append}
use Rattle.opc_policy_members.specs.declared.policy.Policy.{Policy}
use Rattle.opc_answers_may.specs.declared.may.May.{May}
use Rattle.opc_check.specs.declared.form.Form.{Form}
use Rattle.opc_cli_questions.specs.MayPrinted.{AreFoundFrom, ArePlacesWritten, IsFoundAt, IsPlaceShown, place_shown, places_from}

abbrev Found : Type 0
Found = List (Option (List ℕ))

-- one place more
found_more : (p : Policy) (from : ℕ) (one : List Found) (found : Found) (place : ℕ) → place ≡ from + length one
    → AreFoundFrom p from one → IsFoundAt p place found → AreFoundFrom p from (one ++ found ∷ [])
found_more p from [] found place is none here = (subst (λ n. IsFoundAt p n found) (omega (arith, is)) here, tt)
found_more p from (first ∷ one) found place is (there, more) here =
    (there, found_more p (from + 1) one found place (omega (arith, is)) more here)

module _ (form : Form) (allowed : Bool) (m : May) where
  shown_more : (from : ℕ) (one : List Found) (found : Found) (place : ℕ) → place ≡ from + length one
      → places_from form allowed m from (one ++ found ∷ []) ≡ places_from form allowed m from one ++ place_shown form allowed m place found
  shown_more from [] found place is =
      append-nil (place_shown form allowed m from found) ∙ ap (λ n. place_shown form allowed m n found) (omega (arith, is))
  shown_more from (first ∷ one) found place is =
      ap (λ text. place_shown form allowed m from first ++ text) (shown_more (from + 1) one found place (omega (arith, is)))
      ∙ sym (append_assoc (place_shown form allowed m from first) (places_from form allowed m (from + 1) one) (place_shown form allowed m place found))

  pub no_place : (before : Option (List ℕ)) → ArePlacesWritten form allowed m before before 0
  no_place before = record { found = []; each = refl; are = tt; printed = Appends-nil before }

  pub places_more : (a b c : Option (List ℕ)) (count : ℕ) → ArePlacesWritten form allowed m a b count
      → (text : List ℕ) × IsPlaceShown form allowed m count text × Appends b c text → ArePlacesWritten form allowed m a c (count + 1)
  places_more a b c count so_far (text, (found, here, is), printed) =
      let at : count ≡ 0 + length so_far.found = omega (arith, so_far.each) in
      record {
        found = so_far.found ++ found ∷ [];
        each = length-append so_far.found (found ∷ []) ∙ ap (λ n. n + 1) so_far.each;
        are = found_more m.room.policy 0 so_far.found found count at so_far.are here;
        printed = subst (Appends a c) (sym (shown_more 0 so_far.found found count at))
            (Appends-trans a b c _ _ so_far.printed (subst (Appends b c) is printed));
      }

  -- the last place
  pub places_last : (a b c : Option (List ℕ)) (reached at total : ℕ) → reached ≡ total → at ≡ total
      → ArePlacesWritten form allowed m a b reached → (text : List ℕ) × IsPlaceShown form allowed m at text × Appends b c text
      → ArePlacesWritten form allowed m a c (total + 1)
  places_last a b c reached at total all last so_far (text, here, printed) =
      places_more a b c total (subst (ArePlacesWritten form allowed m a b) all so_far)
      (text, subst (λ n. IsPlaceShown form allowed m n text) last here, printed)
