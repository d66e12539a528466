-- Each resource has one place.
use Rattle.std.proofs.Common.{◌≡◌, ◌≤◌, ◌∙◌, ap, sym, refl, subst, ℕ, zero, suc, Bool, true, false, cond, List, [], ◌∷◌, Option, Some, None, length, arith}
use Rattle.std.specs.Prelude.{find}
use Rattle.std.specs.List.{slice_get}
use Rattle.std.proofs.lemmas.Option.{same_Some}
use Rattle.opc_names.specs.Patterns.{covers_text}
use Rattle.opc_policy_deciders.specs.Decided.{AreShortest, IsDecided, deciding_pattern}
use Rattle.opc_policy_deciders.specs.Forms.{AskedForm, forms}
use Rattle.opc_policy_deciders.specs.Laws.{DecidedWhereFound, EachHasOnePlace, FoundWhereDecided, IsFoundAt}
use Rattle.opc_policy_deciders.proofs.Finding.{Apart, all_apart, decides_first}

past_end : (ps : List (List ℕ)) → slice_get ps (length ps) ≡ None
past_end [] = refl
past_end (p ∷ ps) = past_end ps

-- where the first that passes stands
place_of : (test : List ℕ → Bool) (ps : List (List ℕ)) → (place : ℕ) × (place ≤ length ps) × (find test ps ≡ slice_get ps place)
place_of test [] = (zero, omega arith, refl)
place_of test (p ∷ ps) = go (test p) refl (place_of test ps)
  where
    go : (b : Bool) → test p ≡ b → ((place : ℕ) × (place ≤ length ps) × (find test ps ≡ slice_get ps place))
        → (place : ℕ) × (place ≤ length (p ∷ ps)) × (cond b (Some p) (find test ps) ≡ slice_get (p ∷ ps) place)
    go true is more = (zero, omega arith, refl)
    go false is more = (suc more.0, omega (arith, more.1), more.2)

-- patterns that stand apart are the same only in the same place
same_place : (ps : List (List ℕ)) (i j : ℕ) → Apart ps → i ≤ length ps → j ≤ length ps → slice_get ps i ≡ slice_get ps j → i ≡ j
same_place [] zero zero apart low high same = refl
same_place [] zero (suc j) apart low high same = absurd (omega (arith, high))
same_place [] (suc i) j apart low high same = absurd (omega (arith, low))
same_place (p ∷ ps) zero zero apart low high same = refl
same_place (p ∷ ps) zero (suc j) apart low high same = absurd (apart.0 j (sym same))
same_place (p ∷ ps) (suc i) zero apart low high same = absurd (apart.0 i same)
same_place (p ∷ ps) (suc i) (suc j) apart low high same =
    ap suc (same_place ps i j apart.1 (omega (arith, low)) (omega (arith, high)) same)

pub each_has_one_place : EachHasOnePlace
each_has_one_place p patterns resource are =
    let covers : List ℕ → Bool = λ (q : List ℕ). covers_text q resource in
    let first : deciding_pattern p resource ≡ find covers patterns =
    decides_first p resource are.in_order ∙ sym (ap (find covers) are.all) in
    let apart : Apart patterns = subst (λ l. Apart l) (sym are.all) (all_apart p are.in_order) in
    let found = place_of covers patterns in
    record {
      place = found.0;
      within = found.1;
      decides = first ∙ found.2;
      only = λ other within is. same_place patterns other found.0 apart within found.1 (sym is ∙ (first ∙ found.2));
    }

found_there : (Holds : AskedForm → List ℕ → Type 0) (all : List AskedForm) (list : List (Option (List ℕ))) → AreShortest Holds all list
    → (place : ℕ) (form : AskedForm) (resource : List ℕ) → slice_get all place ≡ Some form → Holds form resource → IsFoundAt list place
found_there Holds [] list are place form resource at holds = cc
found_there Holds (f ∷ all) [] are place form resource at holds = absurd are
found_there Holds (f ∷ all) (None ∷ list) are zero form resource at holds =
    absurd (are.0 resource (subst (λ g. Holds g resource) (sym (same_Some f form at)) holds))
found_there Holds (f ∷ all) (Some shortest ∷ list) are zero form resource at holds = (shortest, refl)
found_there Holds (f ∷ all) (found ∷ list) are (suc place) form resource at holds =
    found_there Holds all list are.1 place form resource at holds

there_found : (Holds : AskedForm → List ℕ → Type 0) (all : List AskedForm) (list : List (Option (List ℕ))) → AreShortest Holds all list
    → (place : ℕ) (form : AskedForm) (resource : List ℕ) → slice_get all place ≡ Some form → slice_get list place ≡ Some (Some resource)
    → Holds form resource
there_found Holds [] list are place form resource at found = cc
there_found Holds (f ∷ all) [] are place form resource at found = absurd are
there_found Holds (f ∷ all) (None ∷ list) are zero form resource at found = cc
there_found Holds (f ∷ all) (Some shortest ∷ list) are zero form resource at found =
    let same : shortest ≡ resource = cc in
    subst (λ r. Holds form r) same (subst (λ g. Holds g shortest) (same_Some f form at) are.0.0)
there_found Holds (f ∷ all) (o ∷ list) are (suc place) form resource at found =
    there_found Holds all list are.1 place form resource at found

pub found_where_decided : FoundWhereDecided
found_where_decided p pattern list are place form resource at of_form decided =
    found_there (IsDecided p pattern) forms list are place form resource at (record { of_form = of_form; decided = decided })

pub decided_where_found : DecidedWhereFound
decided_where_found p pattern list are place form resource at found =
    there_found (IsDecided p pattern) forms list are place form resource at found
