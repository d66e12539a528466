-- Rows of one kind, taken one after another by a policy whose list of that kind they make.
use Rattle.std.proofs.Common.{◌≡◌, ◌++◌, Bool, true, List, [], ◌∷◌, Result, Ok, Err, map, refl, sym, ap, subst, ◌∙◌, append_assoc, append-nil}
use Rattle.std.specs.List.{AllByRecursion}
use Rattle.opc_terms.specs.declared.fault.Fault.{Fault}
use Rattle.opc_policy_members.specs.declared.policy.Policy.{Policy}
use Rattle.opc_policy_members.specs.declared.row.Row.{Row}
use Rattle.opc_policy_members.specs.Taken.{after_row, policy_after, then_policy}
use Rattle.opc_rows.specs.Ordered.{Ascends}
use Rattle.opc_machine_invariants.proofs.Appending.{all_before}

rows_then : (rows more : List Row) (p : Policy) → policy_after (rows ++ more) p ≡ then_policy (policy_after rows p) (λ q. policy_after more q)
rows_then [] more p = refl
rows_then (row ∷ rows) more p = go (after_row row p) (λ x. rows_then rows more x)
  where
    go : (o : Result Policy Fault) → ((x : Policy) → policy_after (rows ++ more) x ≡ then_policy (policy_after rows x) (λ q. policy_after more q))
        → then_policy o (λ x. policy_after (rows ++ more) x) ≡ then_policy (then_policy o (λ x. policy_after rows x)) (λ q. policy_after more q)
    go (Ok x) next = next x
    go (Err f) next = refl

-- some rows and then others
pub then_rows : (rows more : List Row) (p q r : Policy) → policy_after rows p ≡ Ok q → policy_after more q ≡ Ok r → policy_after (rows ++ more) p ≡ Ok r
then_rows rows more p q r first last = rows_then rows more p ∙ ap (λ o. then_policy o (λ x. policy_after more x)) first ∙ last

module _ {X : Type 0} (row_of : X → Row) (made : List X → Policy) (before : X → X → Bool) (Fits : X → Type 0)
    (step : (done : List X) (x : X) → AllByRecursion (λ y. before y x ≡ true) done → Fits x
    → after_row (row_of x) (made done) ≡ Ok (made (done ++ x ∷ []))) where
  from : (done todo : List X) → Ascends before (done ++ todo) → AllByRecursion Fits todo → policy_after (map row_of todo) (made done) ≡ Ok (made (done ++ todo))
  from done [] order fit = ap (λ xs. Ok (made xs)) (sym (append-nil done))
  from done (x ∷ todo) order fit =
      let same : (done ++ x ∷ []) ++ todo ≡ done ++ x ∷ todo = append_assoc done (x ∷ []) todo in
      ap (λ o. then_policy o (λ q. policy_after (map row_of todo) q)) (step done x (all_before before done x todo order) fit.0)
      ∙ from (done ++ x ∷ []) todo (subst (Ascends before) (sym same) order) fit.1
      ∙ ap (λ xs. Ok (made xs)) same

  pub all_taken : (xs : List X) → Ascends before xs → AllByRecursion Fits xs → policy_after (map row_of xs) (made []) ≡ Ok (made xs)
  all_taken xs order fit = from [] xs order fit
