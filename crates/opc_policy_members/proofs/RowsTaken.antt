-- Rows of a policy, taken one after another.
use Rattle.std.proofs.Common.{
  ◌≡◌,
  ◌<◌,
  ◌+◌,
  ℕ,
  suc,
  List,
  [],
  ◌∷◌,
  ◌++◌,
  Result,
  Ok,
  Err,
  take,
  drop,
  drop-cons,
  get_or,
  length,
  refl,
  sym,
  ap,
  ◌∙◌,
}
use Rattle.std.proofs.Math.ListN.{take-append-drop}
use Rattle.std.proofs.lemmas.List.{take_more}
use Rattle.opc_terms.specs.declared.fault.Fault.{Fault}
use Rattle.opc_policy_members.specs.declared.policy.Policy.{Policy}
use Rattle.opc_policy_members.specs.declared.row.Row.{Row}
use Rattle.opc_policy_members.specs.Taken.{IsRefusedAt, after_row, policy_after, then_policy}

-- rows, and then more
pub policy_steps : (one more : List Row) (p : Policy) → policy_after (one ++ more) p ≡ then_policy (policy_after one p) (λ q. policy_after more q)
policy_steps [] more p = refl
policy_steps (row ∷ one) more p = go (after_row row p) (λ q. policy_steps one more q)
  where
    go : (r : Result Policy Fault) → ((q : Policy) → policy_after (one ++ more) q ≡ then_policy (policy_after one q) (λ x. policy_after more x))
        → then_policy r (λ q. policy_after (one ++ more) q) ≡ then_policy (then_policy r (λ q. policy_after one q)) (λ q. policy_after more q)
    go (Ok q) later = later q
    go (Err fault) later = refl

module _ (all : List Row) (i : ℕ) (row : Row) (start p : Policy) (low : i < length all) (is : row ≡ get_or all i row)
    (was : policy_after (take i all) start ≡ Ok p) where
  -- the rows up to this one, after those before it
  next : (r : Result Policy Fault) → after_row row p ≡ r
      → policy_after (take (i + 1) all) start ≡ then_policy r (λ x. policy_after [] x)
  next r made = ap (λ xs. policy_after xs start) (take_more all i row low ∙ ap (λ x. take i all ++ x ∷ []) (sym is))
      ∙ policy_steps (take i all) (row ∷ []) start
      ∙ ap (λ r. then_policy r (λ x. policy_after (row ∷ []) x)) was
      ∙ ap (λ r. then_policy r (λ x. policy_after [] x)) made

  pub policy_more : (q : Policy) → after_row row p ≡ Ok q → policy_after (take (i + 1) all) start ≡ Ok q
  policy_more q made = next (Ok q) made

  pub refused_at : (f : Fault) → after_row row p ≡ Err f → IsRefusedAt start p all i f
  refused_at f stops = record { applied = was; refused = next (Err f) stops }

  pub policy_stops : (f : Fault) → after_row row p ≡ Err f → policy_after all start ≡ Err f
  policy_stops f stops =
      ap (λ xs. policy_after xs start) (sym (take-append-drop i all)
      ∙ ap (λ xs. take i all ++ xs) (drop-cons all i row low ∙ ap (λ x. x ∷ drop (suc i) all) (sym is)))
      ∙ policy_steps (take i all) (row ∷ drop (suc i) all) start
      ∙ ap (λ r. then_policy r (λ x. policy_after (row ∷ drop (suc i) all) x)) was
      ∙ ap (λ r. then_policy r (λ x. policy_after (drop (suc i) all) x)) stops
