-- Rows are taken if none is refused; and how many were refused so far.
use Rattle.std.proofs.Common.{
  ◌≡◌,
  ◌<◌,
  ◌+◌,
  ◌-◌,
  ◌∷◌,
  ◌++◌,
  ◌∙◌,
  [],
  ℕ,
  zero,
  suc,
  List,
  length,
  sym,
  refl,
  ap,
  arith,
  take,
  drop,
  get_or,
  append-nil,
  drop-cons,
  add-one,
  map,
  subst,
}
use Rattle.std.specs.Prelude.{Option, Some, None, Result, Ok, Err}
use Rattle.opc_terms.specs.declared.fault.Fault.{Fault}
use Rattle.opc_policy_members.specs.declared.policy.Policy.{Policy}
use Rattle.opc_policy_members.specs.declared.row.Row.{Row}
use Rattle.opc_policy_members.specs.Taken.{after_row, no_policy, policy_after, then_policy}
use Rattle.opc_check.proofs.Telling.{none_told, one_told}
use Rattle.opc_check.specs.Problems.{IsRefused, Problem, most_told, problems_of, refused_problem}
use Rattle.opc_check.specs.Refusals.{IsTaken, Refusal, kept, refusal_by, policy_of_kept, refusals_from, refusals_of, unless_refused, with_refusal}
use Rattle.opc_check.specs.declared.refusing.Refused.{Refused}

-- rows make the policy of those that are kept if none is refused, and otherwise have the first fault
pub policy_so : (n : ℕ) (rows : List Row) (p : Policy) → policy_after rows p ≡ unless_refused (policy_of_kept rows p) (refusals_from n rows p)
policy_so n [] p = refl
policy_so n (row ∷ more) p = go (after_row row p) (λ q. policy_so (n + 1) more q)
  where
    go : (r : Result Policy Fault) → ((q : Policy) → policy_after more q ≡ unless_refused (policy_of_kept more q) (refusals_from (n + 1) more q))
        → then_policy r (λ q. policy_after more q)
        ≡ unless_refused (policy_of_kept more (kept p r)) (with_refusal n row p r (refusals_from (n + 1) more (kept p r)))
    go (Ok q) later = later q
    go (Err fault) later = refl

-- what was refused, before the rows that are left from this number on, is what is refused of all
pub record Follows (all left : List Row) (number : ℕ) (r : Refused) : Type 0 where
  pub policy : policy_of_kept all no_policy ≡ policy_of_kept left r.policy
  pub count : length (refusals_of all) ≡ r.count + length (refusals_from number left r.policy)
  pub problems : map (refused_problem [] all) (take most_told (refusals_of all))
      ≡ problems_of r.problems.items ++ map (refused_problem [] all) (take (most_told - r.count) (refusals_from number left r.policy))

pub begins : (all : List Row) (r : Refused) → r.policy ≡ no_policy → r.count ≡ 0 → problems_of r.problems.items ≡ []
    → Follows all all 1 r
begins all r policy count problems = record {
  policy = rw policy refl;
  count = rw policy (omega (arith, count));
  problems = rw (policy, count, problems) refl;
}

no_more : (all : List Row) (before : List Problem) (n : ℕ) → before ++ map (refused_problem [] all) (take n []) ≡ before
no_more all before zero = append-nil before
no_more all before (suc n) = append-nil before

pub ends : (all left : List Row) (number : ℕ) (r : Refused) → Follows all left number r → left ≡ [] → IsRefused all r
ends all left number r h none =
    let h2 : Follows all [] number r = rw none at h in
    record {
      policy = sym h2.policy;
      count = omega (arith, h2.count);
      problems = sym (h2.problems ∙ no_more all (problems_of r.problems.items) (most_told - r.count));
    }

count_step : (n : ℕ) (row : Row) (p : Policy) (taken : Result Policy Fault) (later : List Refusal)
    → length (with_refusal n row p taken later) ≡ length (with_refusal n row p taken []) + length later
count_step n row p (Ok q) later = omega arith
count_step n row p (Err fault) later = omega arith

problems_step : (what : Refusal → Problem) (before : List Problem) (number : ℕ) (row : Row) (p : Policy) (taken : Result Policy Fault)
    (later : List Refusal) (n : ℕ)
    → before ++ map what (take n (with_refusal number row p taken later))
    ≡ (before ++ map what (take n (with_refusal number row p taken []))) ++ map what (take (n - length (with_refusal number row p taken [])) later)
problems_step what before number row p (Ok q) later n = none_told what before later n
problems_step what before number row p (Err fault) later n =
    one_told what before (record { number = number; row = row; policy = p; fault = fault }) later n

-- one more row is applied
pub applies : (all left : List Row) (number : ℕ) (row : Row) (old new : Refused)
    → Follows all (row ∷ left) number old
    → new.policy ≡ kept old.policy (after_row row old.policy)
    → new.count ≡ old.count + length (with_refusal number row old.policy (after_row row old.policy) [])
    → problems_of new.problems.items ≡ problems_of old.problems.items
    ++ map (refused_problem [] all) (take (most_told - old.count) (with_refusal number row old.policy (after_row row old.policy) []))
    → Follows all left (number + 1) new
applies all left number row old new h policy count problems =
    let taken = after_row row old.policy in
    let later = refusals_from (number + 1) left (kept old.policy taken) in
    let told = problems_step (refused_problem [] all) (problems_of old.problems.items) number row old.policy taken later (most_told - old.count) in
    let less : most_told - new.count ≡ (most_told - old.count) - length (with_refusal number row old.policy taken []) = omega (arith, count) in
    record {
      policy = rw policy h.policy;
      count = rw policy (omega (arith, h.count, count, count_step number row old.policy taken later));
      problems = rw policy (h.problems ∙ (told ∙ rw (problems, less) refl));
    }

-- the rows that are left are one of them, and those past it
pub past : (all : List Row) (at number : ℕ) (row : Row) (r : Refused) → at < length all → row ≡ get_or all at row
    → Follows all (drop at all) number r → Follows all (row ∷ drop (at + 1) all) number r
past all at number row r low is h =
    let parts : drop at all ≡ row ∷ drop (at + 1) all =
    drop-cons all at row low ∙ (ap (λ (x : Row). x ∷ drop (suc at) all) (sym is)
    ∙ ap (λ (n : ℕ). row ∷ drop n all) (sym (add-one at))) in
    subst (λ (left : List Row). Follows all left number r) parts h

-- what was made of a row
pub kept_so : (row : Row) (old new : Policy) (fault : Option Fault) → IsTaken row old new fault → new ≡ kept old (after_row row old)
kept_so row old new None h = rw h refl
kept_so row old new (Some fault) h = rw h.0 h.1

pub refusal_so : (number : ℕ) (row : Row) (old new : Policy) (fault : Option Fault) → IsTaken row old new fault
    → refusal_by number row new fault ≡ with_refusal number row old (after_row row old) []
refusal_so number row old new None h = rw h refl
refusal_so number row old new (Some fault) h = rw (h.0, h.1) refl
