-- What applying rows as a first policy would refuse.
use Rattle.std.specs.Prelude.{◌≡◌, ◌+◌, ℕ, List, [], ◌∷◌, Option, Some, None, Result, Ok, Err}
use Rattle.opc_terms.specs.declared.fault.Fault.{Fault}
use Rattle.opc_policy_members.specs.declared.policy.Policy.{Policy}
use Rattle.opc_policy_members.specs.declared.row.Row.{Row}
use Rattle.opc_policy_members.specs.Taken.{after_row, no_policy}

-- a row that is refused: its number, the policy at that point, and the fault
pub record Refusal : Type 0 where
  pub number : ℕ
  pub row : Row
  pub policy : Policy
  pub fault : Fault

-- a row that is refused changes nothing
abbrev pub kept : Policy → Result Policy Fault → Policy
kept p (Ok q) = q
kept p (Err fault) = p

abbrev pub with_refusal : ℕ → Row → Policy → Result Policy Fault → List Refusal → List Refusal
with_refusal number row p (Ok q) later = later
with_refusal number row p (Err fault) later = record { number = number; row = row; policy = p; fault = fault } ∷ later

-- the rows that are refused if rows are applied one after another, with numbers from this one on
abbrev pub refusals_from : ℕ → List Row → Policy → List Refusal
refusals_from number [] p = []
refusals_from number (row ∷ more) p =
    with_refusal number row p (after_row row p) (refusals_from (number + 1) more (kept p (after_row row p)))

-- the policy that the others make
abbrev pub policy_of_kept : List Row → Policy → Policy
policy_of_kept [] p = p
policy_of_kept (row ∷ more) p = policy_of_kept more (kept p (after_row row p))

-- of a file's rows as a first policy
abbrev pub refusals_of : List Row → List Refusal
refusals_of rows = refusals_from 1 rows no_policy

abbrev pub unless_refused : {T : Type 0} → T → List Refusal → Result T Fault
unless_refused made [] = Ok made
unless_refused made (refusal ∷ more) = Err refusal.fault

-- what a row made of a policy: another policy, or none and its fault
abbrev pub IsTaken : Row → Policy → Policy → Option Fault → Type 0
IsTaken row old new None = after_row row old ≡ Ok new
IsTaken row old new (Some fault) = (after_row row old ≡ Err fault) × (new ≡ old)

-- what its fault is about, if it has one
abbrev pub refusal_by : ℕ → Row → Policy → Option Fault → List Refusal
refusal_by number row p None = []
refusal_by number row p (Some fault) = record { number = number; row = row; policy = p; fault = fault } ∷ []
