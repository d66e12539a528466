-- How a check of a policy file agrees with loading it.
use Rattle.std.specs.Prelude.{◌≡◌, ℕ, List, Ok}
use Rattle.opc_policy_members.specs.declared.policy.Policy.{Policy}
use Rattle.opc_policy_members.specs.declared.row.Row.{Row}
use Rattle.opc_import.specs.Files.{policy_of}
use Rattle.opc_state.specs.State.{State, empty}
use Rattle.opc_machine.specs.Bootstrap.{bootstrapped, consoles_after}
use Rattle.opc_check.specs.Checked.{finding_of, taken}
use Rattle.opc_check.specs.Refusals.{policy_of_kept, refusals_of, unless_refused}
use Rattle.opc_check.specs.declared.form.Form.{Form}

-- the state of new tables after all rows but those that are refused
abbrev pub made_by : List Row → State
made_by rows = record empty {
  policy = policy_of_kept rows empty.policy;
  board = consoles_after rows empty.board;
}

-- Rows are taken as a first policy if and only if none of them is refused, and otherwise refused for the first fault.
abbrev pub TakenIfNoneIsRefused : Type 0
TakenIfNoneIsRefused = (rows : List Row) → bootstrapped rows empty ≡ unless_refused (made_by rows) (refusals_of rows)

-- If a check finds rows and their policy, the text is the policy file of these rows, and they make that policy of an
-- empty one.
abbrev pub FoundIsTaken : Type 0
FoundIsTaken = (form : Form) (text : List ℕ) (rows : List Row) (policy : Policy)
    → finding_of form text ≡ taken rows policy
    → (policy_of text ≡ Ok rows) × ((s : State) × (bootstrapped rows empty ≡ Ok s) × (s.policy ≡ policy))

-- And a check finds them in each policy file whose rows can be loaded.
abbrev pub TakenIsFound : Type 0
TakenIsFound = (form : Form) (text : List ℕ) (rows : List Row) (s : State) → policy_of text ≡ Ok rows
    → bootstrapped rows empty ≡ Ok s → finding_of form text ≡ taken rows s.policy
