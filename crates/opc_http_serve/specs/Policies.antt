-- The states of the policy, in a folder.
use Rattle.std.specs.Prelude.{◌≡◌, ◌⊎◌, ◌||◌, ℕ, Bool, true, false, List, Option, Some, None, Ok, IfOk, is_err}
use Rattle.opc_import.specs.Lines.{policy_text}
use Rattle.opc_state.specs.PolicyFile.{rows_of}
use Rattle.opc_state.specs.State.{State}
use Rattle.opc_machine.specs.declared.request.Answer.{Answer}
use Rattle.opc_machine.specs.declared.request.Request.{Request}
use Rattle.opc_policy_changes.specs.Changing.{may_change}
use Rattle.opc_policy_folder.specs.Keeping.{IsKeptAs}
use Rattle.opc_http.specs.Trails.{Kept}
use Rattle.opc_http_serve.specs.declared.policies.PolicyFolder.{PolicyFolder}

-- the text of the policy file of a state
abbrev pub export_of : State → List ℕ
export_of s = policy_text (rows_of s.policy s.board.consoles)

module _ {N A : Type 0} (holds : N → (folder text : List ℕ) → Bool → Type 0)
    (writes : N → (folder text : List ℕ) → A → Type 0) (publishes : N → (folder name : List ℕ) → A → Type 0) where
  -- The export of the state is the present one of the folder already, or it was brought there, under this name.
  abbrev pub IsBrought : (folders : N) → (folder : List ℕ) → (moment : ℕ) → State → (name : Option (List ℕ)) → Type 0
  IsBrought folders folder moment s name = IsKeptAs holds writes publishes folders folder moment (export_of s) name

  -- A request cannot have changed the policy, and the last state is there: nothing is done.
  pub record IsLeftAlone (request : Request) (answer : Answer) (kept : Kept) (old new : PolicyFolder N) : Type 0 where
    pub idle : (old.is_due || may_change request answer) ≡ false
    pub nothing : kept ≡ Ok None
    pub same : new ≡ old

  -- It may have: the export of the state after it was brought into the folder, or else that is due.
  pub record IsSeenTo (s : State) (moment : ℕ) (request : Request) (answer : Answer) (kept : Kept)
      (old new : PolicyFolder N) : Type 0 where
    pub needed : (old.is_due || may_change request answer) ≡ true
    pub brought : IfOk kept (IsBrought old.folders.now old.path.now moment s)
    pub due : new ≡ record old { is_due = is_err kept }

  abbrev pub IsPolicyFollowed : State → ℕ → Request → Answer → Kept → (old new : PolicyFolder N) → Type 0
  IsPolicyFollowed s moment request answer kept old new =
      IsLeftAlone request answer kept old new ⊎ IsSeenTo s moment request answer kept old new

  -- The same if there is a folder. If there is none, there is none afterwards.
  abbrev pub IsPolicyKept : State → ℕ → Request → Answer → Kept → (old new : Option (PolicyFolder N)) → Type 0
  IsPolicyKept s moment request answer kept None None = kept ≡ Ok None
  IsPolicyKept s moment request answer kept None (Some new) = ⊥
  IsPolicyKept s moment request answer kept (Some old) None = ⊥
  IsPolicyKept s moment request answer kept (Some old) (Some new) = IsPolicyFollowed s moment request answer kept old new
