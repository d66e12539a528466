-- A state of a policy in its folder.
use Rattle.std.specs.Prelude.{ℕ, Bool, true, List, Option, Some, None}
use Rattle.opc_policy_folder.specs.StateNames.{IsStateName}

module _ {N A : Type 0} (holds : N → (folder text : List ℕ) → Bool → Type 0)
    (writes : N → (folder text : List ℕ) → A → Type 0) (publishes : N → (folder name : List ℕ) → A → Type 0)
    (folders : N) (folder : List ℕ) where
  -- The text was written aside and synced, and then it became the present state, under its name.
  pub record IsPublished (moment : ℕ) (text name : List ℕ) : Type 0 where
    pub aside : A
    pub named : IsStateName moment text name
    pub written : writes folders folder text aside
    pub published : publishes folders folder name aside

  -- It is the present state already, or it was published.
  abbrev pub IsKeptAs : ℕ → (text : List ℕ) → Option (List ℕ) → Type 0
  IsKeptAs moment text None = holds folders folder text true
  IsKeptAs moment text (Some name) = IsPublished moment text name
