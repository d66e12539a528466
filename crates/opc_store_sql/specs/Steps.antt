-- What a step of a transaction does to a connection.
use Rattle.std.specs.Prelude.{◌≡◌, ◌≢◌, ℕ, List, [], ◌∷◌, IsTrue, Result, Ok, IfOk, OnOk}
use Rattle.std.proofs.Common.{Global, Vec}
use Rattle.sqlite_trees.specs.declared.store.Store.{Ghosts}
use Rattle.sqlite.specs.Order.{Row}
use Rattle.sqlite.specs.State.{HasCleanDisk, Survives, KeepsCommit, Executes, Shown}
use Rattle.sqlite.specs.Held.{Held, state}
use Rattle.sqlite.specs.Schema.{Schema}
use Rattle.sqlite.specs.Given.{Returns}
use Rattle.sqlite.specs.Listing.{understood}

-- whatever the schema is, the text is no write with RETURNING
abbrev pub NeverWrites : List ℕ → Type 0
NeverWrites text = (schema : Schema) → ¬ Returns (understood schema text)

module _ {S : Type 0} (g : Ghosts S) where
  -- no commit is made or lost
  pub record Stays {X E : Type 0} (old new : Held S) (result : Result X E) : Type 0 where
    pub survives : Survives (state g old) (state g new) (λ _. ⊥)
    pub kept : HasCleanDisk (state g new) → KeepsCommit (state g old) (state g new)
    -- and a success does not end the transaction
    pub inside : HasCleanDisk (state g new) → IsTrue old.in_transaction → OnOk result (IsTrue new.in_transaction)

  -- the statement ran inside the transaction
  pub record Ran (sql : List ℕ) (params : Row) (old new : Held S) (count : ℕ) : Type 0 where
    pub inside : IsTrue old.in_transaction
    pub still : IsTrue new.in_transaction
    pub executes : Executes sql params (state g old) (state g new) (Ok count)

  -- the statements ran, one after another, without parameters
  abbrev pub RanAll : List (List ℕ) → Held S → Held S → Type 0
  RanAll [] old new = new ≡ old
  RanAll (sql ∷ more) old new = (mid : Held S) × (count : ℕ) × Ran sql [] old mid count × RanAll more mid new

  -- The first statement ran; if it found no row, the second ran after it, with the same parameters, and otherwise
  -- nothing did.
  pub record Puts (update insert : List ℕ) (params : Row) (old new : Held S) : Type 0 where
    pub mid : Held S
    pub found : ℕ
    pub updates : Ran update params old mid found
    pub ends : found ≢ 0 → new ≡ mid
    pub inserts : found ≡ 0 → (added : ℕ) × Ran insert params mid new added

  -- What a query keeps: if the connection is still open, the tables are as they were, and a crash leaves nothing new.
  pub record Looks {X E : Type 0} (old new : Held S) (result : Result X E) : Type 0 where
    pub survives : Survives (state g old) (state g new) (λ _. ⊥)
    pub opened : HasCleanDisk (state g new) → OnOk result (IsTrue (state g new).is_open)
    pub was_open : HasCleanDisk (state g new) → IsTrue (state g new).is_open → IsTrue (state g old).is_open
    pub same : HasCleanDisk (state g new) → IsTrue (state g new).is_open → (state g new).now ≡ (state g old).now

  -- a query that succeeds gives the rows of its statement
  abbrev pub Reads : {E : Type 0} → List ℕ → Row → Held S → Held S → Result (Vec Row Global) E → Type 0
  Reads sql params old new result = HasCleanDisk (state g new)
      → IfOk result (λ rows. Shown sql params (state g old) (state g new) rows.items)
