-- Which profiles a search over the tables takes.
use Rattle.std.specs.Prelude.{◌≡◌, ◌++◌, ℕ, Bool, List, Some, Result, Err, filter, map}
use Rattle.sqlite_trees.specs.declared.store.Store.{Ghosts}
use Rattle.sqlite.specs.Order.{Row}
use Rattle.sqlite.specs.Held.{Held, state}
use Rattle.sqlite.specs.State.{Begins, Shown}
use Rattle.opc_names.specs.declared.class.Class.{Class}
use Rattle.opc_names.specs.Patterns.{covers_text}
use Rattle.opc_policy_members.specs.declared.profile.Profile.{Profile}
use Rattle.opc_policy.specs.Examined.{is_chosen}
use Rattle.opc_state.specs.State.{State}
use Rattle.opc_store_schema.specs.Represented.{Represents, profile_row}

-- the profiles of a class and with a head, in their order
abbrev pub chosen : Class → List ℕ → State → List Profile
chosen class head s = filter (is_chosen class (Some head)) s.policy.profiles

abbrev pub covers : List ℕ → Profile → Bool
covers resource p = covers_text p.pattern resource

-- A query returns the rows of these profiles of the state, in their order, and its first rows are those of the first.
pub record Selects {S : Type 0} (g : Ghosts S) (sql : List ℕ) (params : Row) (select : State → List Profile) : Type
    0 where
  pub begins : (h : Held S) (s : State) → Represents (state g h).now s → (rows : List Row)
      → Begins sql params (state g h) rows → (tail : List Row) × (map profile_row (select s) ≡ rows ++ tail)
  pub shows : (h k : Held S) (s : State) → Represents (state g h).now s → (rows : List Row)
      → Shown sql params (state g h) (state g k) rows → rows ≡ map profile_row (select s)

-- what a search leaves of tables, whatever its result, is what a query without a result leaves
abbrev pub unanswered : Result (Unit {0}) (Unit {0})
unanswered = Err tt
