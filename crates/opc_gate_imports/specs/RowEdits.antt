-- The edits of a first policy, and what it leaves of tables.
use Rattle.std.specs.Prelude.{◌≡◌, ◌≢◌, List, [], ◌++◌, Option, Some, None, Result, Ok, Err, IfErr, filter_map}
use Rattle.opc_terms.specs.declared.fault.Fault.{Fault}
use Rattle.opc_terms.specs.declared.fault.Fault.TheVariants as why
use Rattle.opc_policy_members.specs.declared.row.Row.{Row}
use Rattle.opc_policy_members.specs.declared.row.Row.TheVariants as rows
use Rattle.opc_board.specs.declared.board.BoardRows.{BoardRows}
use Rattle.opc_board.specs.Invariants.{IsBoard}
use Rattle.opc_state.specs.declared.change.Edit.{Edit}
use Rattle.opc_state.specs.declared.change.Edit.TheVariants as edit
use Rattle.opc_state.specs.Footprints.{AreFootprints}
use Rattle.opc_state.specs.Meaning.{Meaning}
use Rattle.opc_state.specs.State.{State, Fits}
use Rattle.opc_state.specs.Changes.{all_edited, with_board}
use Rattle.opc_machine.specs.Bootstrap.{bootstrapped, consoles_after}

-- what a row makes of a policy, as an edit
abbrev pub edit_of : Row → Option Edit
edit_of (rows.Class class active) = Some (edit.SetActive class active)
edit_of (rows.Group name) = Some (edit.PutGroup name)
edit_of (rows.User user) = Some (edit.PutUser user)
edit_of (rows.Connect user group) = Some (edit.PutConnect (record { user = user; group = group }))
edit_of (rows.Console name auth mode) = None
edit_of (rows.Profile class pattern uacc owner warning) = Some (edit.PutProfile (record {
  class = class;
  pattern = pattern;
  owner = owner;
  uacc = uacc;
  warning = warning;
  entries = [];
}))
edit_of (rows.Permit class pattern id level when) = Some (edit.PutEntry class pattern (record {
  id = id;
  when = when;
  level = level;
}))

abbrev pub edits_of : List Row → List Edit
edits_of more = filter_map edit_of more

-- Rows that hold nothing but consoles, which are on the board exactly like that.
pub record HaveNothingNew (more : List Row) (s : State) : Type 0 where
  pub policy : edits_of more ≡ []
  pub board : consoles_after more s.board ≡ s.board

-- What rows depend on of a board, and change of it: its consoles, besides whether the day is halted.
abbrev pub consoles_alone : BoardRows → BoardRows
consoles_alone b = record {
  units = [];
  devices = [];
  consoles = b.consoles;
  replies = [];
  answered = [];
  log = [];
  messages = [];
  halted = b.halted;
}

-- Edits make one board of another, if there is anything to make and these are the footprints of a state's board and of
-- another; and then they change the policy as rows do.
pub record AreEditsOf (old new : BoardRows) (more : List Row) (edits : List Edit) : Type 0 where
  pub first : List Edit
  pub all : edits ≡ first ++ edits_of more
  pub sound : IsBoard new
  pub becomes : (s : State) (whole : BoardRows) → AreFootprints old new s whole
      → all_edited first s ≡ with_board whole s
  pub idle : (s : State) (whole : BoardRows) → AreFootprints old new s whole → all_edited first s ≡ s → first ≡ []

-- A refusal that is not for memory or the store is the one that the rows meet.
abbrev pub IsRefusedFor : {T V : Type 0} → Meaning T → T → T → Result V Fault → (State → Result State Fault) → Type 0
IsRefusedFor m old new result made =
    m.is_sure new → (s : State) → m.represents old s → IfErr result (λ f. f ≢ why.NoMemory → f ≢ why.Store
    → made s ≡ Err f)

-- The bootstrap is done: its state is represented, and once a change is acknowledged, a crash can leave no other.
pub record IsBootstrap {T : Type 0} (m : Meaning T) (new : T) (s : State)
    (more : List Row) : Type 0 where
  pub next : State
  pub becomes : bootstrapped more s ≡ Ok next
  pub represented : m.represents new next
  pub fits : Fits s → Fits next
  pub acknowledged : (next ≡ s → ⊥) → (left : State) → m.may_leave new left → left ≡ next
