-- What a change makes of a state, edit by edit, and what leaves it as it is.
use Rattle.std.specs.Prelude.{ℕ, Bool, true, false, ◌&&◌, List, [], ◌∷◌, ◌++◌, Option, Some, None}
use Rattle.std.specs.Option.{is_none}
use Rattle.opc_policy_members.specs.declared.connect.Connect.{Connect}
use Rattle.opc_policy_members.specs.declared.policy.ActiveClasses.{ActiveClasses}
use Rattle.opc_policy_members.specs.declared.profile.Profile.{Profile}
use Rattle.opc_policy_members.specs.declared.user.User.{User}
use Rattle.opc_policy_members.specs.Members.{with_user, with_group, with_connect}
use Rattle.opc_policy_members.specs.Profiles.{with_definition, with_permission}
use Rattle.opc_policy_members.specs.Taken.{with_active}
use Rattle.opc_board.specs.declared.board.BoardRows.{BoardRows}
use Rattle.opc_board.specs.declared.rows.ConsoleRow.{ConsoleRow}
use Rattle.opc_board.specs.declared.rows.DeviceRow.{DeviceRow}
use Rattle.opc_board.specs.declared.rows.MessageRow.{MessageRow}
use Rattle.opc_board.specs.declared.rows.ReplyRow.{ReplyRow}
use Rattle.opc_board.specs.declared.rows.UnitRow.{UnitRow}
use Rattle.opc_board.specs.History.{after, history_of}
use Rattle.opc_state.specs.declared.account.AccountRow.{AccountRow}
use Rattle.opc_state.specs.declared.change.Batch.{Batch}
use Rattle.opc_state.specs.declared.change.Change.{Change}
use Rattle.opc_state.specs.declared.change.Edit.{Edit}
use Rattle.opc_state.specs.declared.change.Edit.TheVariants as edit
use Rattle.opc_state.specs.Meaning.{Meaning}
use Rattle.opc_state.specs.Members.{
  with_unit,
  with_device,
  with_console,
  with_reply,
  with_batch,
  without_group,
  without_user,
  without_connect,
  without_profile,
  without_permission,
  without_unit,
  without_device,
  without_console,
  without_reply,
}
use Rattle.opc_state.specs.State.{State}

-- the state with another part
abbrev pub with_actives : ActiveClasses → State → State
with_actives active s = record s { policy = record s.policy { active = active } }

abbrev pub with_groups : List (List ℕ) → State → State
with_groups groups s = record s { policy = record s.policy { groups = groups } }

abbrev pub with_users : List User → State → State
with_users users s = record s { policy = record s.policy { users = users } }

abbrev pub with_connects : List Connect → State → State
with_connects connects s = record s { policy = record s.policy { connects = connects } }

abbrev pub with_profiles : List Profile → State → State
with_profiles profiles s = record s { policy = record s.policy { profiles = profiles } }

abbrev pub with_units : List UnitRow → State → State
with_units units s = record s { board = record s.board { units = units } }

abbrev pub with_devices : List DeviceRow → State → State
with_devices devices s = record s { board = record s.board { devices = devices } }

abbrev pub with_consoles : List ConsoleRow → State → State
with_consoles consoles s = record s { board = record s.board { consoles = consoles } }

abbrev pub with_replies : List ReplyRow → State → State
with_replies replies s = record s { board = record s.board { replies = replies } }

abbrev pub with_halted : Bool → State → State
with_halted halted s = record s { board = record s.board { halted = halted } }

abbrev pub with_answered : List ReplyRow → State → State
with_answered answered s = record s { board = record s.board { answered = answered } }

abbrev pub with_log : List (List ℕ) → State → State
with_log log s = record s { board = record s.board { log = log } }

abbrev pub with_messages : List MessageRow → State → State
with_messages messages s = record s { board = record s.board { messages = messages } }

abbrev pub with_batches : List Batch → State → State
with_batches batches s = record s { batches = batches }

-- the state with a board, whose histories are added to those of the state
abbrev pub with_board : BoardRows → State → State
with_board new s = record s { board = after (history_of s.board) new }

-- one member is put in its place, or removed; a row is added at the end of a history
abbrev pub edited : Edit → State → State
edited (edit.SetActive class active) s = with_actives (with_active class active s.policy.active) s
edited (edit.PutGroup name) s = with_groups (with_group name s.policy.groups) s
edited (edit.RemoveGroup name) s = with_groups (without_group name s.policy.groups) s
edited (edit.PutUser user) s = with_users (with_user user s.policy.users) s
edited (edit.RemoveUser id) s = with_users (without_user id s.policy.users) s
edited (edit.PutConnect connect) s = with_connects (with_connect connect s.policy.connects) s
edited (edit.RemoveConnect connect) s = with_connects (without_connect connect s.policy.connects) s
edited (edit.PutProfile profile) s = with_profiles (with_definition profile s.policy.profiles) s
edited (edit.RemoveProfile class pattern) s = with_profiles (without_profile class pattern s.policy.profiles) s
edited (edit.PutEntry class pattern entry) s = with_profiles (with_permission class pattern entry s.policy.profiles) s
edited (edit.RemoveEntry class pattern id when) s =
    with_profiles (without_permission class pattern id when s.policy.profiles) s
edited (edit.PutUnit unit) s = with_units (with_unit unit s.board.units) s
edited (edit.RemoveUnit name) s = with_units (without_unit name s.board.units) s
edited (edit.PutDevice device) s = with_devices (with_device device s.board.devices) s
edited (edit.RemoveDevice number) s = with_devices (without_device number s.board.devices) s
edited (edit.PutConsole console) s = with_consoles (with_console console s.board.consoles) s
edited (edit.RemoveConsole name) s = with_consoles (without_console name s.board.consoles) s
edited (edit.PutReply reply) s = with_replies (with_reply reply s.board.replies) s
edited (edit.RemoveReply id) s = with_replies (without_reply id s.board.replies) s
edited (edit.SetHalted halted) s = with_halted halted s
edited (edit.AddAnswered reply) s = with_answered (s.board.answered ++ reply ∷ []) s
edited (edit.AddLog text) s = with_log (s.board.log ++ text ∷ []) s
edited (edit.AddMessage message) s = with_messages (s.board.messages ++ message ∷ []) s
edited (edit.PutBatch batch) s = with_batches (with_batch batch s.batches) s

abbrev pub all_edited : List Edit → State → State
all_edited [] s = s
all_edited (e ∷ edits) s = all_edited edits (edited e s)

-- a row is added at the end of the account
abbrev pub with_account_row : AccountRow → State → State
with_account_row row s = record s { account = s.account ++ row ∷ [] }

abbrev pub with_account : Option AccountRow → State → State
with_account None s = s
with_account (Some row) s = with_account_row row s

-- all edits in turn, and then the row of the account
abbrev pub changed_by : Change → State → State
changed_by c s = with_account c.account (all_edited c.edits.items s)

abbrev pub no_edits : List Edit → Bool
no_edits [] = true
no_edits (e ∷ edits) = false

abbrev pub is_nothing : Change → Bool
is_nothing c = no_edits c.edits.items && is_none c.account

-- Nothing was changed between these two: not the state, nor what a crash may leave.
pub record IsKept {T : Type 0} (m : Meaning T) (old new : T) : Type 0 where
  pub sure : m.is_sure new → m.is_sure old
  pub same : m.is_sure new → (s : State) → m.represents old s → m.represents new s
  pub crash : (s : State) → m.may_leave new s → m.may_leave old s
