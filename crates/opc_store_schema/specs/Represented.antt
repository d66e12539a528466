-- When the tables represent a state.
use Rattle.std.specs.Prelude.{
  ℕ,
  pos,
  Bool,
  if◌then◌else◌,
  List,
  [],
  ◌∷◌,
  ◌++◌,
  map,
  flat_map,
  Option,
  Some,
  None,
  codes,
}
use Rattle.sqlite_value.specs.declared.value.Value.{Value}
use Rattle.sqlite_value.specs.declared.value.Value.TheVariants.{Null, Int, Text, Blob}
use Rattle.sqlite_value.specs.Order.{Row}
use Rattle.sqlite_trees.specs.Tree.{Trees}
use Rattle.sqlite_trees.specs.Objects.{catalog_tree}
use Rattle.sqlite_catalog.specs.Listing.{Lists}
use Rattle.sqlite.specs.Effect.{Database}
use Rattle.opc_names.specs.declared.class.Class.{Class}
use Rattle.opc_names.specs.declared.class.Class.TheVariants.{Console, Opercmds}
use Rattle.opc_names.specs.declared.auth.Auth.{Auth}
use Rattle.opc_names.specs.declared.auth.Auth.TheVariants as auth
use Rattle.opc_names.specs.Authority.{level_rank}
use Rattle.opc_names.specs.Order.{sort_key, head}
use Rattle.opc_names.specs.Patterns.{tokens}
use Rattle.opc_names.specs.Spellings.{class_text}
use Rattle.opc_policy_members.specs.declared.user.User.{User}
use Rattle.opc_policy_members.specs.declared.connect.Connect.{Connect}
use Rattle.opc_policy_members.specs.declared.entry.Entry.{Entry}
use Rattle.opc_policy_members.specs.declared.profile.Profile.{Profile}
use Rattle.opc_terms.specs.declared.mode.Mode.{Mode}
use Rattle.opc_terms.specs.declared.mode.Mode.TheVariants.{Optional, Required, Auto}
use Rattle.opc_board.specs.declared.rows.UnitKind.{UnitKind}
use Rattle.opc_board.specs.declared.rows.UnitKind.TheVariants.{Job, Stc, Tsu}
use Rattle.opc_board.specs.declared.rows.UnitRow.{UnitRow}
use Rattle.opc_board.specs.declared.rows.DeviceRow.{DeviceRow}
use Rattle.opc_board.specs.declared.rows.ConsoleRow.{ConsoleRow}
use Rattle.opc_board.specs.declared.rows.ReplyRow.{ReplyRow}
use Rattle.opc_board.specs.declared.rows.MessageRow.{MessageRow}
use Rattle.opc_state.specs.declared.account.AccountRow.{AccountRow}
use Rattle.opc_state.specs.declared.change.Batch.{Batch}
use Rattle.opc_state.specs.State.{State}
use Rattle.opc_import.specs.Lines.{policy_text}
use Rattle.opc_store_sql.specs.Rows.{numbered_row, numbered_rows}
use Rattle.opc_store_schema.specs.Contents.{Contents, Holds}
use Rattle.opc_store_schema.specs.Made.{IsMade}
use Rattle.opc_store_schema.specs.State.{IsOrdered}
use Rattle.opc_store_schema.specs.Tables.{the_schema}

abbrev pub flag : Bool → Value
flag b = Int (if b then pos 1 else pos 0)

-- what is missing is NULL
abbrev pub or_null : Option (List ℕ) → Value
or_null None = Null
or_null (Some bytes) = Blob bytes

-- the version of the tables that are made
abbrev pub made_version : ℕ
made_version = 3

abbrev pub version_row : ℕ → Row
version_row version = Int (pos version) ∷ []

abbrev pub class_row : Class × Bool → Row
class_row c = Text (class_text c.0) ∷ flag c.1 ∷ []

abbrev pub halted_row : Bool → Row
halted_row halted = flag halted ∷ []

abbrev pub group_row : List ℕ → Row
group_row name = Text name ∷ []

abbrev pub user_row : User → Row
user_row u = Text u.id ∷ flag u.special ∷ flag u.auditor ∷ flag u.revoked ∷ or_null u.digest ∷ flag u.restricted ∷ []

abbrev pub connect_row : Connect → Row
connect_row c = Text c.user ∷ Text c.group ∷ []

-- a profile without its access list, and without what is computed from its pattern
abbrev pub definition_row : Profile → Row
definition_row p = Text (class_text p.class) ∷ Text p.pattern ∷ Text p.owner ∷ Int (pos (level_rank p.uacc))
    ∷ flag p.warning ∷ []

-- with the key and the head of its pattern
abbrev pub profile_row : Profile → Row
profile_row p = definition_row p ++ Blob (sort_key p.pattern) ∷ Text (head (tokens p.pattern)) ∷ []

-- no text if no name is given
abbrev pub or_empty : Option (List ℕ) → List ℕ
or_empty None = []
or_empty (Some name) = name

-- with the console at which it counts
abbrev pub entry_row : Class → List ℕ → Entry → Row
entry_row class pattern e = Text (class_text class) ∷ Text pattern ∷ Text e.id ∷ Text (or_empty e.when)
    ∷ Int (pos (level_rank e.level)) ∷ []

-- the access list of a profile
abbrev pub entry_rows : Profile → List Row
entry_rows p = map (entry_row p.class p.pattern) p.entries

abbrev pub text_or_null : Option (List ℕ) → Value
text_or_null None = Null
text_or_null (Some text) = Text text

-- INFO, ALL and MASTER, or 8 and a sum of SYS 1, IO 2 and CONS 4
abbrev pub auth_number : Auth → ℕ
auth_number auth.Info = 0
auth_number auth.All = 1
auth_number auth.Master = 2
auth_number auth.Sys = 9
auth_number auth.Io = 10
auth_number auth.SysIo = 11
auth_number auth.Cons = 12
auth_number auth.SysCons = 13
auth_number auth.IoCons = 14
auth_number auth.SysIoCons = 15

abbrev pub mode_letter : Mode → List ℕ
mode_letter Optional = codes "O"
mode_letter Required = codes "R"
mode_letter Auto = codes "A"

abbrev pub console_row : ConsoleRow → Row
console_row c =
    Text c.name ∷ Int (pos (auth_number c.auth)) ∷ Text (mode_letter c.mode) ∷ flag c.online ∷ text_or_null c.user
    ∷ flag c.monitor ∷ []

abbrev pub kind_letter : UnitKind → List ℕ
kind_letter Job = codes "J"
kind_letter (Stc member) = codes "S"
kind_letter Tsu = codes "T"

abbrev pub kind_member : UnitKind → Option (List ℕ)
kind_member Job = None
kind_member (Stc member) = Some member
kind_member Tsu = None

abbrev pub unit_row : UnitRow → Row
unit_row u =
    Text u.name ∷ Text (kind_letter u.kind) ∷ text_or_null (kind_member u.kind) ∷ flag u.cancelable ∷ flag u.stopping
    ∷ text_or_null u.last_text ∷ []

abbrev pub device_row : DeviceRow → Row
device_row d = Text d.number ∷ flag d.online ∷ text_or_null d.volume ∷ text_or_null d.unit ∷ []

-- the columns of tables whose key is a number
abbrev pub reply_values : ReplyRow → Row
reply_values r = Null ∷ Text r.text ∷ []

abbrev pub answered_values : ReplyRow → Row
answered_values r = Null ∷ Int (pos r.id) ∷ Text r.text ∷ []

abbrev pub log_values : List ℕ → Row
log_values text = Null ∷ Text text ∷ []

abbrev pub message_values : MessageRow → Row
message_values m = Null ∷ Text m.user ∷ Text m.text ∷ []

abbrev pub account_values : AccountRow → Row
account_values a = Null ∷ Int (pos a.moment) ∷ Text a.console ∷ Text a.user ∷ Text a.code ∷ Text a.rule ∷ []

abbrev pub reply_row : ReplyRow → Row
reply_row r = numbered_row reply_values r.id r

-- as a query returns them
abbrev pub reply_shown : ReplyRow → Row
reply_shown r = Int (pos r.id) ∷ Text r.text ∷ []

abbrev pub log_shown : List ℕ → Row
log_shown text = Text text ∷ []

abbrev pub message_shown : MessageRow → Row
message_shown m = Text m.user ∷ Text m.text ∷ []

abbrev pub account_shown : AccountRow → Row
account_shown a = Int (pos a.moment) ∷ Text a.console ∷ Text a.user ∷ Text a.code ∷ Text a.rule ∷ []

-- with the text of a policy file of its rows
abbrev pub batch_values : Batch → Row
batch_values b = Null ∷ Text (policy_text b.rows) ∷ []

abbrev pub batch_row : Batch → Row
batch_row b = numbered_row batch_values b.number b

-- The rows of each table.
abbrev pub contents_of : State → Contents
contents_of s = record {
  meta = version_row made_version ∷ [];
  classes = map class_row ((Console, s.policy.active.console) ∷ (Opercmds, s.policy.active.opercmds) ∷ []);
  consoles = map console_row s.board.consoles;
  units = map unit_row s.board.units;
  devices = map device_row s.board.devices;
  replies = map reply_row s.board.replies;
  answered = numbered_rows answered_values 1 s.board.answered;
  log = numbered_rows log_values 1 s.board.log;
  messages = numbered_rows message_values 1 s.board.messages;
  board = halted_row s.board.halted ∷ [];
  account = numbered_rows account_values 1 s.account;
  batches = map batch_row s.batches;
  grp = map group_row s.policy.groups;
  usr = map user_row s.policy.users;
  connects = map connect_row s.policy.connects;
  profiles = map profile_row s.policy.profiles;
  entries = flat_map entry_rows s.policy.profiles;
}

-- the database has the tables, and their rows are those of the state
abbrev pub Tabulates : Database → State → Type 0
Tabulates db s = IsMade (contents_of s) db

-- The tables represent a state: one row for each member and no other, of a state whose parts are in order.
pub record Represents (db : Database) (s : State) : Type 0 where
  pub ordered : IsOrdered s
  pub rows : Tabulates db s

-- The same for trees alone, as an opening finds them: they list the tables, and hold the rows.
pub record AreTablesOf (trees : Trees) (s : State) : Type 0 where
  pub ordered : IsOrdered s
  pub lists : Lists (trees catalog_tree) the_schema
  pub holds : Holds trees (contents_of s)
