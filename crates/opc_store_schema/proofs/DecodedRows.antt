-- Values and rows determine what they are of.
use Rattle.std.proofs.Common.{◌≡◌, ◌≢◌, ℕ, ◌==◌, Bool, true, false, cond, List, [], ◌∷◌, map, codes, Option, Some, None, Ok, Err, Result, refl, ap₂}
use Rattle.std.specs.List.{AllByRecursion}
use Rattle.std.specs.Str.{bytes_eq}
use Rattle.sqlite.specs.Order.{Row, column}
use Rattle.opc_names.specs.declared.auth.Auth.{Auth}
use Rattle.opc_names.specs.declared.auth.Auth.TheVariants as auth
use Rattle.opc_names.specs.declared.class.Class.{Class}
use Rattle.opc_names.specs.declared.class.Class.TheVariants.{Console, Opercmds}
use Rattle.opc_names.specs.declared.level.Level.{Level}
use Rattle.opc_names.specs.declared.level.Level.TheVariants as level
use Rattle.opc_names.specs.Authority.{level_rank}
use Rattle.opc_names.specs.Spellings.{class_text}
use Rattle.opc_policy_members.specs.declared.connect.Connect.{Connect}
use Rattle.opc_policy_members.specs.declared.entry.Entry.{Entry}
use Rattle.opc_terms.specs.declared.mode.Mode.{Mode}
use Rattle.opc_terms.specs.declared.mode.Mode.TheVariants.{Optional, Required, Auto}
use Rattle.opc_policy_members.specs.declared.profile.Profile.{Profile}
use Rattle.opc_policy_members.specs.declared.row.Row.{Row as PolicyRow}
use Rattle.opc_policy_members.specs.declared.user.User.{User}
use Rattle.opc_board.specs.declared.rows.ConsoleRow.{ConsoleRow}
use Rattle.opc_board.specs.declared.rows.DeviceRow.{DeviceRow}
use Rattle.opc_board.specs.declared.rows.MessageRow.{MessageRow}
use Rattle.opc_board.specs.declared.rows.ReplyRow.{ReplyRow}
use Rattle.opc_board.specs.declared.rows.UnitKind.{UnitKind}
use Rattle.opc_board.specs.declared.rows.UnitKind.TheVariants.{Job, Stc, Tsu}
use Rattle.opc_board.specs.declared.rows.UnitRow.{UnitRow}
use Rattle.opc_import.specs.Files.{policy_of}
use Rattle.opc_import.specs.declared.fault.ImportFault.{ImportFault}
use Rattle.opc_state.specs.declared.account.AccountRow.{AccountRow}
use Rattle.opc_state.specs.declared.change.Batch.{Batch}
use Rattle.opc_store_schema.specs.Content.{
  bare,
  text_said,
  number_said,
  flag_said,
  text_or_none,
  name_or_none,
  bytes_or_none,
  class_said,
  level_of,
  profile_said,
  entry_said,
}
use Rattle.opc_store_schema.specs.State.{IsReadBack, IsNamed}
use Rattle.opc_store_schema.specs.Represented.{
  flag,
  or_null,
  text_or_null,
  class_row,
  user_row,
  connect_row,
  profile_row,
  entry_row,
  auth_number,
  mode_letter,
  console_row,
  kind_letter,
  kind_member,
  unit_row,
  device_row,
  batch_row,
  or_empty,
}

-- ---- values

pub flag_back : (b : Bool) → flag_said (flag b) ≡ b
flag_back true = refl
flag_back false = refl

pub bytes_back : (o : Option (List ℕ)) → bytes_or_none (or_null o) ≡ o
bytes_back None = refl
bytes_back (Some b) = refl

pub text_back : (o : Option (List ℕ)) → text_or_none (text_or_null o) ≡ o
text_back None = refl
text_back (Some t) = refl

pub place_back : (o : Option (List ℕ)) → o ≢ Some [] → name_or_none (or_empty o) ≡ o
place_back None named = refl
place_back (Some []) named = absurd (named refl)
place_back (Some (c ∷ cs)) named = refl

abbrev pub class_in : List ℕ → Class
class_in text = cond (bytes_eq text (codes "CONSOLE")) Console Opercmds

pub class_back : (c : Class) → class_in (class_text c) ≡ c
class_back Console = refl
class_back Opercmds = refl

pub level_back : (l : Level) → level_of (level_rank l) ≡ l
level_back level.None = refl
level_back level.Read = refl
level_back level.Update = refl
level_back level.Control = refl
level_back level.Alter = refl

abbrev pub auth_of : ℕ → Auth
auth_of n =
    cond (n == 0) auth.Info (cond (n == 1) auth.All (cond (n == 2) auth.Master (cond (n == 9) auth.Sys (cond (n == 10) auth.Io
    (cond (n == 11) auth.SysIo (cond (n == 12) auth.Cons (cond (n == 13) auth.SysCons (cond (n == 14) auth.IoCons auth.SysIoCons))))))))

pub auth_back : (a : Auth) → auth_of (auth_number a) ≡ a
auth_back auth.Info = refl
auth_back auth.All = refl
auth_back auth.Master = refl
auth_back auth.Sys = refl
auth_back auth.Io = refl
auth_back auth.SysIo = refl
auth_back auth.Cons = refl
auth_back auth.SysCons = refl
auth_back auth.IoCons = refl
auth_back auth.SysIoCons = refl

abbrev pub mode_of : List ℕ → Mode
mode_of letter = cond (bytes_eq letter (codes "O")) Optional (cond (bytes_eq letter (codes "R")) Required Auto)

pub mode_back : (m : Mode) → mode_of (mode_letter m) ≡ m
mode_back Optional = refl
mode_back Required = refl
mode_back Auto = refl

abbrev pub kind_of : List ℕ → Option (List ℕ) → UnitKind
kind_of letter None = cond (bytes_eq letter (codes "T")) Tsu Job
kind_of letter (Some member) = Stc member

pub kind_back : (k : UnitKind) → kind_of (kind_letter k) (text_or_none (text_or_null (kind_member k))) ≡ k
kind_back Job = refl
kind_back (Stc member) = refl
kind_back Tsu = refl

-- ---- rows

abbrev pub group_said : Row → List ℕ
group_said v = text_said (column v 0)

abbrev pub user_said : Row → User
user_said v = record {
  id = text_said (column v 0);
  special = flag_said (column v 1);
  auditor = flag_said (column v 2);
  revoked = flag_said (column v 3);
  digest = bytes_or_none (column v 4);
  restricted = flag_said (column v 5);
}

pub user_back : (u : User) → user_said (user_row u) ≡ u
user_back u = λ i. record {
  id = u.id;
  special = flag_back u.special i;
  auditor = flag_back u.auditor i;
  revoked = flag_back u.revoked i;
  digest = bytes_back u.digest i;
  restricted = flag_back u.restricted i;
}

abbrev pub connect_said : Row → Connect
connect_said v = record { user = text_said (column v 0); group = text_said (column v 1) }

pub connect_back : (c : Connect) → connect_said (connect_row c) ≡ c
connect_back c = refl

pub profile_back : (p : Profile) → profile_said (profile_row p) ≡ bare p
profile_back p = λ i. record {
  class = class_back p.class i;
  pattern = p.pattern;
  owner = p.owner;
  uacc = level_back p.uacc i;
  warning = flag_back p.warning i;
  entries = [];
}

pub entry_back : (class : Class) (pattern : List ℕ) (e : Entry) → IsNamed e → entry_said (entry_row class pattern e) ≡ e
entry_back class pattern e named = λ i. record { id = e.id; when = place_back e.when named i; level = level_back e.level i }

pub entries_back : (class : Class) (pattern : List ℕ) (es : List Entry) → AllByRecursion IsNamed es → map entry_said (map (entry_row class pattern) es) ≡ es
entries_back class pattern [] named = refl
entries_back class pattern (e ∷ es) named =
    ap₂ (λ (x : Entry) (l : List Entry). x ∷ l) (entry_back class pattern e named.0)
    (entries_back class pattern es named.1)

abbrev pub class_row_said : Row → Class × Bool
class_row_said v = (class_said (column v 0), flag_said (column v 1))

pub class_row_back : (c : Class × Bool) → class_row_said (class_row c) ≡ c
class_row_back c = λ i. (class_back c.0 i, flag_back c.1 i)

abbrev pub halted_said : Row → Bool
halted_said v = flag_said (column v 0)

abbrev pub unit_said : Row → UnitRow
unit_said v = record {
  name = text_said (column v 0);
  kind = kind_of (text_said (column v 1)) (text_or_none (column v 2));
  cancelable = flag_said (column v 3);
  stopping = flag_said (column v 4);
  last_text = text_or_none (column v 5);
}

pub unit_back : (u : UnitRow) → unit_said (unit_row u) ≡ u
unit_back u = λ i. record {
  name = u.name;
  kind = kind_back u.kind i;
  cancelable = flag_back u.cancelable i;
  stopping = flag_back u.stopping i;
  last_text = text_back u.last_text i;
}

abbrev pub device_said : Row → DeviceRow
device_said v = record {
  number = text_said (column v 0);
  online = flag_said (column v 1);
  volume = text_or_none (column v 2);
  unit = text_or_none (column v 3);
}

pub device_back : (d : DeviceRow) → device_said (device_row d) ≡ d
device_back d = λ i. record { number = d.number; online = flag_back d.online i; volume = text_back d.volume i; unit = text_back d.unit i }

abbrev pub console_said : Row → ConsoleRow
console_said v = record {
  name = text_said (column v 0);
  auth = auth_of (number_said (column v 1));
  mode = mode_of (text_said (column v 2));
  online = flag_said (column v 3);
  user = text_or_none (column v 4);
  monitor = flag_said (column v 5);
}

pub console_back : (c : ConsoleRow) → console_said (console_row c) ≡ c
console_back c = λ i. record {
  name = c.name;
  auth = auth_back c.auth i;
  mode = mode_back c.mode i;
  online = flag_back c.online i;
  user = text_back c.user i;
  monitor = flag_back c.monitor i;
}

-- whole rows, with their numbers
abbrev pub reply_said : Row → ReplyRow
reply_said r = record { id = number_said (column r 0); text = text_said (column r 2) }

abbrev pub answered_said : Row → ReplyRow
answered_said r = record { id = number_said (column r 2); text = text_said (column r 3) }

abbrev pub log_said : Row → List ℕ
log_said r = text_said (column r 2)

abbrev pub message_said : Row → MessageRow
message_said r = record { user = text_said (column r 2); text = text_said (column r 3) }

abbrev pub account_said : Row → AccountRow
account_said r = record {
  moment = number_said (column r 2);
  console = text_said (column r 3);
  user = text_said (column r 4);
  code = text_said (column r 5);
  rule = text_said (column r 6);
}

abbrev pub rows_or_none : Result (List PolicyRow) ImportFault → List PolicyRow
rows_or_none (Ok rows) = rows
rows_or_none (Err e) = []

abbrev pub batch_said : Row → Batch
batch_said r = record { number = number_said (column r 0); rows = rows_or_none (policy_of (text_said (column r 2))) }

pub batches_back : (bs : List Batch) → AllByRecursion IsReadBack bs → map batch_said (map batch_row bs) ≡ bs
batches_back [] h = refl
batches_back (b ∷ bs) h = ap₂ (λ (x : Batch) (l : List Batch). x ∷ l) (λ i. record { number = b.number; rows = rows_or_none (h.0 i) }) (batches_back bs h.1)
