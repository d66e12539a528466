-- The members of a state that edits put and remove: the orders of the keys, and the lists with and without one.
use Rattle.std.specs.Prelude.{◌==◌, ◌&&◌, ℕ, not, List, Option, filter}
use Rattle.std.specs.BTreeSet.{replace_key}
use Rattle.std.specs.Option.{option_map_or}
use Rattle.std.specs.Ordering.{nat_cmp}
use Rattle.std.specs.Str.{bytes_eq}
use Rattle.std.specs.declared.cmp.Ordering.{Ordering}
use Rattle.opc_names.specs.declared.class.Class.{Class}
use Rattle.opc_policy_members.specs.declared.connect.Connect.{Connect}
use Rattle.opc_policy_members.specs.declared.entry.Entry.{Entry}
use Rattle.opc_policy_members.specs.declared.profile.Profile.{Profile}
use Rattle.opc_policy_members.specs.declared.user.User.{User}
use Rattle.opc_policy_members.specs.Access.{is_for}
use Rattle.opc_policy_members.specs.Members.{name_cmp}
use Rattle.opc_policy_members.specs.Profiles.{is_of, profile_of, with_profile}
use Rattle.opc_board.specs.declared.rows.ConsoleRow.{ConsoleRow}
use Rattle.opc_board.specs.declared.rows.DeviceRow.{DeviceRow}
use Rattle.opc_board.specs.declared.rows.ReplyRow.{ReplyRow}
use Rattle.opc_board.specs.declared.rows.UnitRow.{UnitRow}
use Rattle.opc_state.specs.declared.change.Batch.{Batch}

-- units, devices and consoles by name or number, replies and batches by number
abbrev pub unit_cmp : UnitRow → UnitRow → Ordering
unit_cmp u v = name_cmp u.name v.name

abbrev pub device_cmp : DeviceRow → DeviceRow → Ordering
device_cmp d e = name_cmp d.number e.number

abbrev pub console_cmp : ConsoleRow → ConsoleRow → Ordering
console_cmp c d = name_cmp c.name d.name

abbrev pub reply_cmp : ReplyRow → ReplyRow → Ordering
reply_cmp r q = nat_cmp r.id q.id

abbrev pub batch_cmp : Batch → Batch → Ordering
batch_cmp b c = nat_cmp b.number c.number

-- with one more, in the place of the one of its key
abbrev pub with_unit : UnitRow → List UnitRow → List UnitRow
with_unit unit units = replace_key unit_cmp units unit

abbrev pub with_device : DeviceRow → List DeviceRow → List DeviceRow
with_device device devices = replace_key device_cmp devices device

abbrev pub with_console : ConsoleRow → List ConsoleRow → List ConsoleRow
with_console console consoles = replace_key console_cmp consoles console

abbrev pub with_reply : ReplyRow → List ReplyRow → List ReplyRow
with_reply reply replies = replace_key reply_cmp replies reply

abbrev pub with_batch : Batch → List Batch → List Batch
with_batch batch batches = replace_key batch_cmp batches batch

-- the others
abbrev pub without_group : List ℕ → List (List ℕ) → List (List ℕ)
without_group name groups = filter (λ (g : List ℕ). not (bytes_eq g name)) groups

abbrev pub without_user : List ℕ → List User → List User
without_user id users = filter (λ (u : User). not (bytes_eq u.id id)) users

abbrev pub without_connect : Connect → List Connect → List Connect
without_connect c connects = filter (λ (d : Connect). not (bytes_eq d.user c.user && bytes_eq d.group c.group)) connects

abbrev pub without_profile : Class → List ℕ → List Profile → List Profile
without_profile class pattern profiles = filter (λ (p : Profile). not (is_of class pattern p)) profiles

abbrev pub without_entry : List ℕ → Option (List ℕ) → List Entry → List Entry
without_entry id when entries = filter (λ (e : Entry). not (is_for when id e)) entries

-- the profiles without this entry in the access list of one, if it is there
abbrev pub without_permission : Class → List ℕ → List ℕ → Option (List ℕ) → List Profile → List Profile
without_permission class pattern id when profiles =
    option_map_or (λ (p : Profile). with_profile (record p { entries = without_entry id when p.entries }) profiles)
    (profile_of profiles class pattern) profiles

abbrev pub without_unit : List ℕ → List UnitRow → List UnitRow
without_unit name units = filter (λ (u : UnitRow). not (bytes_eq u.name name)) units

abbrev pub without_device : List ℕ → List DeviceRow → List DeviceRow
without_device number devices = filter (λ (d : DeviceRow). not (bytes_eq d.number number)) devices

abbrev pub without_console : List ℕ → List ConsoleRow → List ConsoleRow
without_console name consoles = filter (λ (c : ConsoleRow). not (bytes_eq c.name name)) consoles

abbrev pub without_reply : ℕ → List ReplyRow → List ReplyRow
without_reply id replies = filter (λ (r : ReplyRow). not (r.id == id)) replies
