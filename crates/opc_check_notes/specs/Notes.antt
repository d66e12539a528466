-- The notes on a policy file. Each has a code, and a definition over the rows in effect.
use Rattle.std.specs.Prelude.{
  ℕ,
  Bool,
  false,
  not,
  ◌&&◌,
  ◌||◌,
  ◌==◌,
  List,
  [],
  ◌∷◌,
  ◌++◌,
  Option,
  Some,
  None,
  filter_map,
  if◌then◌else◌,
  map,
  option_map,
}
use Rattle.std.specs.List.{flat_map, list_all, list_any}
use Rattle.std.specs.Option.{is_none, is_some, option_and_then}
use Rattle.std.specs.Str.{bytes_eq}
use Rattle.opc_names.specs.Authority.{includes, same_class}
use Rattle.opc_names.specs.declared.class.Class.{Class}
use Rattle.opc_names.specs.declared.class.Class.TheVariants.{Console, Opercmds}
use Rattle.opc_names.specs.declared.level.Level.{Level}
use Rattle.opc_names.specs.declared.level.Level.TheVariants as level
use Rattle.opc_terms.specs.declared.mode.Mode.TheVariants as mode
use Rattle.opc_policy_members.specs.declared.row.Row.{Row}
use Rattle.opc_policy_members.specs.declared.row.Row.TheVariants as rows
use Rattle.opc_check_notes.specs.declared.effect.RowKey.TheVariants as key
use Rattle.opc_check_notes.specs.declared.connects.Side.TheVariants as side
use Rattle.opc_import.specs.declared.kind.Kind.{Kind}
use Rattle.opc_import.specs.declared.kind.Kind.TheVariants as kind
use Rattle.opc_check_notes.specs.declared.names.Given.{Given}
use Rattle.opc_check_notes.specs.declared.names.Given.TheVariants as given
use Rattle.opc_check_notes.specs.Met.{is_met, is_preceded}
use Rattle.opc_check_notes.specs.Preceding.{opercmds_pattern}
use Rattle.opc_check_notes.specs.declared.note.Finding.{Finding}
use Rattle.opc_check_notes.specs.declared.note.Finding.TheVariants as found
use Rattle.opc_check_notes.specs.declared.note.Note.{Note}
use Rattle.opc_check_notes.specs.declared.note.NoteCode.{NoteCode}
use Rattle.opc_check_notes.specs.declared.note.NoteCode.TheVariants as code
use Rattle.opc_check_notes.specs.declared.numbered.NumberedRow.{NumberedRow}
use Rattle.opc_check_notes.specs.Digests.{first_with}
use Rattle.opc_check_notes.specs.Effect.{in_effect}
use Rattle.opc_check_notes.specs.First.{first_of}
use Rattle.opc_check_notes.specs.Connects.{partners}
use Rattle.opc_check_notes.specs.Levels.{level_at}
use Rattle.opc_check_notes.specs.Named.{count, is_named, named}

abbrev pub if_so : Bool → Finding → Option Finding
if_so holds finding = if holds then Some finding else None

-- ---- profiles

-- N01
abbrev pub warning : Row → Option Finding
warning (rows.Profile class pattern uacc owner warns) = if_so warns (found.Warning class pattern)
warning row = None

-- N02
abbrev pub open_to_all : Row → Option Finding
open_to_all (rows.Profile class pattern uacc owner warns) =
    if_so (includes uacc level.Update) (found.OpenToAll class pattern uacc)
open_to_all row = None

-- N17
abbrev pub no_resource : Row → Option Finding
no_resource row = option_and_then
    (λ (pattern : List ℕ). if_so (not (is_met pattern)) (found.NoResource pattern)) (opercmds_pattern row)

-- N20
abbrev pub never_decides : List NumberedRow → Row → Option Finding
never_decides list row = option_and_then
    (λ (pattern : List ℕ). if_so (is_preceded list pattern) (found.NeverDecides pattern)) (opercmds_pattern row)

-- ---- users

-- N03: a user without a digest acts only at an AUTO console with the user's name
abbrev pub no_digest : List NumberedRow → Row → Option Finding
no_digest list (rows.User user) =
    if_so (is_none user.digest && not user.revoked && not (is_named list given.AutoConsole user.id))
    (found.NoDigest user.id)
no_digest list row = None

-- N04: a user who has the digest of an earlier user
abbrev pub other_with : List ℕ → Option (List ℕ) → Option Finding
other_with id None = None
other_with id (Some other) = if_so (not (bytes_eq other id)) (found.SameDigest id other)

abbrev pub same_digest : List NumberedRow → Row → Option Finding
same_digest list (rows.User user) = option_and_then (λ (d : List ℕ). other_with user.id (first_with list d)) user.digest
same_digest list row = None

-- N08
abbrev pub one_special : List NumberedRow → Row → Option Finding
one_special list (rows.User user) =
    if_so (is_some (named given.Special (rows.User user)) && (count list given.Special == 1)) (found.OneSpecial user.id)
one_special list row = None

-- N19
abbrev pub no_access : List NumberedRow → Row → Option Finding
no_access list (rows.User user) =
    if_so (not (is_named list given.ConnectedUser user.id || is_named list given.Holder user.id))
    (found.NoAccess user.id)
no_access list row = None

-- ---- groups and entries

-- N05
abbrev pub empty_group : List NumberedRow → Row → Option Finding
empty_group list (rows.Group name) = if_so (not (is_named list given.ConnectedGroup name)) (found.EmptyGroup name)
empty_group list row = None

-- N06
abbrev pub revoked_entry : List NumberedRow → Row → Option Finding
revoked_entry list (rows.Permit class pattern id level when) =
    if_so (is_named list given.Revoked id) (found.RevokedEntry class pattern id)
revoked_entry list row = None

-- N15: the first group of the user whose entry gives more, at the same console or at every one
abbrev pub above : List ℕ → List ℕ → Level → List ℕ → Option Level → Option Finding
above pattern user level group None = None
above pattern user level group (Some higher) =
    if_so (not (includes level higher)) (found.OwnBelowGroup pattern user level group higher)

abbrev pub group_above : List NumberedRow → Row → List ℕ → Option Finding
group_above list (rows.Permit class pattern id level when) group =
    above pattern id level group (level_at list (key.Permit group class pattern when))
group_above list row group = None

abbrev pub own_below_group : List NumberedRow → Row → Option Finding
own_below_group list (rows.Permit class pattern id level when) =
    first_of (group_above list (rows.Permit class pattern id level when)) (partners list side.User id)
own_below_group list row = None

-- N16: each user of the group has an entry of its own, at the same console or at every one
abbrev pub has_own : List NumberedRow → Row → List ℕ → Bool
has_own list (rows.Permit class pattern id level when) user =
    is_some (level_at list (key.Permit user class pattern when))
has_own list row user = false

abbrev pub serves_nobody : List NumberedRow → Row → Option Finding
serves_nobody list (rows.Permit class pattern id level when) =
    if_so (is_named list given.Group id
    && list_all (has_own list (rows.Permit class pattern id level when)) (partners list side.Group id))
    (found.ServesNobody pattern id level)
serves_nobody list row = None

-- ---- consoles

-- N11
abbrev pub open_console : Row → Option Finding
open_console (rows.Console name auth mode.Optional) = Some (found.OpenConsole name auth)
open_console row = None

-- N12
abbrev pub no_own_user : List NumberedRow → Row → Option Finding
no_own_user list (rows.Console name auth mode.Auto) = if_so (not (is_named list given.User name)) (found.NoOwnUser name)
no_own_user list row = None

-- N18
abbrev pub special_console : List NumberedRow → Row → Option Finding
special_console list (rows.Console name auth mode.Auto) =
    if_so (is_named list given.Special name) (found.SpecialConsole name)
special_console list row = None

-- ---- classes

abbrev pub is_class_row : Class → Row → Bool
is_class_row class (rows.Class other active) = same_class other class
is_class_row class row = false

abbrev pub is_profile_row : Class → Row → Bool
is_profile_row class (rows.Profile other pattern uacc owner warns) = same_class other class
is_profile_row class row = false

-- N13
abbrev pub inactive_class : Row → Option Finding
inactive_class (rows.Class class false) = Some (found.InactiveClass class)
inactive_class row = None

-- N14
abbrev pub no_profile : List NumberedRow → Row → Option Finding
no_profile list (rows.Class class active) =
    if_so (active && not (list_any (λ (at : NumberedRow). is_profile_row class at.row) list)) (found.NoProfile class)
no_profile list row = None

-- ---- all notes

-- what is found at a row, but for what a search for resources finds
abbrev pub found_without_search : List NumberedRow → NoteCode → Row → Option Finding
found_without_search list code.Warning row = warning row
found_without_search list code.OpenToAll row = open_to_all row
found_without_search list code.NoDigest row = no_digest list row
found_without_search list code.SameDigest row = same_digest list row
found_without_search list code.EmptyGroup row = empty_group list row
found_without_search list code.RevokedEntry row = revoked_entry list row
found_without_search list code.Special row = one_special list row
found_without_search list code.OpenConsole row = open_console row
found_without_search list code.NoOwnUser row = no_own_user list row
found_without_search list code.InactiveClass row = inactive_class row
found_without_search list code.NoProfile row = no_profile list row
found_without_search list code.OwnBelowGroup row = own_below_group list row
found_without_search list code.ServesNobody row = serves_nobody list row
found_without_search list code.SpecialConsole row = special_console list row
found_without_search list code.NoAccess row = no_access list row
found_without_search list code row = None

-- what is found at a row
abbrev pub finding : List NumberedRow → NoteCode → Row → Option Finding
finding list code.NoResource row = no_resource row
finding list code.NeverDecides row = never_decides list row
finding list code row = found_without_search list code row

-- the kind of the rows that a code is about
abbrev pub about : NoteCode → Kind
about code.Warning = kind.Profile
about code.OpenToAll = kind.Profile
about code.NoDigest = kind.User
about code.SameDigest = kind.User
about code.EmptyGroup = kind.Group
about code.RevokedEntry = kind.Permit
about code.Special = kind.User
about code.Auditor = kind.User
about code.Master = kind.Console
about code.OpenConsole = kind.Console
about code.NoOwnUser = kind.Console
about code.InactiveClass = kind.Class
about code.NoProfile = kind.Class
about code.OwnBelowGroup = kind.Permit
about code.ServesNobody = kind.Permit
about code.NoResource = kind.Profile
about code.SpecialConsole = kind.Console
about code.NoAccess = kind.User
about code.NeverDecides = kind.Profile

-- findings about no row: what nobody has, and a class of which no row says whether it is active
abbrev pub if_none : List NumberedRow → Given → Finding → List Finding
if_none list given finding = if count list given == 0 then finding ∷ [] else []

abbrev pub unnamed_class : List NumberedRow → Class → List Finding
unnamed_class list class =
    if list_any (λ (at : NumberedRow). is_class_row class at.row) list then [] else found.InactiveClass class ∷ []

abbrev pub findings : List NumberedRow → NoteCode → List Finding
findings list code.Special = if_none list given.Special found.NoSpecial
findings list code.Auditor = if_none list given.Auditor found.NoAuditor
findings list code.Master = if_none list given.MasterConsole found.NoMaster
findings list code.InactiveClass = unnamed_class list Console ++ unnamed_class list Opercmds
findings list code = []

abbrev pub note_at : List NumberedRow → NoteCode → NumberedRow → Option Note
note_at list code at =
    option_map (λ (f : Finding). record { row = Some at.number; finding = f }) (finding list code at.row)

abbrev pub note_of_none : Finding → Note
note_of_none f = record { row = None; finding = f }

-- the notes of a code: about the rows in their order, then about no row
abbrev pub notes_of : List NumberedRow → NoteCode → List Note
notes_of list code = filter_map (note_at list code) list ++ map note_of_none (findings list code)

-- the codes, in their order
abbrev pub all_codes : List NoteCode
all_codes = code.Warning ∷ code.OpenToAll ∷ code.NoDigest ∷ code.SameDigest ∷ code.EmptyGroup
    ∷ code.RevokedEntry ∷ code.Special ∷ code.Auditor ∷ code.Master ∷ code.OpenConsole ∷ code.NoOwnUser
    ∷ code.InactiveClass ∷ code.NoProfile ∷ code.OwnBelowGroup ∷ code.ServesNobody ∷ code.NoResource
    ∷ code.SpecialConsole ∷ code.NoAccess ∷ code.NeverDecides ∷ []

-- The notes on the rows of a policy file, by their codes and then by rows.
abbrev pub notes : List Row → List Note
notes rows = flat_map (notes_of (in_effect 1 rows)) all_codes
