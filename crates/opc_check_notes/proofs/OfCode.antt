-- A note of a code is about rows of one kind alone.
use Rattle.std.proofs.Common.{◌≡◌, false, List, None, refl, ap}
use Rattle.std.specs.Prelude.{filter_map}
use Rattle.std.specs.Option.{option_map}
use Rattle.std.specs.List.{list_any}
use Rattle.opc_names.specs.declared.class.Class.{Class}
use Rattle.opc_policy_members.specs.declared.row.Row.{Row}
use Rattle.opc_policy_members.specs.declared.row.Row.TheVariants as rows
use Rattle.opc_import.specs.declared.kind.Kind.TheVariants as kind
use Rattle.opc_check_notes.specs.declared.numbered.NumberedRow.{NumberedRow}
use Rattle.opc_check_notes.specs.Kinds.{is_of, of_kind}
use Rattle.opc_check_notes.proofs.OfKind.{others_fail, others_give_none}
use Rattle.opc_check_notes.specs.declared.note.NoteCode.{NoteCode}
use Rattle.opc_check_notes.specs.declared.note.NoteCode.TheVariants as code
use Rattle.opc_check_notes.specs.Notes.{about, finding, is_class_row, is_profile_row, note_at}

none_else : (list : List NumberedRow) (c : NoteCode) (row : Row) → is_of (about c) row ≡ false → finding list c row ≡ None
none_else list code.Auditor row h = refl
none_else list code.Master row h = refl
none_else list code.Warning (rows.Class class active) h = refl
none_else list code.Warning (rows.Group name) h = refl
none_else list code.Warning (rows.User user) h = refl
none_else list code.Warning (rows.Connect user group) h = refl
none_else list code.Warning (rows.Console name auth mode) h = refl
none_else list code.Warning (rows.Profile class pattern uacc owner warning) h = absurd (cc)
none_else list code.Warning (rows.Permit class pattern id level when) h = refl
none_else list code.OpenToAll (rows.Class class active) h = refl
none_else list code.OpenToAll (rows.Group name) h = refl
none_else list code.OpenToAll (rows.User user) h = refl
none_else list code.OpenToAll (rows.Connect user group) h = refl
none_else list code.OpenToAll (rows.Console name auth mode) h = refl
none_else list code.OpenToAll (rows.Profile class pattern uacc owner warning) h = absurd (cc)
none_else list code.OpenToAll (rows.Permit class pattern id level when) h = refl
none_else list code.NoDigest (rows.Class class active) h = refl
none_else list code.NoDigest (rows.Group name) h = refl
none_else list code.NoDigest (rows.User user) h = absurd (cc)
none_else list code.NoDigest (rows.Connect user group) h = refl
none_else list code.NoDigest (rows.Console name auth mode) h = refl
none_else list code.NoDigest (rows.Profile class pattern uacc owner warning) h = refl
none_else list code.NoDigest (rows.Permit class pattern id level when) h = refl
none_else list code.SameDigest (rows.Class class active) h = refl
none_else list code.SameDigest (rows.Group name) h = refl
none_else list code.SameDigest (rows.User user) h = absurd (cc)
none_else list code.SameDigest (rows.Connect user group) h = refl
none_else list code.SameDigest (rows.Console name auth mode) h = refl
none_else list code.SameDigest (rows.Profile class pattern uacc owner warning) h = refl
none_else list code.SameDigest (rows.Permit class pattern id level when) h = refl
none_else list code.EmptyGroup (rows.Class class active) h = refl
none_else list code.EmptyGroup (rows.Group name) h = absurd (cc)
none_else list code.EmptyGroup (rows.User user) h = refl
none_else list code.EmptyGroup (rows.Connect user group) h = refl
none_else list code.EmptyGroup (rows.Console name auth mode) h = refl
none_else list code.EmptyGroup (rows.Profile class pattern uacc owner warning) h = refl
none_else list code.EmptyGroup (rows.Permit class pattern id level when) h = refl
none_else list code.RevokedEntry (rows.Class class active) h = refl
none_else list code.RevokedEntry (rows.Group name) h = refl
none_else list code.RevokedEntry (rows.User user) h = refl
none_else list code.RevokedEntry (rows.Connect user group) h = refl
none_else list code.RevokedEntry (rows.Console name auth mode) h = refl
none_else list code.RevokedEntry (rows.Profile class pattern uacc owner warning) h = refl
none_else list code.RevokedEntry (rows.Permit class pattern id level when) h = absurd (cc)
none_else list code.Special (rows.Class class active) h = refl
none_else list code.Special (rows.Group name) h = refl
none_else list code.Special (rows.User user) h = absurd (cc)
none_else list code.Special (rows.Connect user group) h = refl
none_else list code.Special (rows.Console name auth mode) h = refl
none_else list code.Special (rows.Profile class pattern uacc owner warning) h = refl
none_else list code.Special (rows.Permit class pattern id level when) h = refl
none_else list code.OpenConsole (rows.Class class active) h = refl
none_else list code.OpenConsole (rows.Group name) h = refl
none_else list code.OpenConsole (rows.User user) h = refl
none_else list code.OpenConsole (rows.Connect user group) h = refl
none_else list code.OpenConsole (rows.Console name auth mode) h = absurd (cc)
none_else list code.OpenConsole (rows.Profile class pattern uacc owner warning) h = refl
none_else list code.OpenConsole (rows.Permit class pattern id level when) h = refl
none_else list code.NoOwnUser (rows.Class class active) h = refl
none_else list code.NoOwnUser (rows.Group name) h = refl
none_else list code.NoOwnUser (rows.User user) h = refl
none_else list code.NoOwnUser (rows.Connect user group) h = refl
none_else list code.NoOwnUser (rows.Console name auth mode) h = absurd (cc)
none_else list code.NoOwnUser (rows.Profile class pattern uacc owner warning) h = refl
none_else list code.NoOwnUser (rows.Permit class pattern id level when) h = refl
none_else list code.InactiveClass (rows.Class class active) h = absurd (cc)
none_else list code.InactiveClass (rows.Group name) h = refl
none_else list code.InactiveClass (rows.User user) h = refl
none_else list code.InactiveClass (rows.Connect user group) h = refl
none_else list code.InactiveClass (rows.Console name auth mode) h = refl
none_else list code.InactiveClass (rows.Profile class pattern uacc owner warning) h = refl
none_else list code.InactiveClass (rows.Permit class pattern id level when) h = refl
none_else list code.NoProfile (rows.Class class active) h = absurd (cc)
none_else list code.NoProfile (rows.Group name) h = refl
none_else list code.NoProfile (rows.User user) h = refl
none_else list code.NoProfile (rows.Connect user group) h = refl
none_else list code.NoProfile (rows.Console name auth mode) h = refl
none_else list code.NoProfile (rows.Profile class pattern uacc owner warning) h = refl
none_else list code.NoProfile (rows.Permit class pattern id level when) h = refl
none_else list code.OwnBelowGroup (rows.Class class active) h = refl
none_else list code.OwnBelowGroup (rows.Group name) h = refl
none_else list code.OwnBelowGroup (rows.User user) h = refl
none_else list code.OwnBelowGroup (rows.Connect user group) h = refl
none_else list code.OwnBelowGroup (rows.Console name auth mode) h = refl
none_else list code.OwnBelowGroup (rows.Profile class pattern uacc owner warning) h = refl
none_else list code.OwnBelowGroup (rows.Permit class pattern id level when) h = absurd (cc)
none_else list code.ServesNobody (rows.Class class active) h = refl
none_else list code.ServesNobody (rows.Group name) h = refl
none_else list code.ServesNobody (rows.User user) h = refl
none_else list code.ServesNobody (rows.Connect user group) h = refl
none_else list code.ServesNobody (rows.Console name auth mode) h = refl
none_else list code.ServesNobody (rows.Profile class pattern uacc owner warning) h = refl
none_else list code.ServesNobody (rows.Permit class pattern id level when) h = absurd (cc)
none_else list code.NoResource (rows.Class class active) h = refl
none_else list code.NoResource (rows.Group name) h = refl
none_else list code.NoResource (rows.User user) h = refl
none_else list code.NoResource (rows.Connect user group) h = refl
none_else list code.NoResource (rows.Console name auth mode) h = refl
none_else list code.NoResource (rows.Profile class pattern uacc owner warning) h = absurd (cc)
none_else list code.NoResource (rows.Permit class pattern id level when) h = refl
none_else list code.SpecialConsole (rows.Class class active) h = refl
none_else list code.SpecialConsole (rows.Group name) h = refl
none_else list code.SpecialConsole (rows.User user) h = refl
none_else list code.SpecialConsole (rows.Connect user group) h = refl
none_else list code.SpecialConsole (rows.Console name auth mode) h = absurd (cc)
none_else list code.SpecialConsole (rows.Profile class pattern uacc owner warning) h = refl
none_else list code.SpecialConsole (rows.Permit class pattern id level when) h = refl
none_else list code.NoAccess (rows.Class class active) h = refl
none_else list code.NoAccess (rows.Group name) h = refl
none_else list code.NoAccess (rows.User user) h = absurd (cc)
none_else list code.NoAccess (rows.Connect user group) h = refl
none_else list code.NoAccess (rows.Console name auth mode) h = refl
none_else list code.NoAccess (rows.Profile class pattern uacc owner warning) h = refl
none_else list code.NoAccess (rows.Permit class pattern id level when) h = refl
none_else list code.NeverDecides (rows.Class class active) h = refl
none_else list code.NeverDecides (rows.Group name) h = refl
none_else list code.NeverDecides (rows.User user) h = refl
none_else list code.NeverDecides (rows.Connect user group) h = refl
none_else list code.NeverDecides (rows.Console name auth mode) h = refl
none_else list code.NeverDecides (rows.Profile class pattern uacc owner warning) h = absurd (cc)
none_else list code.NeverDecides (rows.Permit class pattern id level when) h = refl

pub notes_about : (list : List NumberedRow) (c : NoteCode)
    → filter_map (note_at list c) (of_kind list (about c)) ≡ filter_map (note_at list c) list
notes_about list c =
    others_give_none (λ (at : NumberedRow). is_of (about c) at.row) (note_at list c)
    (λ at h. ap (option_map _) (none_else list c at.row h)) list

class_none : (class : Class) (row : Row) → is_of kind.Class row ≡ false → is_class_row class row ≡ false
class_none c (rows.Class class active) h = absurd (cc)
class_none c (rows.Group name) h = refl
class_none c (rows.User user) h = refl
class_none c (rows.Connect user group) h = refl
class_none c (rows.Console name auth mode) h = refl
class_none c (rows.Profile class pattern uacc owner warning) h = refl
class_none c (rows.Permit class pattern id level when) h = refl

profile_none : (class : Class) (row : Row) → is_of kind.Profile row ≡ false → is_profile_row class row ≡ false
profile_none c (rows.Class class active) h = refl
profile_none c (rows.Group name) h = refl
profile_none c (rows.User user) h = refl
profile_none c (rows.Connect user group) h = refl
profile_none c (rows.Console name auth mode) h = refl
profile_none c (rows.Profile class pattern uacc owner warning) h = absurd (cc)
profile_none c (rows.Permit class pattern id level when) h = refl

pub class_rows : (list : List NumberedRow) (class : Class) → list_any (λ (at : NumberedRow). is_class_row class at.row) (of_kind list kind.Class)
    ≡ list_any (λ (at : NumberedRow). is_class_row class at.row) list
class_rows list class =
    others_fail (λ (at : NumberedRow). is_of kind.Class at.row) (λ (at : NumberedRow). is_class_row class at.row)
    (λ at. class_none class at.row) list

pub profile_rows : (list : List NumberedRow) (class : Class) → list_any (λ (at : NumberedRow). is_profile_row class at.row) (of_kind list kind.Profile)
    ≡ list_any (λ (at : NumberedRow). is_profile_row class at.row) list
profile_rows list class =
    others_fail (λ (at : NumberedRow). is_of kind.Profile at.row) (λ (at : NumberedRow). is_profile_row class at.row)
    (λ at. profile_none class at.row) list
