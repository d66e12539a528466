-- The texts of notes.
use Rattle.std.specs.Prelude.{ℕ, List, [], ◌∷◌, ◌++◌, Option, Some, None, codes}
use Rattle.serde_json.specs.Data.{Data, member, no_members, null, number, object, string, unsigned}
use Rattle.serde_json.specs.Written.{compact_text}
use Rattle.opc_names.specs.declared.auth.Auth.{Auth}
use Rattle.opc_names.specs.declared.auth.Auth.TheVariants as auth
use Rattle.opc_names.specs.declared.class.Class.{Class}
use Rattle.opc_names.specs.declared.class.Class.TheVariants.{Console, Opercmds}
use Rattle.opc_names.specs.Spellings.{auth_text, class_text, level_text}
use Rattle.opc_check_notes.specs.declared.note.Finding.{Finding}
use Rattle.opc_check_notes.specs.declared.note.Finding.TheVariants as found
use Rattle.opc_check_notes.specs.declared.note.Note.{Note}
use Rattle.opc_check_notes.specs.declared.note.NoteCode.{NoteCode}
use Rattle.opc_check_notes.specs.declared.note.NoteCode.TheVariants as code

abbrev pub code_text : NoteCode → List ℕ
code_text code.Warning = codes "N01"
code_text code.OpenToAll = codes "N02"
code_text code.NoDigest = codes "N03"
code_text code.SameDigest = codes "N04"
code_text code.EmptyGroup = codes "N05"
code_text code.RevokedEntry = codes "N06"
code_text code.Special = codes "N08"
code_text code.Auditor = codes "N09"
code_text code.Master = codes "N10"
code_text code.OpenConsole = codes "N11"
code_text code.NoOwnUser = codes "N12"
code_text code.InactiveClass = codes "N13"
code_text code.NoProfile = codes "N14"
code_text code.OwnBelowGroup = codes "N15"
code_text code.ServesNobody = codes "N16"
code_text code.NoResource = codes "N17"
code_text code.SpecialConsole = codes "N18"
code_text code.NoAccess = codes "N19"
code_text code.NeverDecides = codes "N20"

abbrev pub code_of : Finding → NoteCode
code_of (found.Warning class pattern) = code.Warning
code_of (found.OpenToAll class pattern uacc) = code.OpenToAll
code_of (found.NoDigest user) = code.NoDigest
code_of (found.SameDigest user other) = code.SameDigest
code_of (found.EmptyGroup group) = code.EmptyGroup
code_of (found.RevokedEntry class pattern user) = code.RevokedEntry
code_of (found.OneSpecial user) = code.Special
code_of found.NoSpecial = code.Special
code_of found.NoAuditor = code.Auditor
code_of found.NoMaster = code.Master
code_of (found.OpenConsole console auth) = code.OpenConsole
code_of (found.NoOwnUser console) = code.NoOwnUser
code_of (found.InactiveClass class) = code.InactiveClass
code_of (found.NoProfile class) = code.NoProfile
code_of (found.OwnBelowGroup pattern user level group higher) = code.OwnBelowGroup
code_of (found.ServesNobody pattern group level) = code.ServesNobody
code_of (found.NoResource pattern) = code.NoResource
code_of (found.SpecialConsole console) = code.SpecialConsole
code_of (found.NoAccess user) = code.NoAccess
code_of (found.NeverDecides pattern) = code.NeverDecides

-- what an OPTIONAL console allows without a logon
abbrev pub opened : Auth → List ℕ
opened auth.Master = codes "everything"
opened auth.All = codes "everything but MASTER"
opened other = auth_text other

-- what it means if an active class has no profile
abbrev pub without_profile : Class → List ℕ
without_profile Console = codes "every user may log on everywhere"
without_profile Opercmds = codes "the authority of the console decides"

abbrev pub finding_text : Finding → List ℕ
finding_text (found.Warning class pattern) =
    codes "profile " ++ (class_text class ++ (codes " " ++ (pattern ++ codes " has WARNING")))
finding_text (found.OpenToAll class pattern uacc) =
    codes "profile " ++ (class_text class ++ (codes " " ++ (pattern ++ (codes " gives everyone " ++ level_text uacc))))
finding_text (found.NoDigest user) = user ++ codes " has no digest and no AUTO console, so cannot log on"
finding_text (found.SameDigest user other) = user ++ (codes " has the password of " ++ other)
finding_text (found.EmptyGroup group) = codes "nobody is in group " ++ group
finding_text (found.RevokedEntry class pattern user) =
    user ++ (codes " is revoked and has an entry in profile " ++ (class_text class ++ (codes " " ++ pattern)))
finding_text (found.OneSpecial user) = user ++ codes " alone has SPECIAL"
finding_text found.NoSpecial = codes "nobody has SPECIAL"
finding_text found.NoAuditor = codes "nobody has AUDITOR"
finding_text found.NoMaster = codes "no console has AUTH MASTER"
finding_text (found.OpenConsole console auth) =
    codes "console " ++ (console ++ (codes " is OPTIONAL: without a logon it allows " ++ opened auth))
finding_text (found.NoOwnUser console) =
    codes "console " ++ (console ++ (codes " is AUTO, and there is no user " ++ console))
finding_text (found.InactiveClass class) = codes "class " ++ (class_text class ++ codes " is inactive")
finding_text (found.NoProfile class) =
    codes "class " ++ (class_text class ++ (codes " is active and has no profile: " ++ without_profile class))
finding_text (found.OwnBelowGroup pattern user level group higher) =
    user ++ (codes "'s " ++ (level_text level ++ (codes " in " ++ (pattern ++ (codes " is below "
    ++ (level_text higher ++ (codes " of " ++ group)))))))
finding_text (found.ServesNobody pattern group level) =
    group ++ (codes "'s " ++ (level_text level ++ (codes " in " ++ (pattern ++ codes " serves nobody"))))
finding_text (found.NoResource pattern) =
    codes "profile OPERCMDS " ++ (pattern ++ codes " covers no resource of any command")
finding_text (found.SpecialConsole console) =
    codes "console " ++ (console ++ (codes " is AUTO, and " ++ (console ++ codes " has SPECIAL: no password is asked")))
finding_text (found.NoAccess user) = user ++ codes " is in no group and no access list"
finding_text (found.NeverDecides pattern) =
    codes "profile OPERCMDS " ++ (pattern ++ codes " never decides: others come before it")

-- a note as a line: its code, what names the row that it is about, and what was found; 10 is the line feed
abbrev pub note_text : (place : List ℕ) → Note → List ℕ
note_text place note = code_text (code_of note.finding) ++ (place ++ (finding_text note.finding ++ 10 ∷ []))

-- A note as a JSON object. Its row is null if the note is about none, and its line if that is not known. It has the
-- fields of its row if that is one of tables.
abbrev pub number_value : Option ℕ → Data
number_value None = null
number_value (Some n) = number (unsigned n)

abbrev pub note_value : (line : Option ℕ) → (fields : Option (List ℕ)) → Note → Data
note_value line None note =
    object (member (codes "code") (string (code_text (code_of note.finding)))
    (member (codes "line") (number_value line)
    (member (codes "row") (number_value note.row)
    (member (codes "text") (string (finding_text note.finding)) no_members))))
note_value line (Some fields) note =
    object (member (codes "code") (string (code_text (code_of note.finding)))
    (member (codes "fields") (string fields)
    (member (codes "line") (number_value line)
    (member (codes "row") (number_value note.row)
    (member (codes "text") (string (finding_text note.finding)) no_members)))))

-- on a line
abbrev pub note_json : (line : Option ℕ) → (fields : Option (List ℕ)) → Note → List ℕ
note_json line fields note = compact_text (note_value line fields note) ++ 10 ∷ []
