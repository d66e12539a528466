-- The rows of two exports as lines. Digests are not shown.
use Rattle.std.specs.Prelude.{ℕ, List, [], ◌∷◌, ◌++◌, Option, Some, None, codes, if◌then◌else◌}
use Rattle.std.specs.Str.{bytes_eq}
use Rattle.serde_json.specs.Data.{Data, member, no_members, object, string}
use Rattle.opc_names.specs.Spellings.{auth_text, class_text, level_text}
use Rattle.opc_terms.specs.Modes.{mode_text}
use Rattle.opc_policy_members.specs.declared.row.Row.{Row}
use Rattle.opc_policy_members.specs.declared.row.Row.TheVariants as rows
use Rattle.opc_policy_members.specs.declared.user.User.{User}
use Rattle.opc_import.specs.Lines.{written_field}
use Rattle.opc_import.specs.Rows.{activity_text, letter, when_text}
use Rattle.opc_answers.specs.Json.{json_line}
use Rattle.opc_answers_diff.specs.declared.row_changes.RowChange.{RowChange}

-- the flags of a user: SPECIAL, AUDITOR, revoked; and RESTRICTED
abbrev pub user_text : (digest : List ℕ) → User → List ℕ
user_text digest user = codes "user,," ++ (user.id ++ (codes ",,,," ++ (letter (codes "S") user.special
    ++ (letter (codes "A") user.auditor ++ (letter (codes "R") user.revoked ++ (codes "," ++ (digest
    ++ (codes ",," ++ letter (codes "Y") user.restricted))))))))

-- a row as a policy file has it, but for the digest
abbrev pub row_text : (digest : List ℕ) → Row → List ℕ
row_text digest (rows.Class class active) =
    codes "class," ++ (class_text class ++ (codes ",,," ++ (activity_text active ++ codes ",,,,,")))
row_text digest (rows.Group name) = codes "group,," ++ (name ++ codes ",,,,,,,")
row_text digest (rows.User user) = user_text digest user
row_text digest (rows.Connect user group) = codes "connect,," ++ (user ++ (codes "," ++ (group ++ codes ",,,,,,")))
row_text digest (rows.Console name auth mode) = codes "console,," ++ (name ++ (codes ",,"
    ++ (written_field (auth_text auth) ++ (codes ",," ++ (mode_text mode ++ codes ",,,")))))
row_text digest (rows.Profile class pattern uacc owner warning) = codes "profile," ++ (class_text class ++ (codes ","
    ++ (pattern ++ (codes ",," ++ (level_text uacc ++ (codes "," ++ (owner ++ (codes ","
    ++ (letter (codes "W") warning ++ codes ",,,")))))))))
row_text digest (rows.Permit class pattern id level when) = codes "permit," ++ (class_text class ++ (codes ","
    ++ (pattern ++ (codes "," ++ (id ++ (codes "," ++ (level_text level ++ (codes ",,,,"
    ++ (when_text when ++ codes ",")))))))))

-- the digest of a user
abbrev pub digest_in : Option Row → Option (List ℕ)
digest_in (Some (rows.User user)) = user.digest
digest_in row = None

-- whether there is one, and another than before
abbrev pub digest_words : (digest before : Option (List ℕ)) → List ℕ
digest_words None before = []
digest_words (Some digest) None = codes "(digest)"
digest_words (Some digest) (Some other) =
    if bytes_eq digest other then codes "(digest)" else codes "(another digest)"

-- a line of one side, behind its mark; 10 is the line feed
abbrev pub row_line : (mark digest : List ℕ) → Option Row → List ℕ
row_line mark digest None = []
row_line mark digest (Some row) = mark ++ (codes " " ++ (row_text digest row ++ 10 ∷ []))

abbrev pub words_before : RowChange → List ℕ
words_before change = digest_words (digest_in change.before) None

abbrev pub words_after : RowChange → List ℕ
words_after change = digest_words (digest_in change.after) (digest_in change.before)

abbrev pub change_text : RowChange → List ℕ
change_text change = row_line (codes "-") (words_before change) change.before
    ++ row_line (codes "+") (words_after change) change.after

-- as JSON: an object for each line
abbrev pub row_value : (mark row : List ℕ) → Data
row_value mark row = object (member (codes "change") (string mark)
    (member (codes "kind") (string (codes "row"))
    (member (codes "row") (string row) no_members)))

abbrev pub row_json : (mark digest : List ℕ) → Option Row → List ℕ
row_json mark digest None = []
row_json mark digest (Some row) = json_line (row_value mark (row_text digest row))

abbrev pub change_json : RowChange → List ℕ
change_json change = row_json (codes "-") (words_before change) change.before
    ++ row_json (codes "+") (words_after change) change.after
