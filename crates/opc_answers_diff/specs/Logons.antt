-- Of whom something else is said who logs on, console by console.
use Rattle.std.specs.Prelude.{ℕ, List, [], ◌∷◌, ◌++◌, Option, Some, codes}
use Rattle.std.specs.List.{flat_map}
use Rattle.serde_json.specs.Data.{Data, array, member, no_members, object, string}
use Rattle.serde_json.specs.View.{items_of}
use Rattle.opc_names.specs.declared.class.Class.TheVariants.{Console}
use Rattle.opc_policy_members.specs.declared.policy.Policy.{Policy}
use Rattle.opc_policy_members.specs.declared.profile.Profile.{Profile}
use Rattle.opc_answers.specs.Deciding.{decider}
use Rattle.opc_answers.specs.Json.{json_line}
use Rattle.opc_answers.specs.Texts.{logon_needs}
use Rattle.opc_answers_diff.specs.declared.asked.Asked.TheVariants.{Logon}
use Rattle.opc_answers_diff.specs.declared.members.MemberChange.{MemberChange}
use Rattle.opc_answers_diff.specs.declared.verdicts.UserChange.{UserChange}
use Rattle.opc_answers_diff.specs.DecidesShown.{decides_lines, profile_value}
use Rattle.opc_answers_diff.specs.UsersShown as shown
use Rattle.opc_answers_diff.specs.Verdicts.{changes_at}

-- by the profiles that decide there
abbrev pub logon_changes : (before after : Policy) → List MemberChange → (console : List ℕ) → List UserChange
logon_changes before after members console =
    changes_at Logon (decider before Console console) (decider after Console console) members (Some console)

-- A section without lines is left out.
abbrev pub below : (title : List ℕ) → (line : UserChange → List ℕ) → List UserChange → List ℕ
below title line [] = []
below title line (change ∷ changes) = title ++ flat_map line (change ∷ changes)

abbrev pub logon_title : (before after : Policy) → (console : List ℕ) → List ℕ
logon_title before after console = codes "  " ++ (logon_needs console
    ++ decides_lines Console before after (decider before Console console) (decider after Console console))

abbrev pub logon_text : (before after : Policy) → List MemberChange → (console : List ℕ) → List ℕ
logon_text before after members console =
    below (logon_title before after console) shown.change_text (logon_changes before after members console)

-- as JSON
abbrev pub logon_value : (before after : Option Profile) → (console : List ℕ) → Data
logon_value before after console =
    object (member (codes "after") (profile_value after)
    (member (codes "before") (profile_value before)
    (member (codes "class") (string (codes "CONSOLE"))
    (member (codes "commands") (array (items_of (string (codes "LOGON") ∷ [])))
    (member (codes "examples") (object (member (codes "LOGON") (string console) no_members))
    (member (codes "kind") (string (codes "question"))
    (member (codes "level") (string (codes "READ")) no_members)))))))

abbrev pub logon_json : (before after : Policy) → List MemberChange → (console : List ℕ) → List ℕ
logon_json before after members console =
    below (json_line (logon_value (decider before Console console) (decider after Console console) console))
    shown.change_json (logon_changes before after members console)
