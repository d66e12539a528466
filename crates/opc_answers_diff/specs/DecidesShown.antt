-- What decides on both sides, as lines.
use Rattle.std.specs.Prelude.{ℕ, List, ◌++◌, Option, Some, None, codes, if◌then◌else◌}
use Rattle.std.specs.Str.{bytes_eq}
use Rattle.serde_json.specs.Data.{Data, boolean, member, no_members, null, object, string}
use Rattle.opc_names.specs.declared.class.Class.{Class}
use Rattle.opc_names.specs.Spellings.{class_text, level_text}
use Rattle.opc_policy_members.specs.declared.policy.Policy.{Policy}
use Rattle.opc_policy_members.specs.declared.profile.Profile.{Profile}
use Rattle.opc_policy_members.specs.Taken.{is_active}
use Rattle.opc_answers.specs.Texts.{decides_text}

-- One line, if both sides say the same, and else one for each side.
abbrev pub both_sides : (before after : List ℕ) → List ℕ
both_sides before after =
    if bytes_eq before after then codes "  " ++ before else codes "- " ++ (before ++ (codes "+ " ++ after))

abbrev pub decides_lines : Class → (before after : Policy) → (one other : Option Profile) → List ℕ
decides_lines class before after one other = both_sides (decides_text (is_active before.active class) class one)
    (decides_text (is_active after.active class) class other)

-- as JSON
abbrev pub profile_value : Option Profile → Data
profile_value None = null
profile_value (Some p) =
    object (member (codes "class") (string (class_text p.class))
    (member (codes "pattern") (string p.pattern)
    (member (codes "uacc") (string (level_text p.uacc))
    (member (codes "warning") (boolean p.warning) no_members))))
