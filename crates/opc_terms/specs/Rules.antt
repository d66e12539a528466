-- The texts of rules.
use Rattle.std.specs.Prelude.{ℕ, List, [], ◌++◌, Option, Some, None, if◌then◌else◌, codes}
use Rattle.opc_names.specs.Spellings.{auth_text, class_text, group_text, level_text}
use Rattle.opc_terms.specs.declared.rule.Rule.{Rule}
use Rattle.opc_terms.specs.declared.rule.Rule.TheVariants.{Profile, NoProfile, ConsoleGroup, LogonRequired, Revoked}

abbrev pub rule_text : Rule → List ℕ
rule_text (Profile class pattern held needed warned) =
    codes "PROFILE " ++ class_text class ++ codes " " ++ pattern ++ codes " HELD " ++ level_text held
    ++ codes " NEEDED " ++ level_text needed
    ++ (if warned then codes " WARNED" else [])
rule_text NoProfile = codes "NOPROFILE"
rule_text (ConsoleGroup group auth) = codes "GROUP " ++ group_text group ++ codes " AUTH " ++ auth_text auth
rule_text LogonRequired = codes "LOGONREQUIRED"
rule_text Revoked = codes "REVOKED"

-- `-` stands for no rule
abbrev pub rule_text_or_none : Option Rule → List ℕ
rule_text_or_none None = codes "-"
rule_text_or_none (Some rule) = rule_text rule
