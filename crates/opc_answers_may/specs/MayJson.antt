-- The same as JSON: an object for each line, without spaces, its keys in the order of ASCII.
use Rattle.std.specs.Prelude.{
  ℕ,
  Bool,
  true,
  false,
  List,
  [],
  ◌∷◌,
  ◌++◌,
  Option,
  Some,
  None,
  ◌&&◌,
  codes,
  if◌then◌else◌,
  map,
  not,
}
use Rattle.std.specs.List.{flat_map}
use Rattle.serde_json.specs.Data.{Data, Members, array, boolean, member, no_members, object, put, string}
use Rattle.serde_json.specs.View.{items_of}
use Rattle.opc_names.specs.declared.auth.Auth.{Auth}
use Rattle.opc_names.specs.Spellings.{auth_text, level_text}
use Rattle.opc_policy_members.specs.declared.profile.Profile.{Profile}
use Rattle.opc_policy_members.specs.declared.user.User.{User}
use Rattle.opc_policy_sources.specs.declared.sources.HeldLevel.{HeldLevel}
use Rattle.opc_answers.specs.declared.logons.NoLogon.{NoLogon}
use Rattle.opc_answers.specs.declared.members.UserWithGroups.{UserWithGroups}
use Rattle.opc_answers.specs.Json.{held_words, json_line, place_words, rule_words, source_words, text_or_null}
use Rattle.opc_answers.specs.Texts.{no_logon_text}
use Rattle.opc_policy_deciders.specs.Forms.{forms}
use Rattle.opc_policy_deciders.specs.Kinds.{Example}
use Rattle.opc_answers_may.specs.declared.commands.CommandsHead.{CommandsHead}
use Rattle.opc_answers_may.specs.declared.commands.CommandsHead.TheVariants as head
use Rattle.opc_answers_may.specs.declared.commands.CommandsLine.{CommandsLine}
use Rattle.opc_answers_may.specs.declared.commands.CommandsSaid.{CommandsSaid}
use Rattle.opc_answers_may.specs.declared.commands.CommandsSaid.TheVariants.{Closed, Entered, Ruled}
use Rattle.opc_answers_may.specs.declared.commands.CommandsSection.{CommandsSection}
use Rattle.opc_answers_may.specs.declared.commands.FormsAsked.{FormsAsked}
use Rattle.opc_answers_may.specs.declared.commands.FormsAsked.TheVariants.{OfKind}
use Rattle.opc_answers_may.specs.declared.logons.LogonAt.{LogonAt}
use Rattle.opc_answers_may.specs.declared.logons.LogonBasis.{LogonBasis}
use Rattle.opc_answers_may.specs.declared.logons.LogonBasis.TheVariants.{Auto, ByProfile}
use Rattle.opc_answers_may.specs.declared.may.May.{May}
use Rattle.opc_answers_may.specs.Changes.{auditor_things, owned_by, owned_thing, special_things}
use Rattle.opc_answers_may.specs.Commands.{shown}
use Rattle.opc_answers_may.specs.Logons.{bases, groups_on, logons_of}
use Rattle.opc_answers_may.specs.MayTexts.{
  console_of,
  is_silent,
  logon_word,
  may_log_on,
  names_of,
  on_word,
  said_may,
  said_word,
}

abbrev pub texts : List (List ℕ) → Data
texts list = array (items_of (map string list))

-- the user
abbrev pub user_value : UserWithGroups → Data
user_value m =
    object (member (codes "auditor") (boolean m.user.auditor)
    (member (codes "groups") (texts m.groups)
    (member (codes "id") (string m.user.id)
    (member (codes "kind") (string (codes "user"))
    (member (codes "restricted") (boolean m.user.restricted)
    (member (codes "revoked") (boolean m.user.revoked)
    (member (codes "special") (boolean m.user.special) no_members)))))))

abbrev pub user_json : UserWithGroups → List ℕ
user_json m = json_line (user_value m)

-- the consoles under a head
abbrev pub pattern_on : LogonBasis → Option (List ℕ)
pattern_on (ByProfile pattern) = Some pattern
pattern_on other = None

abbrev pub held_on : LogonBasis → Option HeldLevel → Option HeldLevel
held_on Auto held = None
held_on other held = held

abbrev pub rule_on : LogonBasis → Option (List ℕ) → Option (List ℕ)
rule_on Auto rule = Some (codes "AUTO")
rule_on other rule = rule

abbrev pub logon_value : LogonAt → (consoles : List LogonAt) → Data
logon_value l consoles =
    object (member (codes "at") (text_or_null (place_words (held_on l.basis l.line.held)))
    (member (codes "consoles") (texts (map console_of consoles))
    (member (codes "held") (text_or_null (held_words (held_on l.basis l.line.held)))
    (member (codes "kind") (string (codes "logon"))
    (member (codes "pattern") (text_or_null (pattern_on l.basis))
    (member (codes "rule") (text_or_null (rule_on l.basis (rule_words l.line.ruling l.line.instead)))
    (member (codes "source") (text_or_null (source_words (held_on l.basis l.line.held)))
    (member (codes "verdict") (string (logon_word l)) no_members))))))))

abbrev pub group_json : (allowed : Bool) → List LogonAt → List ℕ
group_json allowed [] = []
group_json allowed (l ∷ more) =
    if allowed && not (may_log_on l) then [] else json_line (logon_value l (l ∷ more))

abbrev pub basis_json : (allowed : Bool) → List LogonAt → LogonBasis → List ℕ
basis_json allowed logons basis = flat_map (group_json allowed) (groups_on logons basis)

abbrev pub logons_json : (allowed : Bool) → May → List ℕ
logons_json allowed m = flat_map (basis_json allowed (logons_of m)) (bases m.room.policy)

-- the forms under a head, with a resource of each
abbrev pub pattern_of : CommandsHead → Option (List ℕ)
pattern_of (head.ByProfile pattern held) = Some pattern
pattern_of other = None

abbrev pub level_of : FormsAsked → Option (List ℕ)
level_of (OfKind kind) = Some (level_text kind.level)
level_of other = None

abbrev pub held_of : CommandsSaid → Option HeldLevel
held_of (Ruled line) = line.held
held_of other = None

abbrev pub auth_rule : Auth → List ℕ
auth_rule auth = codes "AUTH " ++ auth_text auth

abbrev pub rule_unless : Auth → Option NoLogon → List ℕ
rule_unless auth None = auth_rule auth
rule_unless auth (Some why) = no_logon_text why

abbrev pub rule_of : CommandsSaid → Option (List ℕ)
rule_of (Ruled line) = rule_words line.ruling line.instead
rule_of (Entered auth why) = Some (rule_unless auth why)
rule_of (Closed auth) = Some (auth_rule auth)

abbrev pub with_examples : Members → List Example → Members
with_examples members [] = members
with_examples members (e ∷ examples) = with_examples (put e.form.name (string e.resource) members) examples

abbrev pub examples_of : FormsAsked → List (Option (List ℕ)) → Data
examples_of asked found = object (with_examples no_members (shown asked forms found))

abbrev pub forms_value : CommandsHead → CommandsLine → List (Option (List ℕ)) → Data
forms_value h l found =
    object (member (codes "at") (text_or_null (place_words (held_of l.said)))
    (member (codes "commands") (texts (names_of l.asked found))
    (member (codes "examples") (examples_of l.asked found)
    (member (codes "held") (text_or_null (held_words (held_of l.said)))
    (member (codes "kind") (string (codes "commands"))
    (member (codes "level") (text_or_null (level_of l.asked))
    (member (codes "pattern") (text_or_null (pattern_of h))
    (member (codes "rule") (text_or_null (rule_of l.said))
    (member (codes "source") (text_or_null (source_words (held_of l.said)))
    (member (codes "verdict") (string (said_word l.said)) no_members))))))))))

abbrev pub json_if : List (List ℕ) → Data → List ℕ
json_if [] value = []
json_if (name ∷ names) value = json_line value

abbrev pub forms_json : (allowed : Bool) → List (Option (List ℕ)) → CommandsHead → CommandsLine → List ℕ
forms_json allowed found h l = if allowed && not (said_may l.said) then [] else
    json_if (names_of l.asked found) (forms_value h l found)

abbrev pub section_json : (allowed : Bool) → List (Option (List ℕ)) → CommandsSection → List ℕ
section_json allowed found section = flat_map (forms_json allowed found section.head) section.lines

abbrev pub sections_json : (allowed : Bool) → List (Option (List ℕ)) → List CommandsSection → List ℕ
sections_json allowed found sections = flat_map (section_json allowed found) sections

-- what the user may change
abbrev pub change_value : (by verdict : List ℕ) → (what : Data) → Data
change_value by verdict what =
    object (member (codes "by") (string by)
    (member (codes "kind") (string (codes "admin"))
    (member (codes "verdict") (string verdict)
    (member (codes "what") what no_members))))

abbrev pub change_json : (by verdict : List ℕ) → (things : List (List ℕ)) → List ℕ
change_json by verdict things = json_line (change_value by verdict (texts things))

abbrev pub change_if : Bool → (by verdict : List ℕ) → (things : List (List ℕ)) → List ℕ
change_if false by verdict things = []
change_if true by verdict things = change_json by verdict things

abbrev pub owned_json : (verdict : List ℕ) → Profile → List ℕ
owned_json verdict p = change_json (codes "OWNER") verdict (owned_thing p ∷ [])

abbrev pub changes_by : (verdict : List ℕ) → User → List Profile → List ℕ
changes_by verdict u profiles = change_if u.special (codes "SPECIAL") verdict special_things
    ++ (change_if u.auditor (codes "AUDITOR") verdict auditor_things
    ++ flat_map (owned_json verdict) (owned_by u profiles))

abbrev pub changes_json : (allowed : Bool) → May → List ℕ
changes_json allowed m = if is_silent allowed m then [] else
    changes_by (on_word m.no_logon) m.member.user m.room.policy.profiles
