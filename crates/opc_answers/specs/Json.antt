-- Answers as JSON: an object a line, without spaces, its keys in the order of ASCII.
use Rattle.std.specs.Prelude.{
  ℕ,
  Bool,
  false,
  List,
  [],
  ◌∷◌,
  ◌++◌,
  Option,
  Some,
  None,
  ◌&&◌,
  codes,
  if◌then◌else◌,
  not,
  option_and_then,
  option_map,
}
use Rattle.std.specs.List.{flat_map}
use Rattle.std.specs.Option.{option_map_or}
use Rattle.serde_json.specs.Data.{Data, boolean, member, no_members, null, object, string}
use Rattle.serde_json.specs.Written.{compact_text}
use Rattle.opc_names.specs.Spellings.{class_text, group_text, level_text}
use Rattle.opc_terms.specs.Rules.{rule_text}
use Rattle.opc_policy_members.specs.declared.profile.Profile.{Profile}
use Rattle.opc_policy.specs.declared.ruling.Ruling.{Ruling}
use Rattle.opc_policy.specs.Rulings.{rule_of}
use Rattle.opc_policy_sources.specs.declared.sources.HeldLevel.{HeldLevel}
use Rattle.opc_policy_sources.specs.SourceTexts.{source_text}
use Rattle.opc_answers.specs.declared.consoles.ConsoleLine.{ConsoleLine}
use Rattle.opc_answers.specs.declared.lines.UserLine.{UserLine}
use Rattle.opc_answers.specs.declared.logons.Instead.{Instead}
use Rattle.opc_answers.specs.declared.logons.Instead.TheVariants as instead
use Rattle.opc_answers.specs.declared.shows.Shows.{Shows}
use Rattle.opc_answers.specs.declared.wanted.Wanted.{Wanted}
use Rattle.opc_answers.specs.declared.wanted.Wanted.TheVariants.{Command, Logon, Access}
use Rattle.opc_answers.specs.declared.who.Who.{Who}
use Rattle.opc_answers.specs.Who.{class_of, consoles_of, level_of, line_wanted, raised_of, resource_of, users_of}
use Rattle.opc_answers.specs.Texts.{console_word, kind_words, may, may_with_nobody_on, no_logon_text, verdict_word}

-- 10 is the line feed
abbrev pub json_line : Data → List ℕ
json_line value = compact_text value ++ 10 ∷ []

abbrev pub text_or_null : Option (List ℕ) → Data
text_or_null None = null
text_or_null (Some text) = string text

-- the group of the command of the question
abbrev pub group_of : Wanted → Option (List ℕ)
group_of (Command entered) = Some (group_text entered.need.group)
group_of (Logon name) = None
group_of (Access class resource level) = None

-- the kind for which the unit of the command was taken
abbrev pub taken_words : Wanted → Option (List ℕ)
taken_words (Command entered) = option_map kind_words entered.unit
taken_words (Logon name) = None
taken_words (Access class resource level) = None

-- what is asked about, and the profile that decides
abbrev pub asked_value : (kind : List ℕ) → (active : Bool) → Wanted → Option Profile → Data
asked_value kind active w decided =
    object (member (codes "active") (boolean active)
    (member (codes "as") (text_or_null (taken_words w))
    (member (codes "class") (string (class_text (class_of w)))
    (member (codes "group") (text_or_null (group_of w))
    (member (codes "kind") (string kind)
    (member (codes "level") (string (level_text (level_of w)))
    (member (codes "pattern") (text_or_null (option_map (λ (p : Profile). p.pattern) decided))
    (member (codes "resource") (string (resource_of w))
    (member (codes "uacc") (text_or_null (option_map (λ (p : Profile). level_text p.uacc) decided))
    (member (codes "warning") (boolean (option_map_or (λ (p : Profile). p.warning) decided false))
    no_members))))))))))

abbrev pub question_value : Who → Data
question_value who = asked_value (codes "question") who.active who.wanted who.decided

-- the line that a command asks for, as a question of its own
abbrev pub shows_json : (active : Bool) → Option Shows → List ℕ
shows_json active None = []
shows_json active (Some shows) =
    json_line (asked_value (codes "shows") active (line_wanted shows.need) shows.decided)

abbrev pub beginning_json : Who → List ℕ
beginning_json who = json_line (question_value who) ++ shows_json who.active who.shows

-- the level held, its source, and the console if the entry is for it alone
abbrev pub held_words : Option HeldLevel → Option (List ℕ)
held_words held = option_map (λ (h : HeldLevel). level_text h.level) held

abbrev pub source_words : Option HeldLevel → Option (List ℕ)
source_words held = option_map (λ (h : HeldLevel). source_text h.source) held

abbrev pub place_words : Option HeldLevel → Option (List ℕ)
place_words held = option_and_then (λ (h : HeldLevel). h.when) held

-- the rule that decided, or what is said in its place
abbrev pub ruling_words : Option Ruling → Option (List ℕ)
ruling_words ruling = option_map (λ (r : Ruling). rule_text (rule_of r)) ruling

abbrev pub rule_words : Option Ruling → Option Instead → Option (List ℕ)
rule_words ruling None = ruling_words ruling
rule_words ruling (Some instead.Hidden) = ruling_words ruling
rule_words ruling (Some (instead.NoLogon why)) = Some (no_logon_text why)
rule_words ruling (Some instead.NoDigest) = Some (codes "NODIGEST")

abbrev pub user_value : UserLine → Data
user_value line =
    object (member (codes "at") (text_or_null (place_words line.held))
    (member (codes "held") (text_or_null (held_words line.held))
    (member (codes "id") (string line.id)
    (member (codes "kind") (string (codes "user"))
    (member (codes "rule") (text_or_null (rule_words line.ruling line.instead))
    (member (codes "source") (text_or_null (source_words line.held))
    (member (codes "verdict") (string (verdict_word line.ruling line.instead)) no_members)))))))

abbrev pub console_value : ConsoleLine → Data
console_value line =
    object (member (codes "auto") (boolean line.own)
    (member (codes "id") (string line.name)
    (member (codes "kind") (string (codes "console"))
    (member (codes "rule") (string (rule_text (rule_of line.ruling)))
    (member (codes "verdict") (string (console_word line)) no_members)))))

-- if only those who may are requested, the other lines are left out
abbrev pub user_json : Bool → UserLine → List ℕ
user_json allowed line = if allowed && not (may line) then [] else json_line (user_value line)

abbrev pub console_json : Bool → ConsoleLine → List ℕ
console_json allowed line = if allowed && not (may_with_nobody_on line) then [] else json_line (console_value line)

abbrev pub consoles_json : Bool → Option (List ConsoleLine) → List ℕ
consoles_json allowed None = []
consoles_json allowed (Some lines) = flat_map (console_json allowed) lines

abbrev pub who_json : Bool → Who → List ℕ
who_json allowed who = beginning_json who ++ flat_map (user_json allowed) (users_of who)
    ++ flat_map (user_json allowed) (raised_of who) ++ consoles_json allowed (consoles_of who)
