-- The text of what one user may: heads, which say what decides, and under each the lines with a verdict.
use Rattle.std.specs.Prelude.{
  ℕ,
  Bool,
  true,
  false,
  List,
  [],
  ◌∷◌,
  ◌++◌,
  Option,
  Some,
  None,
  ◌&&◌,
  ◌||◌,
  codes,
  if◌then◌else◌,
  map,
  not,
}
use Rattle.std.specs.List.{flat_map}
use Rattle.std.specs.Option.{is_none}
use Rattle.opc_names.specs.declared.class.Class.{Class}
use Rattle.opc_names.specs.declared.class.Class.TheVariants.{Console, Opercmds}
use Rattle.opc_names.specs.Spellings.{auth_text, class_text, level_text}
use Rattle.opc_policy_members.specs.declared.profile.Profile.{Profile}
use Rattle.opc_policy_members.specs.declared.user.User.{User}
use Rattle.opc_policy_sources.specs.declared.sources.HeldLevel.{HeldLevel}
use Rattle.opc_policy_sources.specs.SourceTexts.{held_source_text}
use Rattle.opc_board.specs.Texts.{columns, left}
use Rattle.opc_answers.specs.declared.logons.NoLogon.{NoLogon}
use Rattle.opc_answers.specs.Texts.{may, verdict_word}
use Rattle.opc_policy_deciders.specs.Forms.{forms}
use Rattle.opc_policy_deciders.specs.Kinds.{Example}
use Rattle.opc_answers_may.specs.declared.commands.CommandsHead.{CommandsHead}
use Rattle.opc_answers_may.specs.declared.commands.CommandsHead.TheVariants as head
use Rattle.opc_answers_may.specs.declared.commands.CommandsLine.{CommandsLine}
use Rattle.opc_answers_may.specs.declared.commands.CommandsSaid.{CommandsSaid}
use Rattle.opc_answers_may.specs.declared.commands.CommandsSaid.TheVariants.{Closed, Entered, Ruled}
use Rattle.opc_answers_may.specs.declared.commands.CommandsSection.{CommandsSection}
use Rattle.opc_answers_may.specs.declared.commands.FormsAsked.{FormsAsked}
use Rattle.opc_answers_may.specs.declared.logons.LogonAt.{LogonAt}
use Rattle.opc_answers_may.specs.declared.logons.LogonBasis.{LogonBasis}
use Rattle.opc_answers_may.specs.declared.logons.LogonBasis.TheVariants.{Auto, ByProfile, NoDigest, NoProfile}
use Rattle.opc_answers_may.specs.declared.may.May.{May}
use Rattle.opc_answers_may.specs.Changes.{auditor_things, owned_by, owned_thing, special_things}
use Rattle.opc_answers_may.specs.Commands.{shown}
use Rattle.opc_answers_may.specs.Logons.{bases, groups_on, logons_of}

-- names with commas (44) between them
abbrev pub with_name : List ℕ → List ℕ → List ℕ
with_name [] name = name
with_name (c ∷ text) name = (c ∷ text) ++ 44 ∷ name

abbrev pub with_names : List ℕ → List (List ℕ) → List ℕ
with_names text [] = text
with_names text (name ∷ names) = with_names (with_name text name) names

abbrev pub listed : List (List ℕ) → List ℕ
listed names = with_names [] names

-- what stands behind a verdict in its column; 10 is the line feed
abbrev pub line_of : (column things : List ℕ) → List ℕ
line_of column things = column ++ 32 ∷ (things ++ 10 ∷ [])

-- a line without things is left out, and a head without lines
abbrev pub line_if : (column things : List ℕ) → List ℕ
line_if column [] = []
line_if column (c ∷ things) = line_of column (c ∷ things)

abbrev pub under : (head lines : List ℕ) → List ℕ
under head [] = []
under head (c ∷ lines) = head ++ (c ∷ lines)

-- the user
abbrev pub flag_text : Bool → List ℕ → List ℕ
flag_text true word = word
flag_text false word = []

abbrev pub user_text : User → List ℕ
user_text u = codes "USER " ++ (u.id ++ (flag_text u.special (codes " SPECIAL")
    ++ (flag_text u.auditor (codes " AUDITOR") ++ (flag_text u.restricted (codes " RESTRICTED")
    ++ (flag_text u.revoked (codes " REVOKED") ++ 10 ∷ [])))))

-- a profile that decides, with the level held in it and its source
abbrev pub profile_head : Class → (pattern : List ℕ) → HeldLevel → List ℕ
profile_head class pattern held = columns (codes "PROFILE" ∷ class_text class ∷ pattern ∷ codes "HELD"
    ∷ level_text held.level ∷ codes "BY" ∷ (held_source_text held ++ 10 ∷ []) ∷ [])

-- The consoles under a head. No logon is needed where the console acts for the user.
abbrev pub word_on : LogonBasis → (word : List ℕ) → List ℕ
word_on Auto word = codes "ALLOWED"
word_on basis word = word

abbrev pub logon_word : LogonAt → List ℕ
logon_word l = word_on l.basis (verdict_word l.line.ruling l.line.instead)

abbrev pub may_on : LogonBasis → Bool → Bool
may_on Auto allowed = true
may_on basis allowed = allowed

abbrev pub may_log_on : LogonAt → Bool
may_log_on l = may_on l.basis (may l.line)

abbrev pub held_head : (pattern : List ℕ) → Option HeldLevel → List ℕ
held_head pattern None = []
held_head pattern (Some held) = profile_head Console pattern held

abbrev pub head_on : LogonBasis → Option HeldLevel → List ℕ
head_on (ByProfile pattern) held = held_head pattern held
head_on NoProfile held = codes "NOPROFILE CONSOLE\n"
head_on NoDigest held = codes "NODIGEST\n"
head_on Auto held = codes "AUTO\n"

abbrev pub logon_head : LogonAt → List ℕ
logon_head l = head_on l.basis l.line.held

abbrev pub console_of : LogonAt → List ℕ
console_of l = l.console

-- at most seven consoles are in a line
abbrev pub sevens : List LogonAt → List (List LogonAt)
sevens [] = []
sevens (a ∷ b ∷ c ∷ d ∷ e ∷ f ∷ g ∷ more) = (a ∷ b ∷ c ∷ d ∷ e ∷ f ∷ g ∷ []) ∷ sevens more
sevens few = few ∷ []

abbrev pub logon_row : (column : List ℕ) → List LogonAt → List ℕ
logon_row column row = line_of column (codes "LOGON " ++ listed (map console_of row))

-- If only what the user may is requested, the other lines are left out.
abbrev pub group_text : (allowed : Bool) → List LogonAt → List ℕ
group_text allowed [] = []
group_text allowed (l ∷ more) = if allowed && not (may_log_on l) then [] else
    logon_head l ++ flat_map (logon_row (left 7 (logon_word l))) (sevens (l ∷ more))

abbrev pub basis_text : (allowed : Bool) → List LogonAt → LogonBasis → List ℕ
basis_text allowed logons basis = flat_map (group_text allowed) (groups_on logons basis)

abbrev pub logons_text : (allowed : Bool) → May → List ℕ
logons_text allowed m = flat_map (basis_text allowed (logons_of m)) (bases m.room.policy)

-- the forms under a head
abbrev pub head_text : CommandsHead → List ℕ
head_text (head.ByProfile pattern held) = profile_head Opercmds pattern held
head_text head.ByNone = codes "NOPROFILE OPERCMDS\n"
head_text (head.ByAuthority auth) = codes "NOPROFILE OPERCMDS AUTH " ++ (auth_text auth ++ 10 ∷ [])

abbrev pub on_word : Option NoLogon → List ℕ
on_word None = codes "ALLOWED"
on_word (Some why) = codes "NOLOGON"

abbrev pub said_word : CommandsSaid → List ℕ
said_word (Ruled line) = verdict_word line.ruling line.instead
said_word (Entered auth why) = on_word why
said_word (Closed auth) = codes "DENIED"

abbrev pub said_may : CommandsSaid → Bool
said_may (Ruled line) = may line
said_may (Entered auth why) = is_none why
said_may (Closed auth) = false

abbrev pub name_of : Example → List ℕ
name_of e = e.form.name

abbrev pub names_of : FormsAsked → List (Option (List ℕ)) → List (List ℕ)
names_of asked found = map name_of (shown asked forms found)

abbrev pub forms_line : (allowed : Bool) → List (Option (List ℕ)) → CommandsLine → List ℕ
forms_line allowed found l = if allowed && not (said_may l.said) then [] else
    line_if (left 7 (said_word l.said)) (listed (names_of l.asked found))

abbrev pub section_text : (allowed : Bool) → List (Option (List ℕ)) → CommandsSection → List ℕ
section_text allowed found section = under (head_text section.head) (flat_map (forms_line allowed found) section.lines)

abbrev pub sections_text : (allowed : Bool) → List (Option (List ℕ)) → List CommandsSection → List ℕ
sections_text allowed found sections = flat_map (section_text allowed found) sections

-- what the user may change
abbrev pub things_if : Bool → (head column : List ℕ) → (things : List (List ℕ)) → List ℕ
things_if false head column things = []
things_if true head column things = head ++ line_of column (listed things)

abbrev pub owned_line : (column : List ℕ) → Profile → List ℕ
owned_line column p = line_of column (owned_thing p)

abbrev pub changes_by : (column : List ℕ) → User → List Profile → List ℕ
changes_by column u profiles = things_if u.special (codes "SPECIAL\n") column special_things
    ++ (things_if u.auditor (codes "AUDITOR\n") column auditor_things
    ++ under (codes "OWNER\n") (flat_map (owned_line column) (owned_by u profiles)))

-- a revoked user may change nothing
abbrev pub is_silent : (allowed : Bool) → May → Bool
is_silent allowed m = m.member.user.revoked || (allowed && not (is_none m.no_logon))

abbrev pub changes_text : (allowed : Bool) → May → List ℕ
changes_text allowed m = if is_silent allowed m then [] else
    changes_by (left 7 (on_word m.no_logon)) m.member.user m.room.policy.profiles
