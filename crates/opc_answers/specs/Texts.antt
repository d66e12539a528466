-- The text of an answer: what is needed, what decides, a line for each user and each console, and how many may.
use Rattle.std.specs.Prelude.{
  ℕ,
  Bool,
  true,
  false,
  not,
  ◌&&◌,
  ◌==◌,
  List,
  [],
  ◌∷◌,
  ◌++◌,
  Option,
  Some,
  None,
  codes,
  count_by,
  if◌then◌else◌,
  length,
  option_map,
}
use Rattle.std.specs.Fmt.{decimal}
use Rattle.std.specs.List.{flat_map}
use Rattle.std.specs.Option.{is_none}
use Rattle.opc_names.specs.declared.class.Class.{Class}
use Rattle.opc_names.specs.declared.class.Class.TheVariants.{Opercmds}
use Rattle.opc_names.specs.Spellings.{class_text, group_text, level_text}
use Rattle.opc_terms.specs.declared.need.Need.{Need}
use Rattle.opc_terms.specs.declared.unit_kind.UnitKindAt.{UnitKindAt}
use Rattle.opc_terms.specs.declared.unit_kind.UnitKindAt.TheVariants.{Absent, Job, Stc, Tsu}
use Rattle.opc_terms.specs.Rules.{rule_text}
use Rattle.opc_policy_members.specs.declared.profile.Profile.{Profile}
use Rattle.opc_policy.specs.declared.ruling.Ruling.{Ruling}
use Rattle.opc_policy.specs.declared.ruling.Ruling.TheVariants.{Allowed, Denied}
use Rattle.opc_policy.specs.Rulings.{rule_of}
use Rattle.opc_policy_sources.specs.declared.sources.HeldLevel.{HeldLevel}
use Rattle.opc_policy_sources.specs.SourceTexts.{held_source_text}
use Rattle.opc_board.specs.Texts.{columns, left}
use Rattle.opc_machine.specs.Machine.{is_warned}
use Rattle.opc_machine.specs.Rulings.{is_allowed}
use Rattle.opc_answers.specs.declared.consoles.ConsoleLine.{ConsoleLine}
use Rattle.opc_answers.specs.declared.lines.UserLine.{UserLine}
use Rattle.opc_answers.specs.declared.logons.Instead.{Instead}
use Rattle.opc_answers.specs.declared.logons.Instead.TheVariants as instead
use Rattle.opc_answers.specs.declared.logons.NoLogon.{NoLogon}
use Rattle.opc_answers.specs.declared.logons.NoLogon.TheVariants as no_logon
use Rattle.opc_answers.specs.declared.shows.Shows.{Shows}
use Rattle.opc_answers.specs.declared.wanted.Entered.{Entered}
use Rattle.opc_answers.specs.declared.wanted.Wanted.{Wanted}
use Rattle.opc_answers.specs.declared.wanted.Wanted.TheVariants.{Command, Logon, Access}
use Rattle.opc_answers.specs.declared.who.Who.{Who}
use Rattle.opc_answers.specs.Who.{class_of, consoles_of, raised_of, users_of}
use Rattle.opc_answers.specs.declared.counts.ConsoleCounts.{ConsoleCounts}
use Rattle.opc_answers.specs.declared.counts.ConsoleCounts.TheVariants.{OfCommands, Unsaid, WithNobodyOn}
use Rattle.opc_answers.specs.declared.counts.Counts.{Counts}
use Rattle.opc_answers.specs.declared.counts.Share.{Share}

-- the word for a ruling; what only a warning lets pass has a word of its own
abbrev pub ruling_word : Ruling → List ℕ
ruling_word (Allowed rule) = if is_warned (Some rule) then codes "WARNED" else codes "ALLOWED"
ruling_word (Denied rule) = codes "DENIED"

abbrev pub decided_word : Option Ruling → List ℕ
decided_word None = codes "UNDECIDED"
decided_word (Some ruling) = ruling_word ruling

-- what replaces a ruling
abbrev pub instead_word : Instead → List ℕ
instead_word (instead.NoLogon why) = codes "NOLOGON"
instead_word instead.NoDigest = codes "DENIED"
instead_word instead.Hidden = codes "HIDDEN"

abbrev pub verdict_word : Option Ruling → Option Instead → List ℕ
verdict_word ruling None = decided_word ruling
verdict_word ruling (Some said) = instead_word said

abbrev pub no_logon_text : NoLogon → List ℕ
no_logon_text (no_logon.Denied rule) = rule_text rule
no_logon_text no_logon.NoDigest = codes "NODIGEST"
no_logon_text no_logon.NoConsole = codes "NOCONSOLE"

-- why it is said, if it is not for the rule that decided
abbrev pub instead_text : Instead → (rule : List ℕ) → List ℕ
instead_text (instead.NoLogon why) rule = no_logon_text why
instead_text instead.NoDigest rule = codes "NODIGEST"
instead_text instead.Hidden rule = rule

-- the level held, if the profile was consulted
abbrev pub level_word : Option HeldLevel → List ℕ
level_word None = codes "-"
level_word (Some held) = level_text held.level

-- the source of the level, or the rule that decided, or that no digest is stored
abbrev pub ground_of : Option Ruling → List ℕ
ground_of None = codes "NOPROFILE"
ground_of (Some ruling) = rule_text (rule_of ruling)

abbrev pub ground_without_level : Option Ruling → Option Instead → List ℕ
ground_without_level ruling (Some instead.NoDigest) = codes "NODIGEST"
ground_without_level ruling other = ground_of ruling

abbrev pub ground_text : Option HeldLevel → Option Ruling → Option Instead → List ℕ
ground_text None ruling instead = ground_without_level ruling instead
ground_text (Some held) ruling instead = held_source_text held

-- 10 is the line feed
abbrev pub user_text : UserLine → List ℕ
user_text line = columns (left 7 (verdict_word line.ruling line.instead) ∷ left 8 line.id ∷ left 7 (level_word line.held)
    ∷ (ground_text line.held line.ruling line.instead ++ 10 ∷ []) ∷ [])

-- for whom a console acts while unattended
abbrev pub actor_word : Bool → List ℕ
actor_word true = codes "AUTO"
actor_word false = codes "NOBODY"

abbrev pub console_word : ConsoleLine → List ℕ
console_word line = if line.hidden then codes "HIDDEN" else ruling_word line.ruling

-- a console's name has a `*` (42) before it, with which no user's begins
abbrev pub console_text : ConsoleLine → List ℕ
console_text line = columns (left 7 (console_word line) ∷ (42 ∷ left 7 line.name)
    ∷ left 7 (actor_word line.own) ∷ (rule_text (rule_of line.ruling) ++ 10 ∷ []) ∷ [])

-- if only those who may are requested, the other lines are left out
abbrev pub allows : Option Ruling → Bool
allows None = false
allows (Some ruling) = is_allowed ruling

abbrev pub may : UserLine → Bool
may line = is_none line.instead && allows line.ruling

abbrev pub may_with_nobody_on : ConsoleLine → Bool
may_with_nobody_on line = is_allowed line.ruling

abbrev pub shown_user : Bool → UserLine → List ℕ
shown_user allowed line = if allowed && not (may line) then [] else user_text line

abbrev pub shown_console : Bool → ConsoleLine → List ℕ
shown_console allowed line = if allowed && not (may_with_nobody_on line) then [] else console_text line

-- the kind for which a unit is taken, as `--as` spells it; what is on no board is a job
abbrev pub kind_words : UnitKindAt → List ℕ
kind_words Absent = codes "JOB"
kind_words Job = codes "JOB"
kind_words (Stc member) = codes "STC:" ++ member
kind_words Tsu = codes "TSU"

abbrev pub taken_text : Option UnitKindAt → List ℕ
taken_text None = []
taken_text (Some kind) = codes " AS " ++ kind_words kind

abbrev pub need_line : Entered → List ℕ
need_line entered = columns (codes "NEEDS" ∷ level_text entered.need.level ∷ entered.need.resource ∷ codes "GROUP"
    ∷ (group_text entered.need.group ++ (taken_text entered.unit ++ 10 ∷ [])) ∷ [])

abbrev pub logon_needs : (name : List ℕ) → List ℕ
logon_needs name = columns (codes "NEEDS READ" ∷ name ∷ codes "CLASS CONSOLE\n" ∷ [])

abbrev pub needs_text : Wanted → List ℕ
needs_text (Command entered) = need_line entered
needs_text (Logon name) = logon_needs name
needs_text (Access class resource level) = []

-- what decides: a profile, or none
abbrev pub warning_text : Bool → List ℕ
warning_text true = codes " WARNING"
warning_text false = []

abbrev pub profile_text : Option Profile → List ℕ
profile_text None = codes "NOPROFILE"
profile_text (Some p) = columns (codes "PROFILE" ∷ class_text p.class ∷ p.pattern ∷ codes "UACC"
    ∷ (level_text p.uacc ++ warning_text p.warning) ∷ [])

abbrev pub class_note : Bool → Class → List ℕ
class_note true class = []
class_note false class = codes ", CLASS " ++ class_text class ++ codes " INACTIVE"

abbrev pub decides_text : (active : Bool) → Class → Option Profile → List ℕ
decides_text active class decided =
    codes "DECIDES " ++ (profile_text decided ++ (class_note active class ++ 10 ∷ []))

-- what the line needs that a command asks for, and what decides about it
abbrev pub line_need_text : Need → List ℕ
line_need_text need = columns (codes "SHOWS" ∷ level_text need.level ∷ need.resource ∷ codes "GROUP"
    ∷ (group_text need.group ++ 10 ∷ []) ∷ [])

abbrev pub shows_text : (active : Bool) → Option Shows → List ℕ
shows_text active None = []
shows_text active (Some shows) = line_need_text shows.need ++ decides_text active Opercmds shows.decided

-- how many may, out of how many
abbrev pub share_text : Share → List ℕ
share_text share = columns (decimal share.may ∷ codes "of" ∷ decimal share.all ∷ [])

abbrev pub share_of : List UserLine → Share
share_of lines = record { may = count_by may lines; all = length lines }

abbrev pub console_share_of : List ConsoleLine → Share
console_share_of lines = record { may = count_by may_with_nobody_on lines; all = length lines }

abbrev pub is_undecided : UserLine → Bool
is_undecided line = is_none line.instead && is_none line.ruling

abbrev pub is_no_logon : Option Instead → Bool
is_no_logon (Some (instead.NoLogon why)) = true
is_no_logon other = false

abbrev pub cannot_log_on : UserLine → Bool
cannot_log_on line = is_no_logon line.instead

abbrev pub is_hidden : Option Instead → Bool
is_hidden (Some instead.Hidden) = true
is_hidden other = false

abbrev pub is_shown_nothing : UserLine → Bool
is_shown_nothing line = is_hidden line.instead

-- of consoles: how many may while unattended, if that is asked; that a command shows them; or nothing, of a LOGON
abbrev pub console_counts : Wanted → Option (List ConsoleLine) → ConsoleCounts
console_counts w (Some lines) = WithNobodyOn (console_share_of lines)
console_counts (Command entered) None = OfCommands
console_counts (Access class resource level) None = OfCommands
console_counts (Logon name) None = Unsaid

-- what the last line counts
abbrev pub counts_of : Who → Counts
counts_of who = record {
  users = share_of (users_of who);
  undecided = count_by is_undecided (users_of who);
  no_logon = count_by cannot_log_on (users_of who);
  hidden = count_by is_shown_nothing (users_of who);
  raised = share_of (raised_of who);
  consoles = console_counts who.wanted (consoles_of who);
}

abbrev pub undecided_text : ℕ → List ℕ
undecided_text n = if n == 0 then [] else codes ", " ++ decimal n ++ codes " undecided"

abbrev pub no_logons_text : ℕ → List ℕ
no_logons_text n = if n == 0 then [] else codes ", " ++ decimal n ++ codes " cannot log on"

abbrev pub hidden_text : ℕ → List ℕ
hidden_text n = if n == 0 then [] else codes ", " ++ decimal n ++ codes " shown nothing"

abbrev pub raised_text : Share → List ℕ
raised_text share =
    if share.all == 0 then [] else codes ", " ++ share_text share ++ codes " at one console alone"

abbrev pub consoles_text : ConsoleCounts → List ℕ
consoles_text (WithNobodyOn share) = codes ", " ++ share_text share ++ codes " unattended consoles"
consoles_text OfCommands = codes "; --command shows consoles, too"
consoles_text Unsaid = []

abbrev pub counts_text : Counts → List ℕ
counts_text counts = share_text counts.users ++ (codes " users" ++ (undecided_text counts.undecided
    ++ (no_logons_text counts.no_logon ++ (hidden_text counts.hidden
    ++ (raised_text counts.raised ++ (consoles_text counts.consoles ++ 10 ∷ []))))))

abbrev pub console_lines_text : Bool → Option (List ConsoleLine) → List ℕ
console_lines_text allowed None = []
console_lines_text allowed (Some lines) = flat_map (shown_console allowed) lines

-- what is needed, and what decides
abbrev pub beginning_text : Who → List ℕ
beginning_text who =
    needs_text who.wanted ++ (decides_text who.active (class_of who.wanted) who.decided ++ shows_text who.active who.shows)

abbrev pub who_text : Bool → Who → List ℕ
who_text allowed who = beginning_text who ++ flat_map (shown_user allowed) (users_of who)
    ++ flat_map (shown_user allowed) (raised_of who) ++ console_lines_text allowed (consoles_of who)
    ++ counts_text (counts_of who)
