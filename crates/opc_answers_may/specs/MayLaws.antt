-- What is said of one user is what `who` says of the user, resource by resource.
use Rattle.std.specs.Prelude.{
  ◌≡◌,
  ◌||◌,
  ℕ,
  Bool,
  false,
  true,
  List,
  [],
  ◌∷◌,
  Option,
  Some,
  None,
  filter,
  if◌then◌else◌,
  length,
  map,
}
use Rattle.std.specs.List.{flat_map, slice_get}
use Rattle.opc_names.specs.Authority.{enters}
use Rattle.opc_names.specs.declared.auth.Auth.{Auth}
use Rattle.opc_names.specs.declared.class.Class.TheVariants.{Opercmds}
use Rattle.opc_names.specs.declared.group.Group.{Group}
use Rattle.opc_names.specs.declared.level.Level.{Level}
use Rattle.opc_terms.specs.declared.need.Need.{Need}
use Rattle.opc_terms.specs.declared.rule.Rule.{Rule}
use Rattle.opc_policy_members.specs.declared.policy.Policy.{Policy}
use Rattle.opc_policy_members.specs.declared.profile.Profile.{Profile}
use Rattle.opc_policy_members.specs.declared.user.User.{User}
use Rattle.opc_policy_members.specs.Profiles.{AreMostSpecificFirst, profile_of}
use Rattle.opc_policy.specs.declared.ruling.Ruling.TheVariants.{Allowed}
use Rattle.opc_board.specs.declared.board.BoardRows.{BoardRows}
use Rattle.opc_board.specs.declared.rows.ConsoleRow.{ConsoleRow}
use Rattle.opc_state.specs.State.{State}
use Rattle.opc_machine.specs.declared.operation.Operation.{Operation}
use Rattle.opc_machine.specs.declared.operation.Operation.TheVariants.{Permit}
use Rattle.opc_machine.specs.Machine.{is_warned}
use Rattle.opc_machine.specs.Rights.{account_shown, may_change}
use Rattle.opc_machine.specs.Rulings.{acting}
use Rattle.opc_answers.specs.declared.lines.UserLine.{UserLine}
use Rattle.opc_answers.specs.declared.logons.NoLogon.{NoLogon}
use Rattle.opc_answers.specs.declared.members.UserWithGroups.{UserWithGroups}
use Rattle.opc_answers.specs.declared.wanted.Wanted.TheVariants.{Logon}
use Rattle.opc_answers.specs.declared.who.AskedAt.{AskedAt}
use Rattle.opc_answers.specs.declared.who.AskedAt.TheVariants.{Everywhere, OnBoard}
use Rattle.opc_answers.specs.Deciding.{decider}
use Rattle.opc_answers.specs.Texts.{verdict_word}
use Rattle.opc_answers.specs.Who as who
use Rattle.opc_answers.specs.Who.{line_wanted, no_logon_at, said_at, who_at, with_line}
use Rattle.opc_policy_deciders.specs.Decided.{ArePatternsOf, deciding_pattern}
use Rattle.opc_policy_deciders.specs.Forms.{AskedForm, forms}
use Rattle.opc_policy_deciders.specs.declared.kind.AskedKind.{AskedKind}
use Rattle.opc_answers_may.specs.declared.commands.CommandsLine.{CommandsLine}
use Rattle.opc_answers_may.specs.declared.commands.CommandsSaid.{CommandsSaid}
use Rattle.opc_answers_may.specs.declared.commands.CommandsSaid.TheVariants.{Closed, Entered, Ruled}
use Rattle.opc_answers_may.specs.declared.logons.LogonAt.{LogonAt}
use Rattle.opc_answers_may.specs.declared.logons.LogonBasis.{LogonBasis}
use Rattle.opc_answers_may.specs.Changes.{changes_as_owner}
use Rattle.opc_answers_may.specs.Commands.{
  authority_lines,
  hidden_if,
  is_raised_there,
  kind_lines,
  profile_at,
  said_of,
  takes,
}
use Rattle.opc_answers_may.specs.Logons.{bases, basis_of, groups_on, is_on, is_plain, logon_at, logon_said, same_basis}
use Rattle.opc_answers_may.specs.MayTexts.{said_word}

-- what `who` says of a user and a command that asks for no line, there
abbrev pub who_says : Policy → BoardRows → AskedAt → UserWithGroups → Need → UserLine
who_says p b place m need = said_at (who_at p b (line_wanted need) place) place m

abbrev pub commands_on : Level → AskedKind
commands_on level = record { level = level; is_line = false }

-- what a section says of a form, line by line
abbrev pub said_about : List CommandsLine → AskedForm → List CommandsSaid
said_about lines form =
    map (λ (l : CommandsLine). l.said) (filter (λ (l : CommandsLine). takes l.asked form) lines)

-- A form stands in one line: in that of its kind;
abbrev pub by_kind : AskedAt → Option NoLogon → Option Profile → UserWithGroups → AskedForm → List CommandsSaid
by_kind place why decided m form =
    Ruled (said_of place why decided m (record { level = form.level; is_line = form.is_line })) ∷ []

abbrev pub StandsByItsKind : Type 0
StandsByItsKind = (place : AskedAt) (why : Option NoLogon) (decided : Option Profile) (m : UserWithGroups)
    → map (said_about (kind_lines place why decided m)) forms ≡ map (by_kind place why decided m) forms

-- or, where the authority of a console decides, in that of what it enters or of what it does not.
abbrev pub by_authority : Auth → Option NoLogon → Group → CommandsSaid
by_authority auth why group = if enters auth group then Entered auth why else Closed auth

abbrev pub StandsByItsGroup : Type 0
StandsByItsGroup = (auth : Auth) (why : Option NoLogon) (form : AskedForm)
    → said_about (authority_lines auth why) form ≡ by_authority auth why form.group ∷ []

-- The profile of the pattern at a place decides what is decided at this place;
abbrev pub DecidesAtItsPlace : Type 0
DecidesAtItsPlace = (p : Policy) (patterns : List (List ℕ)) (resource : List ℕ) (place : ℕ) → ArePatternsOf p patterns
    → deciding_pattern p resource ≡ slice_get patterns place → profile_at p patterns place ≡ decider p Opercmds resource

-- and of the commands that it decides on a level what `who` says is said. If none decides, this is so everywhere;
abbrev pub SaysAsWho : Type 0
SaysAsWho = (p : Policy) (b : BoardRows) (place : AskedAt) (m : UserWithGroups) (need : Need) (profile : Profile)
    → decider p Opercmds need.resource ≡ Some profile
    → said_of place (no_logon_at p b place m) (Some profile) m (commands_on need.level) ≡ who_says p b place m need

abbrev pub SaysAsWhoEverywhere : Type 0
SaysAsWhoEverywhere = (p : Policy) (b : BoardRows) (m : UserWithGroups) (need : Need)
    → decider p Opercmds need.resource ≡ None
    → said_of Everywhere (no_logon_at p b Everywhere m) None m (commands_on need.level) ≡ who_says p b Everywhere m need

-- at a console its authority says the same word, by the group of the command.
abbrev pub SaysAsWhoByAuthority : Type 0
SaysAsWhoByAuthority = (p : Policy) (b : BoardRows) (c : ConsoleRow) (m : UserWithGroups) (need : Need)
    → decider p Opercmds need.resource ≡ None → m.user.revoked ≡ false
    → said_word (by_authority c.auth (no_logon_at p b (OnBoard c) m) need.group)
    ≡ verdict_word (who_says p b (OnBoard c) m need).ruling (who_says p b (OnBoard c) m need).instead

-- A console has a section of its own exactly if `who` has a line of the user for that console.
abbrev pub RaisedAsWho : Type 0
RaisedAsWho = (p : Policy) (b : BoardRows) (c : ConsoleRow) (m : UserWithGroups) (need : Need) (profile : Profile)
    → decider p Opercmds need.resource ≡ Some profile
    → is_raised_there profile m c ≡ who.is_raised_there (who_at p b (line_wanted need) Everywhere) c m

-- A line of an answer is hidden as `who` says of an allowed command that asks for it.
abbrev pub HidesAsWho : Type 0
HidesAsWho = (command line : UserLine) (r : Rule) → command.ruling ≡ Some (Allowed r) → is_warned (Some r) ≡ false
    → command.instead ≡ None → hidden_if true line ≡ with_line command line

-- What is said of a LOGON is what `who` says of it.
abbrev pub SaysLogonsAsWho : Type 0
SaysLogonsAsWho = (p : Policy) (b : BoardRows) (c : ConsoleRow) (m : UserWithGroups)
    → logon_said p m c ≡ said_at (who_at p b (Logon c.name) (OnBoard c)) (OnBoard c) m

-- A console has one head, by what decides there.
abbrev pub heads_for : Policy → UserWithGroups → ConsoleRow → List LogonBasis
heads_for p m c = filter (λ (basis : LogonBasis). is_on basis (logon_at p m c)) (bases p)

abbrev pub HasOneHead : Type 0
HasOneHead = (p : Policy) (m : UserWithGroups) (c : ConsoleRow) → AreMostSpecificFirst p.profiles
    → heads_for p m c ≡ basis_of p m c ∷ []

-- Under a head stand those for which it decides, each as often as it is asked about: by any test, as many.
abbrev pub passing : (LogonAt → Bool) → List LogonAt → ℕ
passing test logons = length (filter test logons)

abbrev pub StandsUnderItsHead : Type 0
StandsUnderItsHead = (logons : List LogonAt) (basis : LogonBasis) (test : LogonAt → Bool)
    → passing test (flat_map (λ (group : List LogonAt). group) (groups_on logons basis))
    ≡ passing test (filter (is_on basis) logons)

-- Where no entry is for the console alone, one head says the same of all its consoles.
abbrev pub SaysOneUnderAHead : Type 0
SaysOneUnderAHead = (p : Policy) (m : UserWithGroups) (c d : ConsoleRow) → AreMostSpecificFirst p.profiles
    → same_basis (basis_of p m c) (basis_of p m d) ≡ true → is_plain (logon_at p m c) ≡ true
    → is_plain (logon_at p m d) ≡ true → logon_said p m c ≡ logon_said p m d

-- What stands under SPECIAL, AUDITOR and OWNER is what the gate lets the user do, at a console where the user acts.
abbrev pub SpecialChanges : Type 0
SpecialChanges = (s : State) (c : ConsoleRow) (u : User) (o : Operation) → acting s c ≡ Some u
    → u.special ≡ true → may_change s c o ≡ true

abbrev pub OwnersPermit : Type 0
OwnersPermit = (s : State) (c : ConsoleRow) (u : User) (p : Profile) (id : List ℕ) (level : Level)
    (console : Option (List ℕ)) → acting s c ≡ Some u
    → profile_of s.policy.profiles p.class p.pattern ≡ Some p
    → may_change s c (Permit p.class p.pattern id level console) ≡ (u.special || changes_as_owner u p)

abbrev pub BothSeeTheAccount : Type 0
BothSeeTheAccount = (s : State) (c : ConsoleRow) (u : User) → acting s c ≡ Some u
    → account_shown s c ≡ (u.special || u.auditor)
