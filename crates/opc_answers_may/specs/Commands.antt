-- Which commands a user may enter, and which lines of answers are shown: by what decides, section by section.
use Rattle.std.specs.Prelude.{ℕ, Bool, true, false, List, [], ◌∷◌, Option, Some, None, filter, map, not, if◌then◌else◌}
use Rattle.std.specs.List.{slice_get}
use Rattle.std.specs.Option.{option_and_then}
use Rattle.opc_names.specs.Authority.{enters}
use Rattle.opc_names.specs.declared.auth.Auth.{Auth}
use Rattle.opc_names.specs.declared.class.Class.TheVariants.{Opercmds}
use Rattle.opc_names.specs.declared.level.Level.TheVariants.{Read}
use Rattle.opc_policy_members.specs.declared.policy.Policy.{Policy}
use Rattle.opc_policy_members.specs.declared.profile.Profile.{Profile}
use Rattle.opc_policy_members.specs.Profiles.{profile_of}
use Rattle.opc_policy_sources.specs.Sources.{held_from}
use Rattle.opc_board.specs.declared.board.BoardRows.{BoardRows}
use Rattle.opc_board.specs.declared.rows.ConsoleRow.{ConsoleRow}
use Rattle.opc_answers.specs.declared.lines.UserLine.{UserLine}
use Rattle.opc_answers.specs.declared.logons.Instead.TheVariants as instead
use Rattle.opc_answers.specs.declared.logons.NoLogon.{NoLogon}
use Rattle.opc_answers.specs.declared.members.UserWithGroups.{UserWithGroups}
use Rattle.opc_answers.specs.declared.who.AskedAt.{AskedAt}
use Rattle.opc_answers.specs.declared.who.AskedAt.TheVariants.{Everywhere, OnBoard}
use Rattle.opc_answers.specs.Who.{is_denied, is_raised, member_line, name_of, no_logon_at, unless_on}
use Rattle.opc_policy_deciders.specs.declared.kind.AskedKind.{AskedKind}
use Rattle.opc_policy_deciders.specs.Forms.{AskedForm}
use Rattle.opc_policy_deciders.specs.Kinds.{Example, found_of, is_of_kind, kinds}
use Rattle.opc_answers_may.specs.declared.commands.CommandsHead.TheVariants as head
use Rattle.opc_answers_may.specs.declared.commands.CommandsLine.{CommandsLine}
use Rattle.opc_answers_may.specs.declared.commands.CommandsSaid.TheVariants.{Closed, Entered, Ruled}
use Rattle.opc_answers_may.specs.declared.commands.CommandsSection.{CommandsSection}
use Rattle.opc_answers_may.specs.declared.commands.FormsAsked.{FormsAsked}
use Rattle.opc_answers_may.specs.declared.commands.FormsAsked.TheVariants.{ClosedTo, EnteredBy, OfKind}
use Rattle.opc_answers_may.specs.declared.may.May.{May}

-- The forms in a line: those of a kind, on which a profile rules alike; or, where the authority of a console decides,
-- those that it enters, and the others.
abbrev pub takes : FormsAsked → AskedForm → Bool
takes (OfKind kind) form = is_of_kind kind form
takes (EnteredBy auth) form = enters auth form.group
takes (ClosedTo auth) form = not (enters auth form.group)

-- of those, the ones of which something is decided there, each with a resource
abbrev pub shown : FormsAsked → List AskedForm → List (Option (List ℕ)) → List Example
shown asked forms found = found_of (takes asked) forms found

-- A line of an answer is left out, if the profile that decides denies it; that a user cannot log on comes before.
abbrev pub hidden_if : Bool → UserLine → UserLine
hidden_if false line = line
hidden_if true line = if is_denied line.ruling then record line { instead = Some instead.Hidden } else line

abbrev pub said_of : AskedAt → Option NoLogon → Option Profile → UserWithGroups → AskedKind → UserLine
said_of place why decided m kind =
    hidden_if kind.is_line (unless_on why (member_line decided (name_of place) kind.level m))

abbrev pub kind_line : AskedAt → Option NoLogon → Option Profile → UserWithGroups → AskedKind → CommandsLine
kind_line place why decided m kind =
    record { asked = OfKind kind; said = Ruled (said_of place why decided m kind) }

abbrev pub kind_lines : AskedAt → Option NoLogon → Option Profile → UserWithGroups → List CommandsLine
kind_lines place why decided m = map (kind_line place why decided m) kinds

-- where no profile decides, the authority of the console does
abbrev pub authority_lines : Auth → Option NoLogon → List CommandsLine
authority_lines auth why =
    record { asked = EnteredBy auth; said = Entered auth why }
    ∷ record { asked = ClosedTo auth; said = Closed auth } ∷ []

-- A section: what decides, and the lines.
abbrev pub by_profile : AskedAt → Option NoLogon → Profile → UserWithGroups → CommandsSection
by_profile place why p m = record {
  head = head.ByProfile p.pattern (held_from p m.user (name_of place) m.groups);
  lines = kind_lines place why (Some p) m;
}

abbrev pub by_none : AskedAt → Option NoLogon → UserWithGroups → CommandsSection
by_none (OnBoard c) why m = record { head = head.ByAuthority c.auth; lines = authority_lines c.auth why }
by_none place why m = record { head = head.ByNone; lines = kind_lines place why None m }

abbrev pub section_at : AskedAt → Option NoLogon → Option Profile → UserWithGroups → CommandsSection
section_at place why None m = by_none place why m
section_at place why (Some p) m = by_profile place why p m

-- Everywhere, a section of its own is for each console for which alone an entry of the profile gives the level.
abbrev pub is_raised_there : Profile → UserWithGroups → ConsoleRow → Bool
is_raised_there p m c = is_raised (member_line (Some p) (Some c.name) Read m)

abbrev pub raised_at : Policy → BoardRows → Profile → UserWithGroups → ConsoleRow → CommandsSection
raised_at policy b p m c = by_profile (OnBoard c) (no_logon_at policy b (OnBoard c) m) p m

abbrev pub raised_in : AskedAt → Policy → BoardRows → Option Profile → UserWithGroups → List CommandsSection
raised_in Everywhere policy b (Some p) m =
    map (raised_at policy b p m) (filter (is_raised_there p m) b.consoles)
raised_in place policy b decided m = []

-- Of a revoked user nothing is said.
abbrev pub sections_of : May → Option Profile → List CommandsSection
sections_of may decided = if may.member.user.revoked then [] else section_at may.at may.no_logon decided may.member
    ∷ raised_in may.at may.room.policy may.room.board decided may.member

-- the profile whose pattern stands at a place, none at the end
abbrev pub profile_at : Policy → (patterns : List (List ℕ)) → (place : ℕ) → Option Profile
profile_at p patterns place =
    option_and_then (λ (pattern : List ℕ). profile_of p.profiles Opercmds pattern) (slice_get patterns place)
