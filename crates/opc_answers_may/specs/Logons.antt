-- Where a user may log on: the consoles, by what decides there.
use Rattle.std.specs.Prelude.{Bool, true, false, List, [], ◌∷◌, ◌++◌, Option, Some, None, filter, map, not, if◌then◌else◌}
use Rattle.std.specs.Option.{is_none}
use Rattle.std.specs.Str.{bytes_eq}
use Rattle.opc_names.specs.declared.class.Class.TheVariants.{Console}
use Rattle.opc_names.specs.declared.level.Level.TheVariants.{Read}
use Rattle.opc_policy_members.specs.declared.policy.Policy.{Policy}
use Rattle.opc_policy_members.specs.declared.profile.Profile.{Profile}
use Rattle.opc_policy_members.specs.Profiles.{of_class}
use Rattle.opc_board.specs.declared.rows.ConsoleRow.{ConsoleRow}
use Rattle.opc_answers.specs.declared.lines.UserLine.{UserLine}
use Rattle.opc_answers.specs.declared.members.UserWithGroups.{UserWithGroups}
use Rattle.opc_answers.specs.Deciding.{decider}
use Rattle.opc_answers.specs.Logons.{acts_for}
use Rattle.opc_answers.specs.Who.{is_raised, logon_line, member_line}
use Rattle.opc_answers_may.specs.declared.logons.LogonAt.{LogonAt}
use Rattle.opc_answers_may.specs.declared.logons.LogonBasis.{LogonBasis}
use Rattle.opc_answers_may.specs.declared.logons.LogonBasis.TheVariants.{Auto, ByProfile, NoDigest, NoProfile}
use Rattle.opc_answers_may.specs.declared.may.May.{May}
use Rattle.opc_answers_may.specs.May.{consoles_in}

-- What decides: the console acts for the user, and no logon is needed; no digest is stored; a profile decides, or none
-- does, and then the user is admitted.
abbrev pub by_profile : Option Profile → LogonBasis
by_profile None = NoProfile
by_profile (Some p) = ByProfile p.pattern

abbrev pub basis_of : Policy → UserWithGroups → ConsoleRow → LogonBasis
basis_of p m c = if acts_for c m then Auto else
    (if is_none m.user.digest then NoDigest else by_profile (decider p Console c.name))

-- what is said of a LOGON there
abbrev pub logon_said : Policy → UserWithGroups → ConsoleRow → UserLine
logon_said p m c = logon_line m.user (member_line (decider p Console c.name) (Some c.name) Read m)

abbrev pub logon_at : Policy → UserWithGroups → ConsoleRow → LogonAt
logon_at p m c = record { console = c.name; basis = basis_of p m c; line = logon_said p m c }

-- A revoked user can log on nowhere, and acts at no console.
abbrev pub logons_of : May → List LogonAt
logons_of may = if may.member.user.revoked then [] else
    map (logon_at may.room.policy may.member) (consoles_in may.room.board may.at)

-- whether this decides
abbrev pub same_basis : LogonBasis → LogonBasis → Bool
same_basis (ByProfile p) (ByProfile q) = bytes_eq p q
same_basis NoProfile NoProfile = true
same_basis NoDigest NoDigest = true
same_basis Auto Auto = true
same_basis basis other = false

abbrev pub is_on : LogonBasis → LogonAt → Bool
is_on basis l = same_basis basis l.basis

-- whether an entry for that console alone gives the level
abbrev pub is_raised_at : LogonAt → Bool
is_raised_at l = is_raised l.line

abbrev pub is_plain : LogonAt → Bool
is_plain l = not (is_raised l.line)

-- The consoles that stand under one head: those where this decides, and those with an entry for them alone one by one.
abbrev pub alone : LogonAt → List LogonAt
alone l = l ∷ []

abbrev pub apart : List LogonAt → List (List LogonAt)
apart logons = filter is_plain logons ∷ map alone (filter is_raised_at logons)

abbrev pub groups_on : List LogonAt → LogonBasis → List (List LogonAt)
groups_on logons basis = apart (filter (is_on basis) logons)

-- the profiles in order, and then what else may decide
abbrev pub basis_by : Profile → LogonBasis
basis_by p = ByProfile p.pattern

abbrev pub bases : Policy → List LogonBasis
bases p = map basis_by (of_class Console p.profiles) ++ NoProfile ∷ NoDigest ∷ Auto ∷ []
