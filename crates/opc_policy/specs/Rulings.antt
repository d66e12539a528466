-- What the profile that decides rules on a user, and the ruling on a command.
use Rattle.std.specs.Prelude.{ℕ, Bool, true, false, ◌||◌, ◌&&◌, not, List, Option, Some, None, if◌then◌else◌}
use Rattle.opc_names.specs.declared.auth.Auth.{Auth}
use Rattle.opc_names.specs.declared.level.Level.{Level}
use Rattle.opc_names.specs.Authority.{includes, enters}
use Rattle.opc_policy_members.specs.Held.{held}
use Rattle.opc_terms.specs.declared.need.Need.{Need}
use Rattle.opc_policy_members.specs.declared.profile.Profile.{Profile}
use Rattle.opc_terms.specs.declared.rule.Rule.{Rule}
use Rattle.opc_terms.specs.declared.rule.Rule.TheVariants as rules
use Rattle.opc_policy.specs.declared.ruling.Ruling.{Ruling}
use Rattle.opc_policy.specs.declared.ruling.Ruling.TheVariants as rulings
use Rattle.opc_policy_members.specs.declared.user.User.{User}
use Rattle.opc_policy.specs.declared.verdict.Verdict.{Verdict}
use Rattle.opc_policy.specs.declared.verdict.Verdict.TheVariants.{Allowed, Undecided, Denied}

-- The verdict of a class on a user at a console and a level, by the profile that decides in it: undecided if the class
-- is inactive or none decides; allowed if the user holds the level, or the profile only warns; otherwise denied.
abbrev pub verdict : Bool → Option Profile → User → Option (List ℕ) → List (List ℕ) → Level → Verdict
verdict false decided user console groups needed = Undecided
verdict true None user console groups needed = Undecided
verdict true (Some p) user console groups needed =
    if includes (held p user console groups) needed || p.warning then Allowed else Denied

-- the rule of a profile for a user who holds this level in it: with a warning if the level is not enough and the
-- profile only warns
abbrev pub rule_at : Profile → Level → Level → Rule
rule_at p level needed = rules.Profile p.class p.pattern level needed (not (includes level needed) && p.warning)

-- the ruling of a profile on a user who holds this level in it
abbrev pub ruling_at : Profile → Level → Level → Ruling
ruling_at p level needed = if includes level needed
    || p.warning then rulings.Allowed (rule_at p level needed) else rulings.Denied (rule_at p level needed)

-- the rule of a profile for a user
abbrev pub profile_rule : Profile → User → Option (List ℕ) → List (List ℕ) → Level → Rule
profile_rule p user console groups needed = rule_at p (held p user console groups) needed

-- the ruling of a profile on a user, if it decides
abbrev pub profile_ruling : Profile → User → Option (List ℕ) → List (List ℕ) → Level → Ruling
profile_ruling p user console groups needed = ruling_at p (held p user console groups) needed

-- the rule of a verdict
abbrev pub verdict_rule : Bool → Option Profile → User → Option (List ℕ) → List (List ℕ) → Level → Rule
verdict_rule false decided user console groups needed = rules.NoProfile
verdict_rule true None user console groups needed = rules.NoProfile
verdict_rule true (Some p) user console groups needed = profile_rule p user console groups needed

-- by the authority of the console and the group of the command (MVS Planning: Operations)
abbrev pub console_ruling : Auth → Need → Ruling
console_ruling auth need = if enters auth need.group then rulings.Allowed (rules.ConsoleGroup need.group auth) else
    rulings.Denied (rules.ConsoleGroup need.group auth)

-- a verdict that decides is final; if it is undecided, something else decides
abbrev pub by_verdict : Verdict → Rule → Ruling → Ruling
by_verdict Allowed rule other = rulings.Allowed rule
by_verdict Denied rule other = rulings.Denied rule
by_verdict Undecided rule other = other

-- the verdict of a ruling, and its rule
abbrev pub verdict_of : Ruling → Verdict
verdict_of (rulings.Allowed rule) = Allowed
verdict_of (rulings.Denied rule) = Denied

abbrev pub rule_of : Ruling → Rule
rule_of (rulings.Allowed rule) = rule
rule_of (rulings.Denied rule) = rule

-- The ruling on a command at a console, apart from any logon rule: by the verdict on the user for whom the console
-- acts; if there is none, or the verdict is undecided, by the authority of the console.
abbrev pub ruling : Bool → Option Profile → Option User → Option (List ℕ) → List (List ℕ) → Auth → Need → Ruling
ruling active decided None console groups auth need = console_ruling auth need
ruling active decided (Some user) console groups auth need =
    by_verdict (verdict active decided user console groups need.level)
    (verdict_rule active decided user console groups need.level) (console_ruling auth need)
