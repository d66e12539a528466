-- What a profile rules is what is explained.
use Rattle.std.proofs.Common.{◌≡◌, ◌∙◌, ap, ap₂, refl, ℕ, Bool, true, false, ◌||◌, List, [], Option, Some, None, Result, Ok}
use Rattle.std.specs.Prelude.{if◌then◌else◌}
use Rattle.opc_names.specs.Authority.{includes}
use Rattle.opc_names.specs.declared.class.Class.TheVariants.{Opercmds}
use Rattle.opc_names.specs.declared.level.Level.{Level}
use Rattle.opc_terms.specs.declared.fault.Fault.{Fault}
use Rattle.opc_terms.specs.declared.rule.Rule.{Rule}
use Rattle.opc_terms.specs.declared.rule.Rule.TheVariants.{NoProfile}
use Rattle.opc_policy_members.specs.declared.policy.Policy.{Policy}
use Rattle.opc_policy_members.specs.declared.profile.Profile.{Profile}
use Rattle.opc_policy_members.specs.declared.user.User.{User}
use Rattle.opc_policy_members.specs.Held.{held}
use Rattle.opc_policy_members.specs.Members.{groups_of, user_of}
use Rattle.opc_policy_members.specs.Profiles.{of_class}
use Rattle.opc_policy_members.specs.Taken.{is_active}
use Rattle.opc_policy.specs.declared.explained.Explained.{Explained}
use Rattle.opc_policy.specs.declared.ruling.Ruling.TheVariants as rulings
use Rattle.opc_policy.specs.declared.verdict.Verdict.{Verdict}
use Rattle.opc_policy.specs.declared.verdict.Verdict.TheVariants.{Allowed, Denied, Undecided}
use Rattle.opc_policy.specs.Deciding.{deciding}
use Rattle.opc_policy.specs.Explained.{covering_patterns, explained_to}
use Rattle.opc_policy.specs.Rulings.{profile_ruling, rule_at, rule_of, verdict, verdict_of, verdict_rule}
use Rattle.opc_policy_deciders.specs.Laws.{ExplainedBy, RulesAsExplained, UndecidedAsExplained}

verdict_so : (q : Profile) (user : User) (console : Option (List ℕ)) (groups : List (List ℕ)) (level : Level)
    → verdict true (Some q) user console groups level ≡ verdict_of (profile_ruling q user console groups level)
verdict_so q user console groups level = go (includes (held q user console groups) level || q.warning)
  where
    rule : Rule
    rule = rule_at q (held q user console groups) level

    go : (b : Bool) → (if b then Allowed else Denied) ≡ verdict_of (if b then rulings.Allowed rule else rulings.Denied rule)
    go true = refl
    go false = refl

rule_so : (q : Profile) (user : User) (console : Option (List ℕ)) (groups : List (List ℕ)) (level : Level)
    → verdict_rule true (Some q) user console groups level ≡ rule_of (profile_ruling q user console groups level)
rule_so q user console groups level = go (includes (held q user console groups) level || q.warning)
  where
    rule : Rule
    rule = rule_at q (held q user console groups) level

    go : (b : Bool) → rule ≡ rule_of (if b then rulings.Allowed rule else rulings.Denied rule)
    go true = refl
    go false = refl

abbrev explained : (covering : List (List ℕ)) → Verdict → Rule → Result Explained Fault
explained covering said rule = Ok (record { covering = covering; verdict = said; rule = rule })

-- by whether the class is active, and by what decides
by_decider : (p : Policy) (resource : List ℕ) (user : User) (console : Option (List ℕ)) (level : Level) (active : Bool)
    (decided : Option Profile) → user_of p.users user.id ≡ Some user → is_active p.active Opercmds ≡ active
    → deciding (of_class Opercmds p.profiles) resource ≡ decided
    → ExplainedBy p resource user console level (verdict active decided user console (groups_of p.connects user.id) level)
    (verdict_rule active decided user console (groups_of p.connects user.id) level)
by_decider p resource user console level active decided stored is_on is =
    ap (λ (u : Option User). explained_to u p Opercmds resource user.id console level) stored
    ∙ ap₂ (λ (a : Bool) (d : Option Profile). explained (covering_patterns Opercmds resource p.profiles)
    (verdict a d user console (groups_of p.connects user.id) level) (verdict_rule a d user console (groups_of p.connects user.id) level)) is_on is

pub rules_as_explained : RulesAsExplained
rules_as_explained p profile resource user console level stored decides = go (is_active p.active Opercmds) refl decides
  where
    groups : List (List ℕ)
    groups = groups_of p.connects user.id

    go : (b : Bool) → is_active p.active Opercmds ≡ b
        → deciding (if b then of_class Opercmds p.profiles else []) resource ≡ Some profile
        → ExplainedBy p resource user console level (verdict_of (profile_ruling profile user console groups level))
        (rule_of (profile_ruling profile user console groups level))
    go true is found =
        by_decider p resource user console level true (Some profile) stored is found
        ∙ ap₂ (explained (covering_patterns Opercmds resource p.profiles)) (verdict_so profile user console groups level)
        (rule_so profile user console groups level)
    go false is found = cc

pub undecided_as_explained : UndecidedAsExplained
undecided_as_explained p resource user console level stored decides = go (is_active p.active Opercmds) refl decides
  where
    go : (b : Bool) → is_active p.active Opercmds ≡ b → deciding (if b then of_class Opercmds p.profiles else []) resource ≡ None
        → ExplainedBy p resource user console level Undecided NoProfile
    go true is found = by_decider p resource user console level true None stored is found
    go false is found = by_decider p resource user console level false (deciding (of_class Opercmds p.profiles) resource) stored is refl
