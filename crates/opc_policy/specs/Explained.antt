-- Why a user may or may not have a level of access to a resource.
use Rattle.std.specs.Prelude.{ℕ, Bool, ◌&&◌, List, [], ◌∷◌, ◌++◌, Option, Some, None, Result, Ok, Err, map, codes}
use Rattle.std.specs.List.{flat_map}
use Rattle.std.specs.declared.ops.Bound.{Bound}
use Rattle.opc_names.specs.Authority.{same_class}
use Rattle.opc_names.specs.Patterns.{covers_text}
use Rattle.opc_names.specs.declared.class.Class.{Class}
use Rattle.opc_names.specs.declared.level.Level.{Level}
use Rattle.opc_policy.specs.declared.explained.Explained.{Explained}
use Rattle.opc_terms.specs.declared.fault.Fault.{Fault}
use Rattle.opc_terms.specs.declared.fault.Fault.TheVariants.{Missing}
use Rattle.opc_policy_members.specs.declared.policy.Policy.{Policy}
use Rattle.opc_policy_members.specs.declared.profile.Profile.{Profile}
use Rattle.opc_policy_members.specs.declared.user.User.{User}
use Rattle.opc_policy_members.specs.Profiles.{is_of_from, of_class}
use Rattle.opc_policy.specs.Deciding.{covering, deciding}
use Rattle.opc_policy_members.specs.Members.{user_of, groups_of}
use Rattle.opc_terms.specs.Rules.{rule_text}
use Rattle.opc_policy.specs.Rulings.{verdict, verdict_rule}
use Rattle.opc_policy_members.specs.Taken.{is_active}
use Rattle.opc_policy.specs.Verdicts.{verdict_text}

-- whether a profile of a class covers a resource
abbrev pub is_covering : Class → List ℕ → Profile → Bool
is_covering class resource profile = same_class profile.class class && covers_text profile.pattern resource

-- the same, and its sort key is at a start or after it
abbrev pub is_covering_from : Class → List ℕ → (start : Bound (List ℕ)) → Profile → Bool
is_covering_from class resource start profile = is_of_from class start profile && covers_text profile.pattern resource

-- the patterns of the profiles of a class that cover a resource
abbrev pub covering_patterns : Class → List ℕ → List Profile → List (List ℕ)
covering_patterns class resource profiles =
    map (λ (p : Profile). p.pattern) (covering resource (of_class class profiles))

-- The explanation for a user, at a console if one is given: what covers, active or not; the verdict by the profile that
-- decides; its rule.
abbrev pub explained_to : Option User → Policy → Class → List ℕ → List ℕ → Option (List ℕ) → Level
    → Result Explained Fault
explained_to None policy class resource id console needed = Err (Missing id)
explained_to (Some user) policy class resource id console needed =
    let active = is_active policy.active class in
    let decided = deciding (of_class class policy.profiles) resource in
    let groups = groups_of policy.connects id in
    Ok (record {
      covering = covering_patterns class resource policy.profiles;
      verdict = verdict active decided user console groups needed;
      rule = verdict_rule active decided user console groups needed;
    })

-- the explanation for the user with an id
abbrev pub explanation : Policy → Class → List ℕ → List ℕ → Option (List ℕ) → Level → Result Explained Fault
explanation policy class resource id console needed =
    explained_to (user_of policy.users id) policy class resource id console needed

-- the line of a pattern that covers; 10 is the line feed
abbrev pub covers_line : List ℕ → List ℕ
covers_line pattern = codes "COVERS " ++ pattern ++ 10 ∷ []

abbrev pub explained_text : Explained → List ℕ
explained_text explained = flat_map covers_line explained.covering ++ verdict_text explained.verdict ++ codes " "
    ++ rule_text explained.rule ++ 10 ∷ []
