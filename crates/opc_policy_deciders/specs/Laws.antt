-- What is found form by form, over all names.
use Rattle.std.specs.Prelude.{◌≡◌, ◌≤◌, ℕ, List, Option, Some, None, Ok, length}
use Rattle.std.specs.List.{slice_get}
use Rattle.opc_names.specs.Names.{qualifiers}
use Rattle.opc_names.specs.declared.class.Class.TheVariants.{Opercmds}
use Rattle.opc_names.specs.declared.level.Level.{Level}
use Rattle.opc_terms.specs.declared.rule.Rule.{Rule}
use Rattle.opc_terms.specs.declared.rule.Rule.TheVariants.{NoProfile}
use Rattle.opc_policy_members.specs.declared.policy.Policy.{Policy}
use Rattle.opc_policy_members.specs.declared.profile.Profile.{Profile}
use Rattle.opc_policy_members.specs.declared.user.User.{User}
use Rattle.opc_policy_members.specs.Members.{groups_of, user_of}
use Rattle.opc_policy.specs.declared.ruling.Ruling.{Ruling}
use Rattle.opc_policy.specs.declared.verdict.Verdict.{Verdict}
use Rattle.opc_policy.specs.declared.verdict.Verdict.TheVariants.{Undecided}
use Rattle.opc_policy.specs.Deciding.{deciding}
use Rattle.opc_policy.specs.Explained.{covering_patterns, explanation}
use Rattle.opc_policy.specs.Rulings.{profile_ruling, rule_of, verdict_of}
use Rattle.opc_policy_deciders.specs.Decided.{ArePatternsOf, AreShortest, IsDecided, deciding_pattern, in_effect}
use Rattle.opc_policy_deciders.specs.Forms.{AreOf, AskedForm, forms}

-- the place of what decides a resource, the only one: that of the profile that does, or the end if none does
pub record HasOnePlace (p : Policy) (patterns : List (List ℕ)) (resource : List ℕ) : Type 0 where
  pub place : ℕ
  pub within : place ≤ length patterns
  pub decides : deciding_pattern p resource ≡ slice_get patterns place
  pub only : (other : ℕ) → other ≤ length patterns → deciding_pattern p resource ≡ slice_get patterns other
      → other ≡ place

abbrev pub EachHasOnePlace : Type 0
EachHasOnePlace =
    (p : Policy) (patterns : List (List ℕ)) (resource : List ℕ) → ArePatternsOf p patterns → HasOnePlace p patterns resource

-- of a form something is found exactly where a resource of it is decided
abbrev pub IsFoundAt : List (Option (List ℕ)) → (place : ℕ) → Type 0
IsFoundAt list place = (resource : List ℕ) × (slice_get list place ≡ Some (Some resource))

abbrev pub FoundWhereDecided : Type 0
FoundWhereDecided = (p : Policy) (pattern : Option (List ℕ)) (list : List (Option (List ℕ)))
    → AreShortest (IsDecided p pattern) forms list → (place : ℕ) (form : AskedForm) (resource : List ℕ)
    → slice_get forms place ≡ Some form → AreOf form.qualifiers (qualifiers resource)
    → deciding_pattern p resource ≡ pattern → IsFoundAt list place

abbrev pub DecidedWhereFound : Type 0
DecidedWhereFound = (p : Policy) (pattern : Option (List ℕ)) (list : List (Option (List ℕ)))
    → AreShortest (IsDecided p pattern) forms list → (place : ℕ) (form : AskedForm) (resource : List ℕ)
    → slice_get forms place ≡ Some form → slice_get list place ≡ Some (Some resource) → IsDecided p pattern form resource

-- What a profile that decides rules on a stored user is what the user is told about the resource: the verdict, and the
-- rule. Without a profile that decides, it is undecided.
abbrev pub ExplainedBy : Policy → List ℕ → User → Option (List ℕ) → Level → Verdict → Rule → Type 0
ExplainedBy p resource user console level said rule = explanation p Opercmds resource user.id console level
    ≡ Ok (record { covering = covering_patterns Opercmds resource p.profiles; verdict = said; rule = rule })

abbrev pub ruled : Policy → Profile → User → Option (List ℕ) → Level → Ruling
ruled p profile user console level = profile_ruling profile user console (groups_of p.connects user.id) level

abbrev pub RulesAsExplained : Type 0
RulesAsExplained = (p : Policy) (profile : Profile) (resource : List ℕ) (user : User) (console : Option (List ℕ))
    (level : Level) → user_of p.users user.id ≡ Some user → deciding (in_effect p) resource ≡ Some profile
    → ExplainedBy p resource user console level (verdict_of (ruled p profile user console level))
    (rule_of (ruled p profile user console level))

abbrev pub UndecidedAsExplained : Type 0
UndecidedAsExplained = (p : Policy) (resource : List ℕ) (user : User) (console : Option (List ℕ)) (level : Level)
    → user_of p.users user.id ≡ Some user → deciding (in_effect p) resource ≡ None
    → ExplainedBy p resource user console level Undecided NoProfile
