-- What the profile that decides rules, from its definition and the level that is held.
use Rattle.std.proofs.Common.{◌≡◌, ℕ, Bool, true, false, if◌then◌else◌, List, [], Option, Some, None, IfSome, option_map, unwrap_or, refl, ap, ◌∙◌, rules}
use Rattle.std.specs.Option.{option_map_or}
use Rattle.opc_names.specs.declared.class.Class.{Class}
use Rattle.opc_names.specs.declared.level.Level.{Level}
use Rattle.opc_policy_members.specs.declared.profile.Profile.{Profile}
use Rattle.opc_policy.specs.declared.ruling.Ruling.{Ruling}
use Rattle.opc_policy_members.specs.declared.user.User.{User}
use Rattle.opc_policy_members.specs.Held.{held}
use Rattle.opc_policy_members.specs.Members.{groups_of}
use Rattle.opc_policy_members.specs.Profiles.{profile_of}
use Rattle.opc_policy.specs.Rulings.{by_verdict, ruling_at, verdict, verdict_rule}
use Rattle.opc_policy.proofs.Decided.{ruling_by_verdict}
use Rattle.opc_state.specs.Invariants.{IsKeyed}
use Rattle.opc_state.specs.Loads.{bare}
use Rattle.opc_state.specs.State.{State, deciding_in}
use Rattle.opc_gate_rulings.proofs.Found.{deciding_found}
use Rattle.opc_gate_rulings.specs.Held.{class_ruling, held_in, with_list}

-- the verdict of a class is its ruling, if it has one
pub ruled : (active : Bool) (decided : Option Profile) (user : User) (console : Option (List ℕ)) (groups : List (List ℕ)) (needed : Level) (other : Ruling)
    → by_verdict (verdict active decided user console groups needed)
    (verdict_rule active decided user console groups needed) other ≡ unwrap_or
    (class_ruling active decided user console groups needed) other
ruled false decided user console groups needed other = refl
ruled true None user console groups needed other = refl
ruled true (Some p) user console groups needed other = ruling_by_verdict p user console groups needed other

-- the ruling otherwise, if a test is not passed
pub unless : (test : Bool) (one other r : Ruling) → test ≡ false → r ≡ other → r ≡ (if test then one else other)
unless true one other r not is = absurd (search (rules, not))
unless false one other r not is = is

module _ (s : State) (class : Class) (resource : List ℕ) (user : User) (console : List ℕ) (needed : Level) where
  abbrev Rules : Option Profile → Option Ruling → Type 0
  Rules decided r = r ≡ class_ruling true decided user (Some console) (groups_of s.policy.connects user.id) needed

  -- if none is found, none decides
  pub none_rules : None ≡ option_map bare (deciding_in s.policy class resource) → Rules (deciding_in s.policy class resource) None
  none_rules = go (deciding_in s.policy class resource)
    where
      go : (o : Option Profile) → None ≡ option_map bare o → Rules o None
      go None is = refl
      go (Some p) is = absurd (search (rules, is))

  relisted : (p : Profile) → profile_of s.policy.profiles p.class p.pattern ≡ Some p → with_list s.policy (bare p) ≡ p
  relisted p found = ap (λ (o : Option Profile). record p { entries = option_map_or (λ (q : Profile). q.entries) o [] }) found

  -- by the level that is held in the definition that is found, the profile that decides rules
  pub one_rules : IsKeyed s → (profile : Profile) → Some profile ≡ option_map bare (deciding_in s.policy class resource)
      → Rules (deciding_in s.policy class resource) (Some (ruling_at profile (held_in s.policy profile user console) needed))
  one_rules keyed profile = go (deciding_in s.policy class resource) (deciding_found s.policy.profiles class resource keyed.profiles)
    where
      same : (p q : Profile) → (let o : Option Profile = Some p in o) ≡ Some q → p ≡ q
      same p q is = search (rules, is)

      go : (o : Option Profile) → IfSome o (λ p. profile_of s.policy.profiles p.class p.pattern ≡ Some p)
          → Some profile ≡ option_map bare o
          → Rules o (Some (ruling_at profile (held_in s.policy profile user console) needed))
      go None found is = absurd (search (rules, is))
      go (Some p) found is =
          ap (λ (q : Profile). Some (ruling_at q (held_in s.policy q user console) needed)) (same profile (bare p) is)
          ∙ ap (λ (q : Profile). Some (ruling_at p (held q user (Some console) (groups_of s.policy.connects user.id)) needed)) (relisted p found)
