-- What is held, by what is loaded of an access list and of a user's groups.
use Rattle.std.proofs.Common.{◌≡◌, ℕ, ◌<◌, List, Option, Some, None, length, take, unwrap_or, ap, ap₂, ◌∙◌, arith}
use Rattle.std.proofs.lemmas.List.{length-take, take_all}
use Rattle.opc_names.specs.declared.level.Level.{Level}
use Rattle.opc_names.specs.declared.level.Level.TheVariants as level
use Rattle.opc_policy_members.specs.declared.entry.Entry.{Entry}
use Rattle.opc_policy_members.specs.declared.policy.Policy.{Policy}
use Rattle.opc_policy_members.specs.declared.profile.Profile.{Profile}
use Rattle.opc_policy_members.specs.declared.user.User.{User}
use Rattle.opc_policy_members.specs.Access.{first_level, higher_level}
use Rattle.opc_policy_members.specs.Held.{held, listed_groups, universal_level}
use Rattle.opc_policy_members.specs.Members.{groups_of}
use Rattle.opc_policy_members.proofs.ListedGroups.{listed_groups_suffice}
use Rattle.opc_state.specs.Loads.{access_list}
use Rattle.opc_gate_rulings.specs.Held.{held_in, with_list}

-- what is shorter than requested is whole
pub whole : {A : Type 0} (xs ys : List A) (most : ℕ) → xs ≡ take most ys → length xs < most → xs ≡ ys
whole xs ys most is few =
    let some : length xs ≡ length (take most ys) = ap length is in
    is ∙ take_all most ys (omega (arith, some, few, length-take most ys))

module _ (p : Policy) (profile : Profile) (user : User) (console : List ℕ) where
  abbrev listed : List Entry → Profile
  listed entries = record profile { entries = entries }

  -- by the whole list and all groups
  pub by_both : (entries : List Entry) (groups : List (List ℕ)) (most : ℕ)
      → entries ≡ take most (access_list p profile.class profile.pattern) → length entries < most
      → groups ≡ take most (groups_of p.connects user.id) → length groups < most
      → held (listed entries) user (Some console) groups ≡ held_in p profile user console
  by_both entries groups most list few all fewer =
      ap₂ (λ (es : List Entry) (gs : List (List ℕ)). held (listed es) user (Some console) gs) (whole entries _ most list few) (whole groups _ most all fewer)

  -- by the whole list and those groups that it has entries for
  pub by_list : (entries : List Entry) (groups : List (List ℕ)) → entries ≡ access_list p profile.class profile.pattern
      → groups ≡ listed_groups entries (groups_of p.connects user.id) → held (listed entries) user (Some console) groups ≡ held_in p profile user console
  by_list entries groups list some =
      ap (λ (gs : List (List ℕ)). held (listed entries) user (Some console) gs) some
      ∙ listed_groups_suffice (listed entries) user (Some console) (groups_of p.connects user.id)
      ∙ ap (λ (es : List Entry). held (listed es) user (Some console) (groups_of p.connects user.id)) list

  -- by all groups
  pub by_groups : (groups : List (List ℕ)) (most : ℕ) (found : Level) → groups ≡ take most (groups_of p.connects user.id) → length groups < most
      → found ≡ held (with_list p profile) user (Some console) groups → found ≡ held_in p profile user console
  by_groups groups most found all few is = is ∙ ap (λ (gs : List (List ℕ)). held (with_list p profile) user (Some console) gs) (whole groups _ most all few)

  -- by the levels of the entries for every console and for the console alone
  pub by_levels : (groups : List (List ℕ)) (plain conditional : Option Level)
      → plain ≡ first_level (access_list p profile.class profile.pattern) None user groups
      → conditional ≡ first_level (access_list p profile.class profile.pattern) (Some console) user groups
      → higher_level (unwrap_or plain (universal_level profile user)) (unwrap_or conditional level.None) ≡ held (with_list p profile) user (Some console) groups
  unfolding held
  by_levels groups plain conditional first second =
      ap₂ (λ (a b : Option Level). higher_level (unwrap_or a (universal_level profile user)) (unwrap_or b level.None))
      first second
