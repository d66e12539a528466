-- Rulings by the profile that decides, or by a console's authority.
use Rattle.std.proofs.Common.{◌≡◌, ℕ, Bool, true, false, List, Option, Some, None, refl, sym, ap, ◌∙◌, if◌then◌else◌}
use Rattle.std.specs.Prelude.{◌&&◌, ◌||◌, is_some}
use Rattle.std.specs.Option.{option_and_then}
use Rattle.opc_names.specs.declared.auth.Auth.{Auth}
use Rattle.opc_names.specs.declared.class.Class.TheVariants.{Opercmds}
use Rattle.opc_names.specs.Authority.{includes}
use Rattle.opc_terms.specs.declared.need.Need.{Need}
use Rattle.opc_terms.specs.declared.rule.Rule.{Rule}
use Rattle.opc_terms.specs.declared.rule.Rule.TheVariants as rules
use Rattle.opc_policy_members.specs.declared.profile.Profile.{Profile}
use Rattle.opc_policy_members.specs.declared.user.User.{User}
use Rattle.opc_policy_members.specs.Held.{held}
use Rattle.opc_policy_members.specs.Members.{groups_of, user_of}
use Rattle.opc_policy_members.specs.Taken.{is_active}
use Rattle.opc_policy.specs.declared.ruling.Ruling.{Ruling}
use Rattle.opc_policy.specs.declared.ruling.Ruling.TheVariants as rulings
use Rattle.opc_policy.specs.declared.verdict.Verdict.TheVariants.{Allowed, Denied}
use Rattle.opc_policy.specs.Rulings.{by_verdict, console_ruling, profile_rule, ruling as policy_ruling}
use Rattle.opc_board.specs.declared.rows.ConsoleRow.{ConsoleRow}
use Rattle.opc_state.specs.State.{State, deciding_in}
use Rattle.opc_machine.specs.Rulings.{access_ruling, acting, denied_or, is_required, is_revoked, own_user, ruling}
use Rattle.opc_answers.specs.Deciding.{decider}
use Rattle.opc_answers.specs.Who.{by_decider, nobody_at}

pub verdict_is : (b : Bool) (rule : Rule) (other : Ruling)
    → by_verdict (if b then Allowed else Denied) rule other ≡ (if b then rulings.Allowed rule else rulings.Denied rule)
verdict_is true rule other = refl
verdict_is false rule other = refl

decides : (active : Bool) (decided : Option Profile) (user : User) (console : Option (List ℕ)) (groups : List (List ℕ)) (auth : Auth)
    (need : Need)
    → policy_ruling active decided (Some user) console groups auth need ≡ by_decider (if active then decided else None) user console groups auth need
decides false decided user console groups auth need = refl
decides true None user console groups auth need = refl
decides true (Some p) user console groups auth need =
    verdict_is (includes (held p user console groups) need.level || p.warning) (profile_rule p user console groups need.level)
    (console_ruling auth need)

pub access_so : (s : State) (c : ConsoleRow) (user : User) (need : Need)
    → access_ruling s c (Some user) need
    ≡ by_decider (decider s.policy Opercmds need.resource) user (Some c.name) (groups_of s.policy.connects user.id) c.auth need
access_so s c user need =
    decides (is_active s.policy.active Opercmds) (deciding_in s.policy Opercmds need.resource) user (Some c.name)
    (groups_of s.policy.connects user.id) c.auth need

pub access_by : (s : State) (c : ConsoleRow) (user : User) (need : Need) (decided : Option Profile) → decided ≡ decider s.policy Opercmds need.resource
    → by_decider decided user (Some c.name) (groups_of s.policy.connects user.id) c.auth need ≡ access_ruling s c (Some user) need
access_by s c user need decided is =
    ap (λ d. by_decider d user (Some c.name) (groups_of s.policy.connects user.id) c.auth need) is ∙ sym (access_so s c user need)

-- the console's own user, by what is found at the console's name
pub own_found : (users : List User) (name : List ℕ) (o : Option User) → o ≡ user_of users name
    → option_and_then (user_of users) (if is_some o then Some name else None) ≡ o
own_found users name None is = refl
own_found users name (Some u) is = sym is

pub own_so : (o : Option User) (name : List ℕ) → is_some (if is_some o then Some name else None) ≡ is_some o
own_so None name = refl
own_so (Some u) name = refl

-- the ruling at an unattended console: the first of these that applies
module _ (s : State) (c : ConsoleRow) (need : Need) where
  pub where_required : is_required c.mode ≡ true → ruling s (nobody_at c) need ≡ rulings.Denied rules.LogonRequired
  where_required is = ap (λ b. denied_or (if b && true then Some rules.LogonRequired else
      (if is_revoked (acting s (nobody_at c)) then Some rules.Revoked else None)) (access_ruling s (nobody_at c) (acting s (nobody_at c)) need)) is

  pub by_own : (user : Option User) → is_required c.mode ≡ false → option_and_then (user_of s.policy.users) (own_user s c) ≡ user
      → ruling s (nobody_at c) need
      ≡ denied_or (if is_revoked user then Some rules.Revoked else None) (access_ruling s (nobody_at c) user need)
  by_own user is acts =
      ap (λ b. denied_or (if b && true then Some rules.LogonRequired else
      (if is_revoked (acting s (nobody_at c)) then Some rules.Revoked else None)) (access_ruling s (nobody_at c) (acting s (nobody_at c)) need)) is
      ∙ ap (λ u. denied_or (if is_revoked u then Some rules.Revoked else None) (access_ruling s (nobody_at c) u need)) acts

  pub where_revoked : (user : Option User) → is_required c.mode ≡ false → option_and_then (user_of s.policy.users) (own_user s c) ≡ user
      → is_revoked user ≡ true → ruling s (nobody_at c) need ≡ rulings.Denied rules.Revoked
  where_revoked user is acts revoked =
      by_own user is acts ∙ ap (λ b. denied_or (if b then Some rules.Revoked else None) (access_ruling s (nobody_at c) user need)) revoked

  pub where_allowed_to_act : (user : Option User) → is_required c.mode ≡ false
      → option_and_then (user_of s.policy.users) (own_user s c) ≡ user
      → is_revoked user ≡ false → ruling s (nobody_at c) need ≡ access_ruling s c user need
  where_allowed_to_act user is acts active =
      by_own user is acts ∙ ap (λ b. denied_or (if b then Some rules.Revoked else None) (access_ruling s (nobody_at c) user need)) active
      ∙ same user
    where
      same : (u : Option User) → access_ruling s (nobody_at c) u need ≡ access_ruling s c u need
      same None = refl
      same (Some u) = refl
