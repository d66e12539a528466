-- Why a ruling is what it is.
use Rattle.std.proofs.Common.{
  ◌≡◌,
  ◌⊎◌,
  inl,
  inr,
  ℕ,
  Bool,
  true,
  false,
  ◌&&◌,
  if◌then◌else◌,
  List,
  [],
  ◌∷◌,
  Option,
  Some,
  None,
  IfSome,
  refl,
  rules,
  sym,
  ap,
  subst,
  ◌∙◌,
}
use Rattle.std.specs.List.{AllByRecursion}
use Rattle.std.specs.Option.{is_none}
use Rattle.opc_names.specs.Authority.{enters, same_class}
use Rattle.opc_names.specs.declared.class.Class.{Class}
use Rattle.opc_names.specs.declared.class.Class.TheVariants.{Console, Opercmds}
use Rattle.opc_names.specs.declared.level.Level.{Level}
use Rattle.opc_names.specs.declared.level.Level.TheVariants.{Read}
use Rattle.opc_names.specs.Patterns.{covers_text}
use Rattle.opc_policy_members.proofs.Classes.{same_class_is}
use Rattle.opc_terms.specs.declared.mode.Mode.{Mode}
use Rattle.opc_terms.specs.declared.mode.Mode.TheVariants.{Auto, Optional, Required}
use Rattle.opc_terms.specs.declared.need.Need.{Need}
use Rattle.opc_policy_members.specs.declared.profile.Profile.{Profile}
use Rattle.opc_terms.specs.declared.rule.Rule.{Rule}
use Rattle.opc_terms.specs.declared.rule.Rule.TheVariants as rule
use Rattle.opc_policy.specs.declared.ruling.Ruling.{Ruling}
use Rattle.opc_policy.specs.declared.ruling.Ruling.TheVariants.{Allowed, Denied}
use Rattle.opc_policy_members.specs.declared.user.User.{User}
use Rattle.opc_policy.specs.declared.verdict.Verdict.TheVariants as verdicts
use Rattle.opc_policy.specs.Deciding.{covering, deciding, first_of, first_with}
use Rattle.opc_policy_members.specs.Profiles.{is_before, of_class}
use Rattle.opc_policy_members.specs.Members.{groups_of}
use Rattle.opc_policy.specs.Rulings.{by_verdict, console_ruling, verdict, verdict_rule}
use Rattle.opc_policy_members.specs.Taken.{is_active}
use Rattle.opc_rows.proofs.Orders.{all_filter}
use Rattle.opc_board.specs.declared.rows.ConsoleRow.{ConsoleRow}
use Rattle.opc_state.specs.State.{State, deciding_in}
use Rattle.opc_machine.specs.Rulings.{access_ruling, acting, console_access, denied_or, is_required, is_revoked, logon_denial, logon_ruling}
use Rattle.opc_machine_laws.specs.RulingLaws.{
  IsByProfile,
  IsDeniedRevoked,
  IsDeniedUnattended,
  IsFree,
  IsRuledByConsole,
  IsRuledByLogon,
  IsRuledByProfile,
  IsUndecided,
  LogonRuleSaysWhy,
  LogonRulingsSayWhy,
  RulingsSayWhy,
  said,
}

-- the first of some is as all of them are
first_is_one : (P : Profile → Type 0) (profiles : List Profile) → AllByRecursion P profiles → IfSome (first_of profiles) P
first_is_one P [] all = tt
first_is_one P (p ∷ profiles) all = go (first_of profiles) (first_is_one P profiles all.1)
  where
    pick : (b : Bool) (q : Profile) → P q → P (if b then q else p)
    pick true q h = h
    pick false q h = all.0

    go : (o : Option Profile) → IfSome o P → P (first_with p o)
    go None h = all.0
    go (Some q) h = pick (is_before q p) q h

of_this_class : (class : Class) (profiles : List Profile) → AllByRecursion (λ (p : Profile). p.class ≡ class) (of_class class profiles)
of_this_class class [] = tt
of_this_class class (p ∷ profiles) = go (same_class p.class class) refl (of_this_class class profiles)
  where
    go : (b : Bool) → same_class p.class class ≡ b
        → AllByRecursion (λ (q : Profile). q.class ≡ class) (of_class class profiles)
        → AllByRecursion (λ (q : Profile). q.class ≡ class)
        (if b then p ∷ of_class class profiles else of_class class profiles)
    go true e rest = (same_class_is p.class class e, rest)
    go false e rest = rest

-- the profile that decides in a class is of that class
pub decides_in_class : (profiles : List Profile) (class : Class) (resource : List ℕ)
    → IfSome (deciding (of_class class profiles) resource) (λ p. p.class ≡ class)
decides_in_class profiles class resource =
    first_is_one (λ p. p.class ≡ class) (covering resource (of_class class profiles))
    (all_filter (λ p. p.class ≡ class) (λ p. covers_text p.pattern resource) (of_class class profiles) (of_this_class class profiles))

of_decided : (class : Class) (o : Option Profile) → IfSome o (λ p. p.class ≡ class) → (p : Profile) → o ≡ Some p → p.class ≡ class
of_decided class (Some q) h p is = let same : q ≡ p = search (rules, is) in sym (ap (λ (x : Profile). x.class) same) ∙ h
of_decided class None h p is = absurd (search (rules, is))

said_by : (b : Bool) (why : Rule) (other : Ruling) → by_verdict (if b then verdicts.Allowed else verdicts.Denied) why other ≡ said b why
said_by true why other = refl
said_by false why other = refl

-- by the profile that decides, or by what decides if none does
by_profile : (s : State) (c : ConsoleRow) (user : User) (class : Class) (resource : List ℕ) (needed : Level)
    (other : Ruling) (a : Bool) → is_active s.policy.active class ≡ a → (d : Option Profile)
    → deciding_in s.policy class resource ≡ d
    → IsByProfile s c user class resource needed
    (by_verdict (verdict a d user (Some c.name) (groups_of s.policy.connects user.id) needed)
    (verdict_rule a d user (Some c.name) (groups_of s.policy.connects user.id) needed) other)
    ⊎ (IsUndecided s class resource
    × (by_verdict (verdict a d user (Some c.name) (groups_of s.policy.connects user.id) needed)
    (verdict_rule a d user (Some c.name) (groups_of s.policy.connects user.id) needed) other ≡ other))
by_profile s c user class resource needed other false active d decides = inr (inl active, refl)
by_profile s c user class resource needed other true active None decides = inr (inr decides, refl)
by_profile s c user class resource needed other true active (Some p) decides = inl (record {
  profile = p;
  active = active;
  decides = decides;
  of_class = of_decided class (deciding_in s.policy class resource) (decides_in_class s.policy.profiles class resource) p decides;
  says = said_by _ _ other;
})

-- the logon rule

unattended : (m : Mode) (user : Option (List ℕ)) → (is_required m && is_none user) ≡ true → (m ≡ Required) × (user ≡ None)
unattended Required None h = (refl, refl)
unattended Required (Some u) h = absurd (search (rules, h))
unattended Auto user h = absurd (search (rules, h))
unattended Optional user h = absurd (search (rules, h))

attended : (m : Mode) (user : Option (List ℕ)) → (is_required m && is_none user) ≡ false → (m ≡ Required) × (user ≡ None) → ⊥
attended m user h is = search (rules, sym h ∙ ap (λ x. is_required x && is_none user) is.0 ∙ ap is_none is.1)

revoked_one : (o : Option User) → is_revoked o ≡ true → (user : User) × (o ≡ Some user) × (user.revoked ≡ true)
revoked_one (Some user) h = (user, refl, h)
revoked_one None h = absurd (search (rules, h))

not_revoked : (o : Option User) → is_revoked o ≡ false → (user : User) → o ≡ Some user → user.revoked ≡ false
not_revoked o h user is = sym (ap is_revoked is) ∙ h

abbrev AtLogon : State → ConsoleRow → Option Rule → Type 0
AtLogon s c denial = IsDeniedUnattended c denial ⊎ (IsDeniedRevoked s c denial ⊎ IsFree s c denial)

pub at_logon : LogonRuleSaysWhy
at_logon s c = go (is_required c.mode && is_none c.user) refl (is_revoked (acting s c)) refl
  where
    go : (a : Bool) → (is_required c.mode && is_none c.user) ≡ a → (b : Bool) → is_revoked (acting s c) ≡ b
        → AtLogon s c (if a then Some rule.LogonRequired else (if b then Some rule.Revoked else None))
    go true nobody b revoked = inl (record { unattended = unattended c.mode c.user nobody; says = refl })
    go false somebody true revoked =
        let one = revoked_one (acting s c) revoked in inr (inl (record {
          attended = attended c.mode c.user somebody;
          user = one.0;
          acts = one.1;
          revoked = one.2;
          says = refl;
        }))
    go false somebody false free = inr (inr (record { attended = attended c.mode c.user somebody; trusted = not_revoked (acting s c) free; says = refl }))

console_said : (b : Bool) (why : Rule) → (if b then Allowed why else Denied why) ≡ said b why
console_said true why = refl
console_said false why = refl

abbrev IsRuled : State → ConsoleRow → Need → Ruling → Type 0
IsRuled s c need r = IsRuledByLogon s c r ⊎ (IsRuledByProfile s c need r ⊎ IsRuledByConsole s c need r)

pub rulings_say_why : RulingsSayWhy
rulings_say_why s c need = go (logon_denial s c) refl (acting s c) refl
  where
    console : (acting s c ≡ None) ⊎ IsUndecided s Opercmds need.resource → logon_denial s c ≡ None → (r : Ruling)
        → r ≡ console_ruling c.auth need → IsRuled s c need r
    console why free r is = inr (inr (record {
      free = free;
      undecided = why;
      says = is ∙ console_said (enters c.auth need.group) (rule.ConsoleGroup need.group c.auth);
    }))

    user_ruled : logon_denial s c ≡ None → (user : User) → acting s c ≡ Some user → (r : Ruling)
        → IsByProfile s c user Opercmds need.resource need.level r
        ⊎ (IsUndecided s Opercmds need.resource × (r ≡ console_ruling c.auth need)) → IsRuled s c need r
    user_ruled free user is r (inl by) = inr (inl (record { free = free; user = user; acts = is; by = by }))
    user_ruled free user is r (inr none) = console (inr none.0) free r none.1

    go : (d : Option Rule) → logon_denial s c ≡ d → (u : Option User) → acting s c ≡ u → IsRuled s c need (denied_or d (access_ruling s c u need))
    go (Some why) denied u is = inl (record { why = why; denied = denied; says = refl })
    go None free None is = console (inl is) free (console_ruling c.auth need) refl
    go None free (Some user) is =
        user_ruled free user is (access_ruling s c (Some user) need)
        (by_profile s c user Opercmds need.resource need.level (console_ruling c.auth need)
        (is_active s.policy.active Opercmds) refl (deciding_in s.policy Opercmds need.resource) refl)

pub logon_rulings_say_why : LogonRulingsSayWhy
logon_rulings_say_why s c user = record {
  revoked = λ is. ap (λ b. if b then Denied rule.Revoked else console_access s c user) is;
  trusted = λ is. go (logon_ruling s c user) (ap (λ b. if b then Denied rule.Revoked else console_access s c user) is);
}
  where
    go : (r : Ruling) → r ≡ console_access s c user → IsByProfile s c user Console c.name Read r ⊎ (IsUndecided s Console c.name × (r ≡ Allowed rule.NoProfile))
    go r is =
        subst (λ x. IsByProfile s c user Console c.name Read x ⊎ (IsUndecided s Console c.name × (x ≡ Allowed rule.NoProfile))) (sym is)
        (by_profile s c user Console c.name Read (Allowed rule.NoProfile) (is_active s.policy.active Console) refl (deciding_in s.policy Console c.name) refl)
