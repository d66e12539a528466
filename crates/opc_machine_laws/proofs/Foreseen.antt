-- What an explanation of access means.
use Rattle.std.proofs.Common.{◌≡◌, ◌↔◌, ℕ, List, Option, Some, None, Result, Ok, Contains, map, refl, sym, ap, subst, ◌∙◌, rules}
use Rattle.std.specs.Option.{option_and_then}
use Rattle.opc_names.specs.declared.class.Class.{Class}
use Rattle.opc_names.specs.declared.class.Class.TheVariants.{Opercmds}
use Rattle.opc_names.specs.declared.level.Level.{Level}
use Rattle.opc_names.specs.Authority.{same_class}
use Rattle.opc_names.specs.Patterns.{covers_text}
use Rattle.opc_terms.specs.declared.fault.Fault.{Fault}
use Rattle.opc_policy.specs.declared.explained.Explained.{Explained}
use Rattle.opc_policy.specs.Deciding.{covering, deciding}
use Rattle.opc_policy.specs.Explained.{covering_patterns, explained_to, explanation}
use Rattle.opc_policy.specs.Rulings.{by_verdict, console_ruling, verdict, verdict_rule}
use Rattle.opc_policy.proofs.MostSpecific.{of_filter, to_filter}
use Rattle.opc_policy_members.specs.declared.policy.Policy.{Policy}
use Rattle.opc_policy_members.specs.declared.profile.Profile.{Profile}
use Rattle.opc_policy_members.specs.declared.user.User.{User}
use Rattle.opc_policy_members.specs.Members.{groups_of, user_of}
use Rattle.opc_policy_members.specs.Profiles.{of_class}
use Rattle.opc_policy_members.specs.Taken.{is_active}
use Rattle.opc_state.specs.State.{State}
use Rattle.opc_machine.specs.Rulings.{access_ruling, acting, acting_user, denied_or}
use Rattle.opc_machine_laws.specs.ExplainingLaws.{CoversIt, ExplanationsForesee, ExplanationsListWhatCovers, ExplanationsReadSo}
use Rattle.opc_machine_laws.proofs.Changing.{made_of, makes}
use Rattle.opc_machine_laws.proofs.Keys.{class_itself, same_classes}
use Rattle.opc_machine_laws.proofs.Stored.{user_found}

module _ (p : Policy) (class : Class) (resource id : List ℕ) (console : Option (List ℕ)) (needed : Level) where
  -- what is explained to a user
  abbrev told : User → Explained
  told user = record {
    covering = covering_patterns class resource p.profiles;
    verdict = verdict (is_active p.active class) (deciding (of_class class p.profiles) resource) user console (groups_of p.connects id) needed;
    rule = verdict_rule (is_active p.active class) (deciding (of_class class p.profiles) resource) user console (groups_of p.connects id) needed;
  }

  is_told : (user : User) (e : Explained) → user_of p.users id ≡ Some user → explanation p class resource id console needed ≡ Ok e → told user ≡ e
  is_told user e stored is =
      let known : ◌≡◌ {A = Result Explained Fault} (Ok (told user)) (Ok e) =
      ap (λ u. explained_to u p class resource id console needed) (sym stored) ∙ is in
      cc

  covers : (o : Option User) (e : Explained) → explained_to o p class resource id console needed ≡ Ok e
      → covering_patterns class resource p.profiles ≡ e.covering
  covers None e is = absurd (search (rules, is))
  covers (Some user) e is =
      let known : ◌≡◌ {A = Result Explained Fault} (Ok (told user)) (Ok e) = is in
      let same : told user ≡ e = cc in
      ap (λ x. x.covering) same

found_by : (s : State) (o : Option (List ℕ)) (user : User) → option_and_then (user_of s.policy.users) o ≡ Some user
    → user_of s.policy.users user.id ≡ Some user
found_by s None user h = absurd (cc)
found_by s (Some id) user h = ap (user_of s.policy.users) (user_found s.policy id user h).1 ∙ h

pub foresee : ExplanationsForesee
foresee s console user need e free acts is =
    let same : told s.policy Opercmds need.resource user.id (Some console.name) need.level user ≡ e =
    is_told s.policy Opercmds need.resource user.id (Some console.name) need.level user e
    (found_by s (acting_user s console) user acts) is in
    ap (λ o. denied_or o (access_ruling s console (acting s console) need)) free
    ∙ ap (λ u. access_ruling s console u need) acts
    ∙ ap (λ x. by_verdict x.verdict x.rule (console_ruling console.auth need)) same

module _ (p : Policy) (class : Class) (resource pattern : List ℕ) where
  abbrev listed : List Profile
  listed = covering resource (of_class class p.profiles)

  covers_it : Contains (map (λ (q : Profile). q.pattern) listed) pattern → CoversIt p class resource pattern
  covers_it h =
      let one = made_of (λ (q : Profile). q.pattern) listed pattern h in
      let covering = of_filter (λ (q : Profile). covers_text q.pattern resource) (of_class class p.profiles) one.0 one.2 in
      let stored = of_filter (λ (q : Profile). same_class q.class class) p.profiles one.0 covering.0 in
      record {
        profile = one.0;
        stored = stored.0;
        of_class = same_classes one.0.class class stored.1;
        spelled = sym one.1;
        covers = covering.1;
      }

  is_listed : CoversIt p class resource pattern → Contains (map (λ (q : Profile). q.pattern) listed) pattern
  is_listed c = subst (Contains (map (λ (q : Profile). q.pattern) listed)) c.spelled
      (makes (λ (q : Profile). q.pattern) listed c.profile
      (to_filter (λ (q : Profile). covers_text q.pattern resource) (of_class class p.profiles) c.profile
      (to_filter (λ (q : Profile). same_class q.class class) p.profiles c.profile c.stored
      (ap (λ k. same_class k class) c.of_class ∙ class_itself class)) c.covers))

pub list_what_covers : ExplanationsListWhatCovers
list_what_covers p class resource id pattern console needed e is =
    let same : covering_patterns class resource p.profiles ≡ e.covering = covers p class resource id console needed (user_of p.users id) e is in
    subst (λ patterns. Contains patterns pattern ↔ CoversIt p class resource pattern) same
    (covers_it p class resource pattern, is_listed p class resource pattern)

pub read_so : ExplanationsReadSo
read_so = record { text = refl; verdicts = refl }
