-- What the candidates that are loaded for many lines rule.
use Rattle.std.proofs.Common.{
  ◌≡◌,
  ℕ,
  ◌<◌,
  Bool,
  true,
  false,
  cond,
  List,
  [],
  ◌∷◌,
  ◌++◌,
  map,
  filter,
  length,
  set,
  replicate,
  zero,
  suc,
  Option,
  Some,
  None,
  IfSome,
  option_map,
  Contains,
  refl,
  sym,
  ap,
  ◌∙◌,
  subst,
  arith,
  rules,
  ◌⊎◌,
  inl,
  inr,
  get_or,
  get_or-set_same,
  get_or-set_other,
}
use Rattle.std.specs.List.{slice_get}
use Rattle.std.proofs.lemmas.Bool.{cases_order}
use Rattle.std.proofs.lemmas.List.{get_or_default}
use Rattle.opc_board.specs.declared.line.Line.{Line}
use Rattle.opc_board.specs.declared.rows.ConsoleRow.{ConsoleRow}
use Rattle.opc_names.specs.Authority.{same_class}
use Rattle.opc_names.specs.declared.class.Class.{Class}
use Rattle.opc_names.specs.declared.class.Class.TheVariants.{Opercmds}
use Rattle.opc_names.specs.declared.level.Level.{Level}
use Rattle.opc_policy.proofs.MostSpecific.{of_filter}
use Rattle.opc_policy.specs.Deciding.{covering, deciding, first_of, first_with}
use Rattle.opc_policy.specs.Rulings.{ruling as policy_ruling, ruling_at}
use Rattle.opc_policy.specs.declared.ruling.Ruling.{Ruling}
use Rattle.opc_policy_members.proofs.Classes.{same_class_is}
use Rattle.opc_policy_members.specs.Members.{groups_of}
use Rattle.opc_policy_members.specs.Profiles.{is_before, of_class}
use Rattle.opc_policy_members.specs.declared.profile.Profile.{Profile}
use Rattle.opc_policy_members.specs.declared.user.User.{User}
use Rattle.opc_policy_shared.proofs.Shared.{candidates_decide}
use Rattle.opc_machine.specs.Rulings.{is_allowed, need_to_show, shown}
use Rattle.opc_state.specs.Loads.{bare}
use Rattle.opc_state.specs.State.{State, deciding_in}
use Rattle.opc_terms.specs.declared.need.Need.{Need}
use Rattle.opc_gate_rulings.proofs.Ruled.{none_rules, one_rules}
use Rattle.opc_gate_rulings.specs.Held.{class_ruling, held_in}
use Rattle.opc_gate_rulings.specs.RulingBasis.{IsRulingBasis}
use Rattle.opc_gate_rulings.specs.Shared.{AreKnown, AreLoaded, opercmds}
use Rattle.opc_gate_rulings.specs.declared.ruling.RulingBasis.TheVariants as basis

-- ---- profiles without their access lists

filter_bare : (test : Profile → Bool) (ps : List Profile) → filter test (map bare ps) ≡ map bare (filter (λ p. test (bare p)) ps)
filter_bare test [] = refl
filter_bare test (p ∷ ps) =
    elim (test (bare p)) as (λ b. cond b (bare p ∷ filter test (map bare ps)) (filter test (map bare ps))
    ≡ map bare (cond b (p ∷ filter (λ q. test (bare q)) ps) (filter (λ q. test (bare q)) ps))) [
      | true ↦ ap (λ (l : List Profile). bare p ∷ l) (filter_bare test ps)
      | false ↦ filter_bare test ps
    ]

first_with_bare : (p : Profile) (o : Option Profile) → first_with (bare p) (option_map bare o) ≡ bare (first_with p o)
first_with_bare p None = refl
first_with_bare p (Some q) = go (is_before q p) refl
  where
    go : (b : Bool) → is_before q p ≡ b → first_with (bare p) (option_map bare (Some q)) ≡ bare (first_with p (Some q))
    go true e = rw e refl
    go false e = rw e refl

first_of_bare : (ps : List Profile) → first_of (map bare ps) ≡ option_map bare (first_of ps)
first_of_bare [] = refl
first_of_bare (p ∷ ps) = ap Some (ap (first_with (bare p)) (first_of_bare ps) ∙ first_with_bare p (first_of ps))

deciding_bare : (ps : List Profile) (resource : List ℕ) → deciding (map bare ps) resource ≡ option_map bare (deciding ps resource)
deciding_bare ps resource = ap first_of (filter_bare _ ps) ∙ first_of_bare (covering resource ps)

opercmds_only : (ps : List Profile) (p : Profile) → Contains (map bare (of_class Opercmds ps)) p → p.class ≡ Opercmds
opercmds_only ps p m =
    let same = filter_bare (λ (q : Profile). same_class q.class Opercmds) ps in
    same_class_is p.class Opercmds
    (of_filter (λ (q : Profile). same_class q.class Opercmds) (map bare ps) p (subst (λ (l : List Profile). Contains l p) (sym same) m)).1

-- ---- the candidate that decides

decided : (s : State) (beginning rest resource : List ℕ) (candidates : List Profile) → AreLoaded s beginning candidates
    → resource ≡ beginning ++ rest → deciding candidates resource ≡ option_map bare (deciding_in s.policy Opercmds resource)
decided s beginning rest resource candidates loaded is =
    ap (deciding candidates) is
    ∙ candidates_decide (opercmds s) candidates Opercmds beginning rest loaded.valid (opercmds_only s.policy.profiles) loaded.loaded
    ∙ ap (deciding (opercmds s)) (sym is)
    ∙ deciding_bare (of_class Opercmds s.policy.profiles) resource

module _ (s : State) (beginning rest resource : List ℕ) (candidates : List Profile) (loaded : AreLoaded s beginning candidates)
    (is : resource ≡ beginning ++ rest) (user : User) (console : List ℕ) (needed : Level) where
  abbrev Rules : Option Ruling → Type 0
  Rules r = r ≡ class_ruling true (deciding_in s.policy Opercmds resource) user (Some console) (groups_of s.policy.connects user.id) needed

  pub none_among : deciding candidates resource ≡ None → Rules None
  none_among none = none_rules s Opercmds resource user console needed (sym none ∙ decided s beginning rest resource candidates loaded is)

  pub one_among : (p : Profile) → Some p ≡ deciding candidates resource → Rules (Some (ruling_at p (held_in s.policy p user console) needed))
  one_among p one = one_rules s Opercmds resource user console needed loaded.keyed p (one ∙ decided s beginning rest resource candidates loaded is)

-- ---- the levels that are known

same_profile : (p q : Profile) → (let o : Option Profile = Some p in o) ≡ Some q → p ≡ q
same_profile p q h = search (rules, h)

module _ (s : State) (user : User) (console : List ℕ) (candidates : List Profile) where
  abbrev IsRight : Profile → Option Level → Type 0
  IsRight p known = IfSome known (λ level. level ≡ held_in s.policy p user console)

  pub known_there : (levels : List (Option Level)) (place : ℕ) (p : Profile) (level : Level) (known : Option Level)
      → AreKnown s user console candidates levels → slice_get candidates place ≡ Some p → place < length levels
      → get_or levels place known ≡ known → known ≡ Some level → level ≡ held_in s.policy p user console
  known_there levels place p level known right here there at is =
      subst (IsRight p) (get_or_default levels place None known there ∙ (at ∙ is)) (right place p here)

  pub one_known : (levels : List (Option Level)) (place : ℕ) (p : Profile) (level : Level) → place < length levels
      → slice_get candidates place ≡ Some p → level ≡ held_in s.policy p user console
      → AreKnown s user console candidates levels → AreKnown s user console candidates (set levels place (Some level))
  one_known levels place p level there here right known k q is = go (cases_order k place)
    where
      other : (k ≡ place → ⊥) → IsRight q (get_or (set levels place (Some level)) k None)
      other ne = rw get_or-set_other (known k q is)

      go : (k ≡ place) ⊎ ((k < place) ⊎ (place < k)) → IsRight q (get_or (set levels place (Some level)) k None)
      go (inl e) =
          let same : p ≡ q = same_profile p q (sym here ∙ (ap (slice_get candidates) (sym e) ∙ is)) in
          rw (e, get_or-set_same levels place (Some level) None there) (subst (λ (x : Profile). IsRight x (Some level)) same right)
      go (inr (inl l)) = other (λ e. omega (arith, l, e))
      go (inr (inr l)) = other (λ e. omega (arith, l, e))

  nothing : (n k : ℕ) → get_or (replicate n (let o : Option Level = None in o)) k None ≡ None
  nothing zero k = refl
  nothing (suc n) zero = refl
  nothing (suc n) (suc k) = nothing n k

  pub none_known : (n : ℕ) (levels : List (Option Level)) → levels ≡ replicate n None → AreKnown s user console candidates levels
  none_known n levels is k q e = rw (is, nothing n k) tt

-- ---- whether a line is shown

pub shown_by : (s : State) (c : ConsoleRow) (line : Line) (need : Need) (user : User) (r : Ruling) → Some need ≡ need_to_show line.item
    → IsRulingBasis s c (basis.User user)
    → r ≡ policy_ruling true (deciding_in s.policy Opercmds need.resource) (Some user) (Some c.name) (groups_of s.policy.connects user.id) c.auth need
    → is_allowed r ≡ shown s c line
shown_by s c line need user r is how so = rw (← is, how.0, how.1, how.2, so) refl
