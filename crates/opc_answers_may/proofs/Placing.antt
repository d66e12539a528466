-- The profile of the pattern at a place.
use Rattle.std.proofs.Common.{◌≡◌, ◌∙◌, ap, sym, refl, ℕ, Bool, true, false, ◌&&◌, cond, List, [], ◌∷◌, Option, Some, None, subst}
use Rattle.std.specs.List.{slice_get}
use Rattle.std.specs.Option.{option_and_then, option_map}
use Rattle.std.specs.Prelude.{find, if◌then◌else◌}
use Rattle.std.specs.Str.{bytes_eq}
use Rattle.std.proofs.lemmas.Option.{same_Some}
use Rattle.std.proofs.lemmas.Slice.Eq.{bytes_eq-Decides}
use Rattle.opc_names.specs.Authority.{same_class}
use Rattle.opc_names.specs.Patterns.{covers_text}
use Rattle.opc_names.specs.declared.class.Class.{Class}
use Rattle.opc_names.specs.declared.class.Class.TheVariants.{Opercmds}
use Rattle.opc_policy.proofs.InOrder.{find-decides}
use Rattle.opc_policy.specs.Deciding.{deciding}
use Rattle.opc_policy.specs.Explained.{is_covering}
use Rattle.opc_policy_members.specs.declared.policy.Policy.{Policy}
use Rattle.opc_policy_members.specs.declared.profile.Profile.{Profile}
use Rattle.opc_policy_members.specs.Profiles.{is_of, of_class, profile_of}
use Rattle.opc_policy_members.specs.Taken.{is_active}
use Rattle.opc_policy_deciders.specs.Decided.{pattern_of}
use Rattle.opc_answers_may.specs.Commands.{profile_at}
use Rattle.opc_answers_may.specs.MayLaws.{DecidesAtItsPlace}

-- what is found passes
passes : (test : Profile → Bool) (ps : List Profile) (q : Profile) → find test ps ≡ Some q → test q ≡ true
passes test [] q found = cc
passes test (p ∷ ps) q found = go (test p) refl found (passes test ps q)
  where
    go : (b : Bool) → test p ≡ b → cond b (Some p) (find test ps) ≡ Some q → (find test ps ≡ Some q → test q ≡ true) → test q ≡ true
    go true is found later = sym (ap test (same_Some _ _ found)) ∙ is
    go false is found later = later found

both : (a b : Bool) → (a && b) ≡ true → (a ≡ true) × (b ≡ true)
both true b h = (refl, h)
both false b h = cc

itself : (text : List ℕ) → bytes_eq text text ≡ true
itself text = (bytes_eq-Decides text text).1 refl

-- the first profile that covers is the one of its pattern: another one of the pattern would cover as well
pub is_the_one : (class : Class) (resource : List ℕ) (ps : List Profile) (q : Profile) → find (is_covering class resource) ps ≡ Some q
    → find (is_of class q.pattern) ps ≡ Some q
is_the_one class resource [] q found = cc
is_the_one class resource (p ∷ ps) q found =
    go (same_class p.class class) (covers_text p.pattern resource) (bytes_eq p.pattern q.pattern) refl refl refl found
    (passes (is_covering class resource) (p ∷ ps) q found) (is_the_one class resource ps q)
  where
    go : (a b c : Bool) → same_class p.class class ≡ a → covers_text p.pattern resource ≡ b → bytes_eq p.pattern q.pattern ≡ c
        → cond (a && b) (Some p) (find (is_covering class resource) ps) ≡ Some q → is_covering class resource q ≡ true
        → (find (is_covering class resource) ps ≡ Some q → find (is_of class q.pattern) ps ≡ Some q)
        → cond (a && c) (Some p) (find (is_of class q.pattern) ps) ≡ Some q
    go false b c of covers same found passed later = later found
    go true true true of covers same found passed later = found
    go true true false of covers same found passed later =
        let bad : bytes_eq p.pattern q.pattern ≡ true =
        subst (λ (x : Profile). bytes_eq p.pattern x.pattern ≡ true) (same_Some p q found) (itself p.pattern) in
        let no : true ≡ false = sym bad ∙ same in cc
    go true false true of covers same found passed later =
        let here : p.pattern ≡ q.pattern = (bytes_eq-Decides p.pattern q.pattern).0 same in
        let bad : covers_text p.pattern resource ≡ true =
        ap (λ t. covers_text t resource) here ∙ (both (same_class q.class class) (covers_text q.pattern resource) passed).1 in
        let no : true ≡ false = sym bad ∙ covers in cc
    go true false false of covers same found passed later = later found

by_decided : (p : Policy) (patterns : List (List ℕ)) (place : ℕ) (decided : Option Profile)
    → ((q : Profile) → decided ≡ Some q → profile_of p.profiles Opercmds q.pattern ≡ Some q)
    → option_map pattern_of decided ≡ slice_get patterns place → profile_at p patterns place ≡ decided
by_decided p patterns place None stored at =
    sym (ap (option_and_then (λ (pattern : List ℕ). profile_of p.profiles Opercmds pattern)) at)
by_decided p patterns place (Some q) stored at =
    sym (ap (option_and_then (λ (pattern : List ℕ). profile_of p.profiles Opercmds pattern)) at) ∙ stored q refl

pub decides_at_its_place : DecidesAtItsPlace
decides_at_its_place p patterns resource place are at = go (is_active p.active Opercmds) refl at
  where
    go : (b : Bool) → is_active p.active Opercmds ≡ b
        → option_map pattern_of (deciding (if b then of_class Opercmds p.profiles else []) resource) ≡ slice_get patterns place
        → profile_at p patterns place ≡ (if b then deciding (of_class Opercmds p.profiles) resource else None)
    go true is at =
        by_decided p patterns place (deciding (of_class Opercmds p.profiles) resource) (λ q found. is_the_one Opercmds resource p.profiles q
        (find-decides Opercmds resource p.profiles are.in_order ∙ found)) at
    go false is at = by_decided p patterns place None (λ q found. cc) at
