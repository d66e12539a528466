-- Profiles at their classes and sort keys are in the order of their patterns.
use Rattle.std.proofs.Common.{◌≡◌, ◌≢◌, ℕ, true, false, List, [], ◌∷◌, get_or, refl, sym, ap, ◌∙◌, arith, All}
use Rattle.std.specs.Cmp.{tied_itself}
use Rattle.std.specs.Cmp.Lexicographic.{slice_cmp, nat_list_cmp_total}
use Rattle.std.specs.List.{AllByRecursion}
use Rattle.std.specs.List.Sorted.{IsStrictlySortedBy}
use Rattle.std.specs.Map.{keys_of, values_of}
use Rattle.std.specs.Ordering.{nat_cmp, is_lt, ordering_then}
use Rattle.std.specs.declared.cmp.Ordering.{Ordering}
use Rattle.std.specs.declared.cmp.Ordering.TheVariants.{Less, Equal}
use Rattle.std.proofs.lemmas.Bool.{false≢true}
use Rattle.std.proofs.lemmas.List.Elements.{All-nil, All-cons}
use Rattle.std.proofs.lemmas.List.Kept.{AllPairs-cons}
use Rattle.opc_names.specs.Names.{IsPattern}
use Rattle.opc_names.specs.Order.{sort_key}
use Rattle.opc_names.specs.contracts.class.ClassOrd.TheImpl.{ghosts}
use Rattle.opc_names.specs.declared.class.Class.{Class}
use Rattle.opc_names.specs.declared.class.Class.TheVariants.{Console, Opercmds}
use Rattle.opc_policy_members.specs.Profiles.{AreProfiles, AreMostSpecificFirst, is_before}
use Rattle.opc_policy_members.specs.Stored.{IsAtItsKey, AreByKey}
use Rattle.opc_policy_members.specs.declared.profile.Profile.{Profile}
use Rattle.opc_policy_members.proofs.ProfilesByKey.{key_cmp}

abbrev InOrder : Profile → Profile → Type 0
InOrder p q = p.class ≡ q.class → is_before p q ≡ true

abbrev Keyed : Type 0
Keyed = (Class × List ℕ) × Profile

in_one_class : (c : Class) (o : Ordering) → ordering_then (ghosts.cmp c c) o ≡ o
in_one_class Console o = refl
in_one_class Opercmds o = refl

by_key : (e f : Keyed) → IsAtItsKey e → IsAtItsKey f → key_cmp e.0 f.0 ≡ Less → InOrder e.1 f.1
by_key e f at_e at_f less same =
    ap is_lt (sym (in_one_class f.1.class (slice_cmp nat_cmp (sort_key e.1.pattern) (sort_key f.1.pattern)))
    ∙ rw (at_e.0, at_e.1, at_f.0, at_f.1, same) at less)

after : (e : Keyed) (es : List Keyed) → IsAtItsKey e → AreByKey es
    → AllByRecursion (λ (k : Class × List ℕ). key_cmp e.0 k ≡ Less) (keys_of es) → All (InOrder e.1) (values_of es)
after e [] at all less = All-nil (InOrder e.1)
after e (f ∷ es) at all less = All-cons (InOrder e.1) f.1 (values_of es) (by_key e f at all.0 less.0) (after e es at all.1 less.1)

pub values_in_order : (es : List Keyed) → AreByKey es → IsStrictlySortedBy key_cmp (keys_of es) → AreMostSpecificFirst (values_of es)
unfolding IsStrictlySortedBy
values_in_order [] all sorted = λ i j d l m. absurd (omega (arith, m))
values_in_order (e ∷ es) all sorted = AllPairs-cons InOrder e.1 (values_of es) (after e es all.0 all.1 sorted.0) (values_in_order es all.1 sorted.1)

are_patterns : (es : List Keyed) → AreByKey es → All (λ (p : Profile). IsPattern p.pattern) (values_of es)
are_patterns [] all = All-nil (λ (p : Profile). IsPattern p.pattern)
are_patterns (e ∷ es) all = All-cons (λ (p : Profile). IsPattern p.pattern) e.1 (values_of es) all.0.2 (are_patterns es all.1)

apart : (p q : Profile) → InOrder p q → p.class ≡ q.class → p.pattern ≢ q.pattern
apart p q order same e =
    let same_key : slice_cmp nat_cmp (sort_key p.pattern) (sort_key q.pattern) ≡ Equal = rw e (tied_itself nat_list_cmp_total (sort_key q.pattern)) in
    let tied : is_before p q ≡ false = ap is_lt same_key in
    false≢true (sym tied ∙ order same)

pub values_are_profiles : (es : List Keyed) → AreByKey es → IsStrictlySortedBy key_cmp (keys_of es) → AreProfiles (values_of es)
values_are_profiles es all sorted = record {
  patterns = are_patterns es all;
  distinct = λ i j d l m. apart (get_or (values_of es) i d) (get_or (values_of es) j d) (values_in_order es all sorted i j d l m);
}
