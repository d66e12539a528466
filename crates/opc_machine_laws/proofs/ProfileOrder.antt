-- The order of profiles in a state.
use Rattle.std.proofs.Common.{◌≡◌, true, List, [], ◌∷◌, arith, refl, sym, ap, ◌∙◌, is_lt}
use Rattle.std.specs.Ordering.{ordering_then}
use Rattle.std.specs.declared.cmp.Ordering.TheVariants.{Equal}
use Rattle.std.proofs.lemmas.List.Elements.{All-from_recursion}
use Rattle.std.proofs.lemmas.List.Kept.{AllPairs-cons}
use Rattle.opc_names.specs.declared.class.Class.{Class}
use Rattle.opc_names.specs.declared.class.Class.TheVariants.{Console, Opercmds}
use Rattle.opc_policy_members.specs.declared.profile.Profile.{Profile}
use Rattle.opc_policy_members.specs.Profiles.{AreMostSpecificFirst, class_cmp, is_before, pattern_cmp, profile_cmp}
use Rattle.opc_rows.proofs.Orders.{all_weaker}
use Rattle.opc_rows.specs.Ordered.{Ascends}
use Rattle.opc_machine_laws.specs.ChangingLaws.{MoreSpecificProfilesComeFirst}

compares_equal : (class : Class) → class_cmp class class ≡ Equal
compares_equal Console = refl
compares_equal Opercmds = refl

abbrev IsFirst : Profile → Profile → Type 0
IsFirst p q = p.class ≡ q.class → is_before p q ≡ true

-- in one class, by their patterns
by_patterns : (p q : Profile) → is_lt (profile_cmp p q) ≡ true → IsFirst p q
by_patterns p q h one =
    let same : class_cmp p.class q.class ≡ Equal = ap (class_cmp p.class) (sym one) ∙ compares_equal p.class in
    sym (ap (λ o. is_lt (ordering_then o (pattern_cmp p.pattern q.pattern))) same) ∙ h

in_order : (profiles : List Profile) → Ascends (λ (p q : Profile). is_lt (profile_cmp p q)) profiles → AreMostSpecificFirst profiles
in_order [] up = λ i j d lt within. absurd (omega (arith, within))
in_order (p ∷ profiles) up =
    AllPairs-cons IsFirst p profiles (All-from_recursion (IsFirst p) profiles
    (all_weaker (λ (q : Profile). is_lt (profile_cmp p q) ≡ true) (IsFirst p) (by_patterns p) profiles up.0))
    (in_order profiles up.1)

pub more_specific_first : MoreSpecificProfilesComeFirst
more_specific_first s keyed = in_order s.policy.profiles keyed.profiles
