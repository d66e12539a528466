-- The highest level among the entries for a user's groups, and which levels a level includes.
use Rattle.std.proofs.Common.{◌≡◌, ℕ, zero, suc, true, cond, nat_le, List, [], ◌∷◌, Option, Some, None, unwrap_or, Contains, refl, sym, ap, subst, ◌∙◌, arith}
use Rattle.std.specs.Option.{option_or}
use Rattle.std.proofs.lemmas.Bool.Decides.{nat_tests}
use Rattle.opc_names.specs.declared.level.Level.{Level}
use Rattle.opc_names.specs.declared.level.Level.TheVariants as level
use Rattle.opc_names.specs.Authority.{includes, level_rank}
use Rattle.opc_policy_members.specs.declared.entry.Entry.{Entry}
use Rattle.opc_policy_members.specs.Access.{entry_level, everyone_level, higher, higher_level, highest_level}
use Rattle.opc_policy_members.specs.Held.{conditional_level, held, plain_level, universal_level}
use Rattle.opc_machine_laws.specs.HoldingLaws.{EachGroupCounts, LevelsIncludeThoseBelow}

above_left : {A : Type 0} (f : A → ℕ) (a b : A) (n : ℕ) → nat_le n (f a) ≡ true → nat_le n (f (cond (nat_le (f b) (f a)) a b)) ≡ true
above_left f a b n h = grind (arith, nat_tests, h)

above_right : {A : Type 0} (f : A → ℕ) (a b : A) (n : ℕ) → nat_le n (f b) ≡ true → nat_le n (f (cond (nat_le (f b) (f a)) a b)) ≡ true
above_right f a b n h = grind (arith, nat_tests, h)

itself : (l : Level) → includes l l ≡ true
itself level.None = refl
itself level.Read = refl
itself level.Update = refl
itself level.Control = refl
itself level.Alter = refl

-- the highest is at least this
abbrev IsAtLeast : Level → Option Level → Type 0
IsAtLeast l highest = (h : Level) × (highest ≡ Some h) × (includes h l ≡ true)

among : (entries : List Entry) (when : Option (List ℕ)) (groups : List (List ℕ)) (group : List ℕ) (l : Level)
    → Contains groups group → entry_level entries when group ≡ Some l → IsAtLeast l (highest_level entries when groups)
among entries when [] group l (k, low, is) at = absurd (omega (arith, low))
among entries when (x ∷ xs) group l (zero, low, is) at = go (highest_level entries when xs) refl
  where
    here : entry_level entries when x ≡ Some l
    here = ap (entry_level entries when) is ∙ at

    go : (o : Option Level) → highest_level entries when xs ≡ o → IsAtLeast l (higher (entry_level entries when x) (highest_level entries when xs))
    go None none = (l, ap (λ o. higher o (highest_level entries when xs)) here ∙ ap (higher (Some l)) none, itself l)
    go (Some m) some = (
      higher_level l m,
      ap (λ o. higher o (highest_level entries when xs)) here
          ∙ ap (higher (Some l)) some,
      above_left level_rank l m (level_rank l) (itself l),
    )
among entries when (x ∷ xs) group l (suc k, low, is) at = go (entry_level entries when x) refl (among entries when xs group l (k, omega (arith, low), is) at)
  where
    go : (o : Option Level) → entry_level entries when x ≡ o → IsAtLeast l (highest_level entries when xs)
        → IsAtLeast l (higher (entry_level entries when x) (highest_level entries when xs))
    go None none (h, most, enough) = (h, ap (λ o. higher o (highest_level entries when xs)) none ∙ most, enough)
    go (Some m) some (h, most, enough) = (
      higher_level m h,
      ap (λ o. higher o (highest_level entries when xs)) some
          ∙ ap (higher (Some m)) most,
      above_right level_rank m h (level_rank l) enough,
    )

pub each_group : EachGroupCounts
unfolding held
each_group p u console groups group l own in_it at =
    let most = among p.entries None groups group l in_it at in
    let plain : plain_level p u groups ≡ most.0 =
    ap (λ o. unwrap_or (option_or o (option_or (highest_level p.entries None groups) (everyone_level p.entries None u))) (universal_level p u)) own
    ∙ ap (λ o. unwrap_or (option_or o (everyone_level p.entries None u)) (universal_level p u)) most.1 in
    subst (λ x. includes (higher_level x (conditional_level p u console groups)) l ≡ true) (sym plain)
    (above_left level_rank most.0 (conditional_level p u console groups) (level_rank l) most.2)

pub include_those_below : LevelsIncludeThoseBelow
include_those_below level.None = refl
include_those_below level.Read = refl
include_those_below level.Update = refl
include_those_below level.Control = refl
include_those_below level.Alter = refl
