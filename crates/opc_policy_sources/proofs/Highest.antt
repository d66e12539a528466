-- The first of the highest of several, in whatever order they are taken.
use Rattle.std.proofs.Common.{◌≡◌, ℕ, cond, nat_le, Option, Some, None, refl, arith}
use Rattle.std.proofs.lemmas.Bool.Decides.{nat_tests}
use Rattle.opc_names.specs.Authority.{level_rank}
use Rattle.opc_policy_sources.specs.declared.sources.HeldLevel.{HeldLevel}
use Rattle.opc_policy_sources.specs.Sources.{first_highest}

choice : {A : Type 0} (f : A → ℕ) (a b c : A)
    → cond (nat_le (f c) (f (cond (nat_le (f b) (f a)) a b))) (cond (nat_le (f b) (f a)) a b) c ≡ cond
    (nat_le (f (cond (nat_le (f c) (f b)) b c)) (f a)) a (cond (nat_le (f c) (f b)) b c)
choice f a b c = grind (arith, nat_tests)

pub first_highest_assoc : (a b c : Option HeldLevel) → first_highest (first_highest a b) c ≡ first_highest a (first_highest b c)
first_highest_assoc None b c = refl
first_highest_assoc (Some a) None c = refl
first_highest_assoc (Some a) (Some b) None = refl
first_highest_assoc (Some a) (Some b) (Some c) = λ i. Some (choice (λ (h : HeldLevel). level_rank h.level) a b c i)
