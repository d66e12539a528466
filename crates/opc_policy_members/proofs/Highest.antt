-- The higher of several levels, in whatever order they are taken.
use Rattle.std.proofs.Common.{◌≡◌, ℕ, cond, nat_le, Option, Some, None, refl, arith}
use Rattle.std.proofs.lemmas.Bool.Decides.{nat_tests}
use Rattle.opc_names.specs.declared.level.Level.{Level}
use Rattle.opc_names.specs.Authority.{level_rank}
use Rattle.opc_policy_members.specs.Access.{higher}

choice : {A : Type 0} (f : A → ℕ) (a b c : A)
    → cond (nat_le (f c) (f (cond (nat_le (f b) (f a)) a b))) (cond (nat_le (f b) (f a)) a b) c ≡ cond
    (nat_le (f (cond (nat_le (f c) (f b)) b c)) (f a)) a (cond (nat_le (f c) (f b)) b c)
choice f a b c = grind (arith, nat_tests)

pub higher_assoc : (a b c : Option Level) → higher (higher a b) c ≡ higher a (higher b c)
higher_assoc None b c = refl
higher_assoc (Some a) None c = refl
higher_assoc (Some a) (Some b) None = refl
higher_assoc (Some a) (Some b) (Some c) = λ i. Some (choice level_rank a b c i)
