-- What holds of an option, by its two cases.
use Rattle.std.proofs.Common.{◌≡◌, Option, Some, None, MatchOption, refl}
use Rattle.std.specs.Prelude.{IfSome}

pub by_cases : {A X : Type 0} (Y : A → Type 0) (o : Option A) → IfSome o Y → (o ≡ None → X) → MatchOption o X Y
by_cases Y None some none = none refl
by_cases Y (Some a) some none = some
