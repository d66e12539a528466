-- Checks of the options of a command, in the order in which they are made.
use Rattle.std.specs.Prelude.{
  ◌≡◌,
  Bool,
  true,
  false,
  List,
  [],
  ◌∷◌,
  Option,
  Some,
  None,
  Result,
  Ok,
  Err,
  if◌then◌else◌,
}
use Rattle.opc_cli_words.specs.declared.mistake.Mistake.{Mistake}

-- a mistake, and whether it was not made
abbrev pub Check : Type 0
Check = Mistake × Bool

-- the first mistake that was made
abbrev pub first_mistake : List Check → Option Mistake
first_mistake [] = None
first_mistake (check ∷ checks) = if check.1 then first_mistake checks else Some check.0

-- A value was read, or the mistake was answered.
abbrev pub IsReadAs : {A : Type 0} → (A → Type 0) → Check → Result A Mistake → Type 0
IsReadAs is check (Ok a) = is a × (check.1 ≡ true)
IsReadAs is check (Err mistake) = (mistake ≡ check.0) × (check.1 ≡ false)

-- A result passed these checks and was read, or the first mistake was answered.
abbrev pub AreReadAs : {A : Type 0} → (A → Type 0) → List Check → Result A Mistake → Type 0
AreReadAs is checks (Ok a) = is a × (first_mistake checks ≡ None)
AreReadAs is checks (Err mistake) = first_mistake checks ≡ Some mistake
