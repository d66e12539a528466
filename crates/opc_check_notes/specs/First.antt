-- What is found first in a list.
use Rattle.std.specs.Prelude.{ℕ, List, [], ◌∷◌, Option, Some, None, if◌then◌else◌}
use Rattle.std.specs.Option.{option_or}
use Rattle.std.specs.Str.{bytes_eq}

abbrev pub first_of : {A B : Type 0} → (A → Option B) → List A → Option B
first_of f [] = None
first_of f (x ∷ xs) = option_or (f x) (first_of f xs)

-- and what is found last
abbrev pub last_of : {A B : Type 0} → (A → Option B) → List A → Option B
last_of f [] = None
last_of f (x ∷ xs) = option_or (last_of f xs) (f x)

-- what is paired with a name, if a pair has this name
abbrev pub paired : {B : Type 0} → List ℕ → Option (List ℕ × B) → Option B
paired name None = None
paired name (Some pair) = if bytes_eq pair.0 name then Some pair.1 else None
