-- Lists in order.
use Rattle.std.specs.Prelude.{Bool, true, ◌≡◌, if◌then◌else◌, List, [], ◌∷◌, MatchOption}
use Rattle.std.specs.declared.cmp.Ordering.{Ordering}
use Rattle.std.specs.List.{AllByRecursion, find}
use Rattle.std.specs.Ordering.{is_lt}

-- each element stands in this order to all later ones
abbrev pub Ascends : {A : Type 0} → (A → A → Bool) → List A → Type 0
Ascends before [] = Unit {0}
Ascends before (x ∷ xs) = AllByRecursion (λ y. before x y ≡ true) xs × Ascends before xs

-- one row's key is less than another's
abbrev pub comes_before : {K R : Type 0} → (K → K → Ordering) → (R → K) → R → R → Bool
comes_before cmp key_of row other = is_lt (cmp (key_of row) (key_of other))

-- the keys of the rows rise, so no key comes twice
abbrev pub IsInKeyOrder : {K R : Type 0} → (K → K → Ordering) → (R → K) → List R → Type 0
IsInKeyOrder cmp key_of rows = Ascends (comes_before cmp key_of) rows

-- the list with an element before the first one that it is before
abbrev pub put : {A : Type 0} → (A → A → Bool) → A → List A → List A
put before x [] = x ∷ []
put before x (y ∷ ys) = if before x y then x ∷ y ∷ ys else y ∷ put before x ys

-- the list with its first element of this kind changed
abbrev pub changed : {A : Type 0} → (A → Bool) → (A → A) → List A → List A
changed p f [] = []
changed p f (x ∷ xs) = if p x then f x ∷ xs else x ∷ changed p f xs

-- The first element of this kind has become one that it may become, and all others are as they were. If there is none
-- of this kind, so are all.
abbrev pub IsChangedAtOne : {A : Type 0} → (A → Bool) → (A → A → Type 0) → List A → List A → Type 0
IsChangedAtOne {A} p becomes old new =
    MatchOption (find p old) (new ≡ old) (λ x. (y : A) × (becomes x y × (new ≡ changed p (λ _. y) old)))

-- Each element has become one that it may become. None was added, removed or moved.
abbrev pub IsChangedAtEach : {A : Type 0} → (A → A → Type 0) → List A → List A → Type 0
IsChangedAtEach becomes [] [] = Unit {0}
IsChangedAtEach becomes [] (y ∷ ys) = ⊥
IsChangedAtEach becomes (x ∷ xs) [] = ⊥
IsChangedAtEach becomes (x ∷ xs) (y ∷ ys) = becomes x y × IsChangedAtEach becomes xs ys
