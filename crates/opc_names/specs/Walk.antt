-- What a walk over a text has left. Private functions cite this page, no public contract does.
use Rattle.std.specs.Prelude.{
  ◌≡◌,
  ◌≢◌,
  ℕ,
  ◌+◌,
  List,
  [],
  ◌∷◌,
  map,
  Bool,
  true,
  false,
  if◌then◌else◌,
  Option,
  Some,
  None,
  length,
  ⊤,
  ◌⊎◌,
}
use Rattle.std.specs.List.{list_any}
use Rattle.opc_names.specs.Names.{qualifiers}
use Rattle.opc_names.specs.Patterns.{covers, suffixes}
use Rattle.opc_names.specs.Order.{Earlier, is_open, key_byte}
use Rattle.opc_names.specs.declared.token.Token.{Token}

-- the qualifiers of the text that is left, and none if nothing is
abbrev pub qualifiers_left : Option (List ℕ) → List (List ℕ)
qualifiers_left None = []
qualifiers_left (Some text) = qualifiers text

-- how much is left
abbrev pub left_len : Option (List ℕ) → ℕ
left_len None = 0
left_len (Some text) = length text + 1

-- a `*` only at the end
abbrev pub StarOnlyLast : List ℕ → Type 0
StarOnlyLast [] = ⊤
StarOnlyLast (c ∷ []) = ⊤
StarOnlyLast (c ∷ (d ∷ q)) = (c ≢ 42) × StarOnlyLast (d ∷ q)

-- a qualifier of a pattern: `**`, or one with a `*` only at its end
abbrev pub IsQualifier : List ℕ → Type 0
IsQualifier q = (q ≡ 42 ∷ 42 ∷ []) ⊎ StarOnlyLast q

-- for each suffix of a name, longest first, whether a pattern covers it
abbrev pub covered_suffixes : List (List Token) → List (List ℕ) → List Bool
covered_suffixes p r = map (covers p) (suffixes r)

-- for each place in a list, whether it or a later one is true
abbrev pub any_from_here : List Bool → List Bool
any_from_here [] = []
any_from_here (b ∷ bs) = list_any (λ x. x) (b ∷ bs) ∷ any_from_here bs

-- the order after a common part; `opened` states whether that ends in `*` or `**`
abbrev pub BeforeAfter : Bool → List Token → List Token → Type 0
BeforeAfter opened [] [] = ⊥
BeforeAfter opened [] (u ∷ q) = opened ≡ false
BeforeAfter opened (t ∷ p) [] = opened ≡ true
BeforeAfter opened (t ∷ p) (u ∷ q) = Earlier t u ⊎ ((t ≡ u) × BeforeAfter (is_open t) p q)

-- a byte for each token, and one more after the last if that leaves open what follows
abbrev pub sort_key_after : Bool → List Token → List ℕ
sort_key_after opened [] = if opened then 255 ∷ [] else []
sort_key_after opened (t ∷ ts) = key_byte t ∷ sort_key_after (is_open t) ts
