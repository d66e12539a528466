-- The last characters of patterns and of what they cover.
use Rattle.std.specs.Prelude.{◌≡◌, ℕ, ◌==◌, ◌||◌, Bool, not, true, List, ◌++◌}
use Rattle.std.specs.List.{AllByRecursion, list_all, list_any}
use Rattle.opc_names.specs.Names.{qualifiers}
use Rattle.opc_names.specs.Patterns.{CoversText, covers_text}
use Rattle.opc_names.specs.Walk.{IsQualifier}

-- whether a character of a pattern stands for itself, within a qualifier
abbrev pub is_fixed : ℕ → Bool
is_fixed c = not (c == 42 || (c == 37 || c == 46))

-- that a pattern does not cover a resource, however both go on alike to the end of a qualifier
abbrev pub CannotCover : (pattern resource : List ℕ) → Type 0
CannotCover pattern resource = (end : List ℕ) → list_all is_fixed end ≡ true
    → AllByRecursion IsQualifier (qualifiers (pattern ++ end)) → CoversText (pattern ++ end) (resource ++ end) → ⊥

-- no resource is covered by both
abbrev pub NoneInCommon : (pattern other : List ℕ) → Type 0
NoneInCommon pattern other = (resource : List ℕ) → CoversText pattern resource → CoversText other resource → ⊥

-- that of two patterns, however both go on alike to the end of a qualifier
abbrev pub CannotMeet : (pattern other : List ℕ) → Type 0
CannotMeet pattern other = (end : List ℕ) → list_all is_fixed end ≡ true
    → AllByRecursion IsQualifier (qualifiers (pattern ++ end)) → AllByRecursion IsQualifier (qualifiers (other ++ end))
    → NoneInCommon (pattern ++ end) (other ++ end)

-- that these patterns all cover a resource
abbrev pub AllCover : (patterns : List (List ℕ)) → (resource : List ℕ) → Type 0
AllCover patterns resource = list_all (λ (p : List ℕ). covers_text p resource) patterns ≡ true

-- no resource is covered by a pattern and by all others
abbrev pub NoneInCommonWith : (pattern : List ℕ) → (others : List (List ℕ)) → Type 0
NoneInCommonWith pattern others = (resource : List ℕ) → CoversText pattern resource → AllCover others resource → ⊥

abbrev pub NoneCoveredByAll : (patterns : List (List ℕ)) → Type 0
NoneCoveredByAll patterns = (resource : List ℕ) → AllCover patterns resource → ⊥

-- of resources that some patterns all cover, these cover as many as those
abbrev pub AreNearThese : (include these those : List (List ℕ)) → Type 0
AreNearThese include these those = (resource : List ℕ) → AllCover include resource
    → list_any (λ (q : List ℕ). covers_text q resource) these ≡ list_any (λ (q : List ℕ). covers_text q resource) those
