-- The laws of covering, of the order of patterns, their sort keys and their heads, on which a search over stored keys
-- stands; and that of the names of groups.
use Rattle.std.specs.Prelude.{◌≡◌, ◌≢◌, ℕ, ◌<◌, ◌≤◌, List, ◌++◌, length, ◌⊎◌, ◌↔◌, IsTrue, None}
use Rattle.std.specs.Cmp.Lexicographic.{slice_cmp}
use Rattle.std.specs.Ordering.{nat_cmp}
use Rattle.std.specs.declared.cmp.Ordering.TheVariants.{Less}
use Rattle.opc_names.specs.Names.{IsPattern, name_fault, group_rule, user_rule}
use Rattle.opc_names.specs.Order.{Before, sort_key, head}
use Rattle.opc_names.specs.Patterns.{tokens, covers, Covers, CoversText}
use Rattle.opc_names.specs.declared.token.Token.{Token}

-- `covers` is true if and only if the pattern covers
abbrev pub CoversComputes : Type 0
CoversComputes = (p : List (List Token)) (r : List (List ℕ)) → IsTrue (covers p r) ↔ Covers p r

-- The order is strict and total.
abbrev pub NoneIsBeforeItself : Type 0
NoneIsBeforeItself = (p : List Token) → Before p p → ⊥

abbrev pub BeforeIsTransitive : Type 0
BeforeIsTransitive = (p q r : List Token) → Before p q → Before q r → Before p r

abbrev pub OneIsBefore : Type 0
OneIsBefore = (p q : List ℕ) → IsPattern p → IsPattern q → p ≢ q → Before (tokens p) (tokens q)
    ⊎ Before (tokens q) (tokens p)

-- the order of sort keys is that of the patterns
abbrev pub KeysAreInOrder : Type 0
KeysAreInOrder = (p q : List ℕ) → IsPattern p → IsPattern q
    → (slice_cmp nat_cmp (sort_key p) (sort_key q) ≡ Less) ↔ Before (tokens p) (tokens q)

-- different patterns have different sort keys
abbrev pub KeysDiffer : Type 0
KeysDiffer = (p q : List ℕ) → IsPattern p → IsPattern q → sort_key p ≡ sort_key q → p ≡ q

abbrev pub KeysAreShort : Type 0
KeysAreShort = (p : List ℕ) → IsPattern p → length (sort_key p) ≤ 40

-- what a pattern covers begins with its head
abbrev pub HeadsArePrefixes : Type 0
HeadsArePrefixes = (p r : List ℕ) → IsPattern p → CoversText p r → (rest : List ℕ) × (r ≡ head (tokens p) ++ rest)

-- of two patterns that cover a name, one with a longer head comes before the other
abbrev pub LongerHeadsComeFirst : Type 0
LongerHeadsComeFirst =
    (p q r : List ℕ) → IsPattern p → IsPattern q → CoversText p r → CoversText q r
    → length (head (tokens q)) < length (head (tokens p)) → Before (tokens p) (tokens q)

-- a text that is a group's name is a valid user id
abbrev pub GroupNamesReadAsUsers : Type 0
GroupNamesReadAsUsers = (text : List ℕ) → name_fault group_rule text ≡ None → name_fault user_rule text ≡ None
