-- Of the patterns that are excluded, those that count.
use Rattle.std.specs.Prelude.{◌≡◌, ℕ, All, true, List}
use Rattle.std.specs.List.{AllPairs, list_any}
use Rattle.std.specs.Ordering.{is_lt}
use Rattle.opc_names.specs.Patterns.{covers_text}
use Rattle.opc_policy_members.specs.Profiles.{pattern_cmp}

-- patterns in the order of the search, all of them before one
abbrev pub IsEarlier : List ℕ → List ℕ → Type 0
IsEarlier p q = is_lt (pattern_cmp p q) ≡ true

pub record ComeBefore (list : List (List ℕ)) (pattern : List ℕ) : Type 0 where
  pub in_order : AllPairs IsEarlier list
  pub before : All (λ q. IsEarlier q pattern) list

-- of resources of which this holds, these patterns cover as many as those
abbrev pub CoverAsMany : (List ℕ → Type 0) → (these those : List (List ℕ)) → Type 0
CoverAsMany Holds these those = (resource : List ℕ) → Holds resource
    → list_any (λ (q : List ℕ). covers_text q resource) these ≡ list_any (λ (q : List ℕ). covers_text q resource) those

-- of those that a pattern covers
abbrev pub AreNear : (p : List ℕ) → (these those : List (List ℕ)) → Type 0
AreNear p these those = CoverAsMany (λ resource. covers_text p resource ≡ true) these those
