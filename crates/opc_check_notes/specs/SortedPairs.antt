-- Values by keys.
use Rattle.std.specs.Prelude.{◌&&◌, List, filter, not}
use Rattle.std.specs.declared.cmp.Ordering.{Ordering}
use Rattle.std.specs.Ordering.{is_eq, is_lt}

-- the pairs of a key
abbrev pub at_key : {K V : Type 0} → (K → K → Ordering) → K → List (K × V) → List (K × V)
at_key {K} {V} cmp key pairs = filter (λ (pair : K × V). is_eq (cmp pair.0 key)) pairs

-- the pairs from one key up to another, without those of the other
abbrev pub from_to : {K V : Type 0} → (K → K → Ordering) → (from to : K) → List (K × V) → List (K × V)
from_to {K} {V} cmp from to pairs = filter (λ (pair : K × V). not (is_lt (cmp pair.0 from)) && is_lt (cmp pair.0 to)) pairs
