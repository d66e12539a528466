-- The law of sort keys and names.
use Rattle.std.specs.Prelude.{◌≡◌, ℕ, true, List, [], ◌∷◌, ◌++◌}
use Rattle.opc_names.specs.Names.{IsPattern}
use Rattle.opc_names.specs.Order.{sort_key}
use Rattle.opc_names.specs.Patterns.{CoversText}
use Rattle.opc_names_keys.specs.Follows.{follows}

-- A name that a pattern covers, with a period after it, follows the pattern's sort key.
abbrev pub CoveredNamesFollow : Type 0
CoveredNamesFollow = (p r : List ℕ) → IsPattern p → CoversText p r → follows (sort_key p) (r ++ 46 ∷ []) ≡ true
