-- Lists in the order of their keys.
use Rattle.std.specs.Prelude.{◌≡◌, ℕ, List}
use Rattle.std.specs.Ordering.{nat_cmp}
use Rattle.std.specs.Cmp.Lexicographic.{slice_cmp}
use Rattle.std.specs.declared.cmp.Ordering.{Ordering}
use Rattle.std.specs.declared.cmp.Ordering.TheVariants.{Less}
use Rattle.sqlite_trees.specs.Tree.{IsAscending}

-- texts by their bytes
abbrev pub text_cmp : List ℕ → List ℕ → Ordering
text_cmp = slice_cmp nat_cmp

-- each member is below each later one, so that no key comes twice
abbrev pub Rises : {X : Type 0} → (X → X → Ordering) → List X → Type 0
Rises cmp = IsAscending (λ a b. cmp a b ≡ Less)
