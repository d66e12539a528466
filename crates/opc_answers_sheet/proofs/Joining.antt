-- Names of any type, with a text between them.
use Rattle.std.proofs.Common.{◌≡◌, ◌++◌, ℕ, List, [], ◌∷◌, ap, codes, flat_map, map, refl}
use Rattle.std.specs.List.{join_by}
use Rattle.opc_answers_sheet.specs.Cells.{joined}
use Rattle.opc_answers_sheet.specs.Commands.{whole_names}

module _ {X : Type 0} (text : X → List ℕ) (between : List ℕ) where
  after : (names : List X) → flat_map (λ name. between ++ text name) names ≡ flat_map (λ name. between ++ name) (map text names)
  after [] = refl
  after (name ∷ names) = ap (λ rest. (between ++ text name) ++ rest) (after names)

  by_texts : (names : List X) → join_by text between names ≡ join_by (λ name. name) between (map text names)
  by_texts [] = refl
  by_texts (name ∷ names) = ap (λ rest. text name ++ rest) (after names)

module _ {X : Type 0} (text : X → List ℕ) where
  pub joined_so : (names : List X) → join_by text (codes ", ") names ≡ joined (map text names)
  joined_so names = by_texts text (codes ", ") names

  pub whole_so : (names : List X) → join_by text (codes "</span>, <span>") names ≡ whole_names (map text names)
  whole_so names = by_texts text (codes "</span>, <span>") names
