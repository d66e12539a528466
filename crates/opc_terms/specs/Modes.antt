-- The texts of logon modes, as a table.
use Rattle.std.specs.Prelude.{ℕ, List, [], ◌∷◌, codes}
use Rattle.opc_terms.specs.declared.mode.Mode.{Mode}
use Rattle.opc_terms.specs.declared.mode.Mode.TheVariants.{Optional, Required, Auto}

abbrev pub mode_text : Mode → List ℕ
mode_text Optional = codes "OPTIONAL"
mode_text Required = codes "REQUIRED"
mode_text Auto = codes "AUTO"

abbrev pub modes : List (List ℕ × Mode)
modes = (codes "OPTIONAL", Optional) ∷ (codes "REQUIRED", Required) ∷ (codes "AUTO", Auto) ∷ []
