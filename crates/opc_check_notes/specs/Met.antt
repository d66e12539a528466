-- Which patterns of OPERCMDS cover a resource about which the gate asks, and which of them decide one.
use Rattle.std.specs.Prelude.{ℕ, Bool, ◌&&◌, not, List, []}
use Rattle.opc_check_reach.specs.Forms.{decides}
use Rattle.opc_check_notes.specs.declared.numbered.NumberedRow.{NumberedRow}
use Rattle.opc_check_notes.specs.Preceding.{all_before}

-- whether a pattern covers a resource of one of the forms that the gate asks about: exactly if it is met (`IsMet` of
-- opc_check_reach)
abbrev pub is_met : List ℕ → Bool
is_met pattern = decides pattern []

-- whether it covers one, and each that it covers is covered by a pattern that comes before
abbrev pub is_preceded : List NumberedRow → List ℕ → Bool
is_preceded list pattern = is_met pattern && not (decides pattern (all_before list pattern))
