use Rattle.std.proofs.Common.{◌≡◌, take}
use Rattle.std.specs.Prelude.{filter_map}
use Rattle.opc_check_notes.specs.declared.numbered.NumberedRow.{NumberedRow}
use Rattle.opc_check_notes.specs.Preceding.{AreValid, keyed}
use Rattle.opc_check_notes.proofs.preceding.keyed_among.Given as goal

abbrev pub invariant-loop-at : goal.invariant-loop-at
invariant-loop-at l =
    (l.list.items ≡ filter_map (λ (at : NumberedRow). keyed at.row) (take l.at-index l.rows)) × AreValid l.list.items
