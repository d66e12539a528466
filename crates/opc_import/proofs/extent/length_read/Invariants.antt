use Rattle.std.proofs.Common.{◌≡◌, ◌++◌, ◌<◌, drop, take}
use Rattle.csv.specs.declared.parser.State.TheVariants as st
use Rattle.opc_import.specs.CsvBytes.{state_of}
use Rattle.opc_import.proofs.Cutting.{cut}
use Rattle.opc_import.proofs.extent.length_read.Given as goal

abbrev pub invariant-loop-at : goal.invariant-loop-at
invariant-loop-at l =
    (cut st.StartRecord 0 l.text ≡ take l.at l.text ++ cut (state_of l.place) l.ended (drop l.at l.text)) × (l.ended < 10)
