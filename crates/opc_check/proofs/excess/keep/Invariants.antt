use Rattle.std.proofs.Common.{◌≡◌, ◌++◌, drop}
use Rattle.csv.specs.declared.parser.State.TheVariants as st
use Rattle.opc_import.specs.CsvBytes.{state_of}
use Rattle.opc_check.specs.Excess.{kept}
use Rattle.opc_check.proofs.excess.keep.Given as goal

abbrev pub invariant-loop-byte : goal.invariant-loop-byte
invariant-loop-byte l =
    l.fn.bytes.items ++ kept st.StartRecord 0 l.text ≡ l.bytes.items ++ kept (state_of l.place) l.ended (drop l.byte-index l.text)
