use Rattle.std.proofs.Common.{◌≡◌, List, ℕ, Ok, Err, refl, sym}
use Rattle.std.specs.Prelude.{◌↔◌, Result}
use Rattle.opc_reader.specs.Lines.{IsReadFault, Reads}
use Rattle.opc_reader.specs.declared.line.ReadFault.{ReadFault}
use Rattle.opc_reader.proofs.Exact.{fault_so, reads_so}
use Rattle.opc_reader_commands.specs.declared.command.Command.{Command}
use Rattle.opc_http_log.specs.Typed.{read_as}
use Rattle.opc_http_log.proofs.typed.read.Goals as goal

same : (line : List ℕ) (r : Result Command ReadFault) → ((c : Command) → (r ≡ Ok c) ↔ Reads line c)
    → ((f : ReadFault) → (r ≡ Err f) ↔ IsReadFault line f) → r ≡ read_as line
unfolding read_as
same line (Ok c) command fault = sym (reads_so line c ((command c).0 refl))
same line (Err f) command fault = sym (fault_so line f ((fault f).0 refl))

pub returns : goal.returns
returns c = same _ _ c.read_command.ensures.command c.read_command.ensures.fault
