-- What a line is read as.
use Rattle.std.proofs.Common.{◌≡◌, ◌↔◌, ℕ, List, Result, Ok, Err, ap, refl, sym}
use Rattle.opc_reader_commands.specs.declared.command.Command.{Command}
use Rattle.opc_reader.specs.declared.line.ReadFault.{ReadFault}
use Rattle.opc_reader.specs.Lines.{Reads, IsReadFault}
use Rattle.opc_reader.specs.Reading.{reading}
use Rattle.opc_reader.proofs.Exact.{reads_so, fault_so}
use Rattle.opc_machine.specs.Commands.{command_in, command_or}

read_is : (line : List ℕ) (r : Result Command ReadFault) → ((c : Command) → (r ≡ Ok c) ↔ Reads line c)
    → ((f : ReadFault) → (r ≡ Err f) ↔ IsReadFault line f) → r ≡ reading line
read_is line (Ok c) h g = sym (reads_so line c ((h c).0 refl))
read_is line (Err f) h g = sym (fault_so line f ((g f).0 refl))

pub command_is : (line : List ℕ) (r : Result Command ReadFault) → ((c : Command) → (r ≡ Ok c) ↔ Reads line c)
    → ((f : ReadFault) → (r ≡ Err f) ↔ IsReadFault line f) → command_or r ≡ command_in line
command_is line r h g = ap command_or (read_is line r h g)
