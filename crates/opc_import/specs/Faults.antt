-- The fault of a request with a bad policy file.
use Rattle.opc_terms.specs.declared.fault.Fault.{Fault}
use Rattle.opc_terms.specs.declared.fault.Fault.TheVariants.{RowFault, NoMemory}
use Rattle.opc_import.specs.declared.fault.ImportFault.{ImportFault}
use Rattle.opc_import.specs.declared.fault.ImportFault.TheVariants as bad_file

abbrev pub as_fault : ImportFault → Fault
as_fault (bad_file.Row row why) = RowFault row why
as_fault bad_file.NoMemory = NoMemory
