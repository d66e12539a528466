-- Each line is read in one way.
use Rattle.std.proofs.Common.{◌≡◌, ◌↔◌, ℕ, List, Result, Ok, Err, refl, sym, ◌∙◌, inl, inr, IfOk}
use Rattle.opc_reader_commands.specs.declared.command.Command.{Command}
use Rattle.opc_reader.specs.declared.line.ReadFault.{ReadFault}
use Rattle.opc_reader.specs.Lines.{Reads, IsReadFault, ReadsInOneWay, OperandsAreSlices}
use Rattle.opc_reader.specs.Reading.{reading}
use Rattle.opc_reader.proofs.Slices.{operands_slices}
use Rattle.opc_reader.proofs.Exact.{reads_so, so_reads, fault_so, so_fault, ok_err, same_err}

same_ok : (c d : Command) → ◌≡◌ {A = Result Command ReadFault} (Ok c) (Ok d) → c ≡ d
same_ok c d h = cc

pub one_way : (line : List ℕ) → ReadsInOneWay line
one_way line = by_reading (reading line) refl where
  by_reading : (r : Result Command ReadFault) → reading line ≡ r → ReadsInOneWay line
  by_reading (Ok c) e =
      inl (
        c,
        so_reads line c e,
        (λ d h. same_ok d c (sym (reads_so line d h) ∙ e)),
        (λ fault h. ok_err c fault (sym e ∙ fault_so line fault h)),
      )
  by_reading (Err f) e = inr (f, so_fault line f e, (λ g h. same_err g f (sym (fault_so line g h) ∙ e)), (λ c h. ok_err c f (sym (reads_so line c h) ∙ e)))

pub commands : (line : List ℕ) (result : Result Command ReadFault) → result ≡ reading line → (c : Command) → (result ≡ Ok c) ↔ Reads line c
commands line result e c = ((λ h. so_reads line c (sym e ∙ h)), (λ h. e ∙ reads_so line c h))

pub faults : (line : List ℕ) (result : Result Command ReadFault) → result ≡ reading line → (f : ReadFault) → (result ≡ Err f) ↔ IsReadFault line f
faults line result e f = ((λ h. so_fault line f (sym e ∙ h)), (λ h. e ∙ fault_so line f h))

pub slices : (line : List ℕ) (result : Result Command ReadFault) → result ≡ reading line → IfOk result (λ c. OperandsAreSlices line c)
slices line (Ok c) e = operands_slices line c (so_reads line c (sym e))
slices line (Err f) e = tt
