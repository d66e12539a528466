use Rattle.std.proofs.Common.{◌≡◌}
use Rattle.std.specs.Prelude.{Option, Some, None}
use Rattle.opc_check.specs.Judged.{File, file_of}
use Rattle.opc_check.specs.Problems.{IsReading, IsReadingOf, Problem, first_bad}
use Rattle.opc_check.specs.declared.reading.Reading.{Reading}
use Rattle.opc_check.proofs.judging.first_bad.Goals as goal

of_file : (o : Option File) (r : Reading) (found : Option Problem)
    → ((file : File) → IsReading file r → found ≡ first_bad (Some file)) → IsReadingOf o (Some r) → found ≡ first_bad o
of_file None r found first is = absurd is
of_file (Some file) r found first is = first file is

pub returns-in-Some : goal.returns-in-Some
returns-in-Some c = of_file (file_of c.args.text.now) c.in-Some.reading _ c.first_of.ensures (rw c.in-Some.is at c.in_ok-reading.ensures)
