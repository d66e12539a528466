-- Questions that are not answered.
use Rattle.std.specs.Prelude.{◌≡◌, ℕ, false, List, Option, codes}
use Rattle.std.specs.Io.KnownBytes.{Appends}
use Rattle.opc_io.specs.declared.watched.Watched.{Watched}
use Rattle.opc_embedded.specs.declared.unanswered.Unanswered.{Unanswered}
use Rattle.opc_embedded.specs.declared.unanswered.Unanswered.TheVariants.{NamesFile, OtherTask, TooLong, NotUtf8}

-- what is said about them
abbrev pub line_of : Unanswered → List ℕ
line_of NamesFile = codes "error: no file is opened here: leave out FILE, --policy, --db and db:\n"
line_of OtherTask = codes "error: only explain, who, check, may, diff and sheet are answered here\n"
line_of TooLong = codes "error: the question has more than 65,536 bytes\n"
line_of NotUtf8 = codes "error: the question is not UTF-8\n"

-- A line was printed, unless a write failed.
abbrev pub IsLinePrinted : {E : Type 0} → (shown : E → Option (List ℕ)) → (quiet reported : Watched E)
    → (line : List ℕ) → Type 0
IsLinePrinted shown quiet reported line = reported.failed ≡ false
    → Appends (shown quiet.inner) (shown reported.inner) line
