-- A file can be read if none of its rows is bad, and otherwise has the fault of the first.
use Rattle.std.proofs.Common.{◌≡◌, ◌≤◌, ◌+◌, ◌∷◌, ◌∙◌, [], ℕ, List, sym, refl, ap, arith, true, false}
use Rattle.std.specs.Prelude.{Option, Some, None, Result, Ok, Err, nat_le}
use Rattle.std.proofs.lemmas.Bool.Decides.{nat_tests}
use Rattle.csv.specs.Reading.{default_config, records, strip_bom}
use Rattle.opc_terms.specs.declared.fault.Why.{Why}
use Rattle.opc_policy_members.specs.declared.row.Row.{Row}
use Rattle.opc_import.proofs.FileLemmas.{good-number}
use Rattle.opc_import.specs.Columns.{Record, width_of}
use Rattle.opc_import.specs.Each.{below, below_header}
use Rattle.opc_import.specs.Files.{rows_below, rows_from, rows_of, with_row}
use Rattle.opc_import.specs.Kinds.{row_of}
use Rattle.opc_import.specs.declared.fault.ImportFault.{ImportFault}
use Rattle.opc_check.specs.Judged.{Bad, Judged, bad_rows, file_below, good_rows, judged, judged_from, last_judged, with_bad, with_good}
use Rattle.opc_check.specs.Laws.{ReadsIfNoneIsBad, reading, unless_bad}

-- a row that can be read stands before the others, unless one of them is bad
good_first : (number : ℕ) (row : Row) (rows : List Row) (bad : List Bad)
    → with_row number (Ok row) (unless_bad rows bad) ≡ unless_bad (row ∷ rows) bad
good_first number row rows [] = refl
good_first number row rows (b ∷ more) = refl

within : (number : ℕ) → number ≤ last_judged → nat_le number last_judged ≡ true
within number low = grind (arith, nat_tests, low)

-- the record of this number is judged as long as it is not past the last
pub more_judged : (width number : ℕ) (fields : Record) (rest : List Record) → number ≤ last_judged
    → judged_from width number (fields ∷ rest) ≡ judged width number fields ∷ judged_from width (number + 1) rest
unfolding judged_from
more_judged width number fields rest low =
    let e : nat_le number last_judged ≡ true = within number low in
    rw e refl

pub none_judged : (width number : ℕ) (left : List Record) → left ≡ [] → judged_from width number left ≡ []
unfolding judged_from
none_judged width number left e = rw e refl

pub none_past : (width : ℕ) (left : List Record) → judged_from width 10002 left ≡ []
unfolding judged_from
none_past width [] = refl
none_past width (fields ∷ rest) = refl

one_more : (number : ℕ) (fields : Record) (meaning : Result Row Why) (rest : Result (List Row) ImportFault) (rows : List Row)
    (bad : List Bad) → ((row : Row) → meaning ≡ Ok row → rest ≡ unless_bad rows bad)
    → with_row number meaning rest ≡ unless_bad (with_good meaning rows) (with_bad number fields meaning bad)
one_more number fields (Ok row) rest rows bad later =
    ap (with_row number (Ok row)) (later row refl) ∙ good_first number row rows bad
one_more number fields (Err why) rest rows bad later = refl

from : (width number : ℕ) (left : List Record) → number ≤ last_judged
    → rows_from width number left ≡ unless_bad (good_rows (judged_from width number left)) (bad_rows (judged_from width number left))
unfolding rows_from judged_from
from width number [] low = refl
from width number (fields ∷ rest) low =
    let e : nat_le number last_judged ≡ true = within number low in
    rw e (one_more number fields (row_of width number fields) (rows_from width (number + 1) rest)
    (good_rows (judged_from width (number + 1) rest)) (bad_rows (judged_from width (number + 1) rest))
    (λ row good. from width (number + 1) rest (omega (arith, good-number width number fields row good))))

below_it : (width : Option ℕ) (rest : List Record) → rows_below width rest ≡ reading (file_below (below_header width rest))
below_it None rest = refl
below_it (Some width) rest = from width 1 rest (omega arith)

of_records : (all : List Record) → rows_of all ≡ reading (file_below (below all))
of_records [] = refl
of_records (fields ∷ rest) = below_it (width_of fields) rest

pub reads : ReadsIfNoneIsBad
reads text = of_records (records default_config (strip_bom text))
