-- How the rows of a file follow from its records, one at a time.
use Rattle.std.proofs.Common.{◌≡◌, ◌≤◌, ◌+◌, ◌++◌, ◌∷◌, [], ℕ, List, sym, refl, ap, arith, inl, inr, length, append_assoc}
use Rattle.std.specs.Prelude.{Some, Result, Ok, Err, nat_lt, ◌==◌}
use Rattle.std.proofs.lemmas.List.{append-nil}
use Rattle.std.proofs.lemmas.Bool.{cases_Bool}
use Rattle.std.proofs.lemmas.Bool.Decides.{nat_tests}
use Rattle.opc_policy_members.specs.declared.row.Row.{Row}
use Rattle.opc_import.specs.Columns.{Record, width_of}
use Rattle.opc_import.specs.Files.{after_rows, rows_from, rows_of, with_row}
use Rattle.opc_import.specs.Kinds.{most_rows, row_of}
use Rattle.opc_import.specs.declared.fault.ImportFault.{ImportFault}
use Rattle.opc_import.specs.declared.fault.ImportFault.TheVariants as fault
use Rattle.opc_terms.specs.declared.fault.Why.{Why}

after_rows-nil : (r : Result (List Row) ImportFault) → r ≡ after_rows [] r
after_rows-nil (Ok rows) = refl
after_rows-nil (Err e) = refl

after_rows-cons : (rows : List Row) (row : Row) (number : ℕ) (r : Result (List Row) ImportFault)
    → after_rows rows (with_row number (Ok row) r) ≡ after_rows (rows ++ row ∷ []) r
after_rows-cons rows row number (Ok more) = ap (λ (xs : List Row). Ok xs) (sym (append_assoc rows (row ∷ []) more))
after_rows-cons rows row number (Err e) = refl

-- past the header
pub header-first : (all rest : List Record) (first : Record) (width : ℕ) → all ≡ first ∷ rest
    → width_of first ≡ Some width → rows_of all ≡ after_rows [] (rows_from width 1 rest)
header-first all rest first width e h = rw (e, h) (after_rows-nil (rows_from width 1 rest))

-- no record is left
pub at-end : (rows : List Row) (width number : ℕ) (left : List Record) → left ≡ [] → after_rows rows (rows_from width number left) ≡ Ok rows
unfolding rows_from
at-end rows width number left e = rw (e, append-nil rows) refl

-- a bad record
pub at-fault : (rows : List Row) (width number : ℕ) (left rest : List Record) (first : Record) (reason : Why)
    → left ≡ first ∷ rest → row_of width number first ≡ Err reason
    → after_rows rows (rows_from width number left) ≡ Err (fault.Row number reason)
unfolding rows_from
at-fault rows width number left rest first reason e bad = rw (e, bad) refl

-- a good record
pub goes-on : (rows : List Row) (width number : ℕ) (left rest : List Record) (first : Record) (row : Row) → left ≡ first
    ∷ rest → row_of width number first ≡ Ok row
    → after_rows rows (rows_from width number left) ≡ after_rows (rows ++ row ∷ []) (rows_from width (number + 1) rest)
unfolding rows_from
goes-on rows width number left rest first row e good = rw (e, good) (after_rows-cons rows row number (rows_from width (number + 1) rest))

err-ok : {reason : Why} {row : Row} → Err reason ≡ Ok row → ⊥
err-ok e = cc

-- a good record has a number within the limit
pub good-number : (width number : ℕ) (first : Record) (row : Row) → row_of width number first ≡ Ok row → number ≤ most_rows
good-number width number first row good = elim (cases_Bool (length first == width)) [
  | inl fits ↦ elim (cases_Bool (nat_lt most_rows number)) [
    | inl many ↦ absurd (err-ok (rw (fits, many) at good))
    | inr few ↦ grind (arith, nat_tests, few)
  ]
  | inr other ↦ absurd (err-ok (rw other at good))
]
