-- What was read so far, and what is left.
use Rattle.std.proofs.Common.{
  ◌≡◌,
  ◌≤◌,
  ◌+◌,
  ◌-◌,
  ◌∷◌,
  ◌++◌,
  ◌∙◌,
  [],
  ℕ,
  zero,
  suc,
  List,
  length,
  sym,
  refl,
  ap,
  arith,
  take,
  append_assoc,
  append-nil,
  map,
  subst,
}
use Rattle.std.specs.Prelude.{Result, Ok, Err}
use Rattle.opc_terms.specs.declared.fault.Why.{Why}
use Rattle.opc_policy_members.specs.declared.row.Row.{Row}
use Rattle.opc_import.specs.Columns.{Record}
use Rattle.opc_import.specs.Kinds.{row_of}
use Rattle.opc_check.proofs.Agreeing.{more_judged, none_judged, none_past}
use Rattle.opc_check.specs.Judged.{Bad, File, Judged, bad_rows, good_rows, judged_as, judged_from, last_judged, with_bad, with_good}
use Rattle.opc_check.proofs.Telling.{none_told, one_told}
use Rattle.opc_check.specs.Problems.{IsReading, Problem, bad_problem, most_told, problems_of}
use Rattle.opc_check.specs.declared.reading.Reading.{Reading}

-- a reading, before the rows that are left, is that of all
pub record Follows (width : ℕ) (all left : List Judged) (r : Reading) : Type 0 where
  pub rows : good_rows all ≡ r.rows.items ++ good_rows left
  pub judged : length all ≡ r.judged + length left
  pub bad : length (bad_rows all) ≡ r.bad + length (bad_rows left)
  pub problems : map (bad_problem width) (take most_told (bad_rows all))
      ≡ problems_of r.problems.items ++ map (bad_problem width) (take (most_told - r.bad) (bad_rows left))

pub begins : (width : ℕ) (all : List Judged) (r : Reading) → r.rows.items ≡ [] → r.judged ≡ 0 → r.bad ≡ 0
    → problems_of r.problems.items ≡ [] → Follows width all all r
begins width all r rows judged bad problems = record {
  rows = rw rows refl;
  judged = omega arith;
  bad = omega arith;
  problems = rw (problems, bad) refl;
}

pub ends : (file : File) (left : List Judged) (r : Reading) → Follows file.width file.rows left r → left ≡ []
    → IsReading file r
ends file left r h none =
    let h2 : Follows file.width file.rows [] r = rw none at h in
    record {
      rows = sym (h2.rows ∙ append-nil r.rows.items);
      judged = omega (arith, h2.judged);
      bad = omega (arith, h2.bad);
      problems = sym (h2.problems ∙ none_more (most_told - r.bad));
    }
  where
    none_more : (n : ℕ) → problems_of r.problems.items ++ map (bad_problem file.width) (take n []) ≡ problems_of r.problems.items
    none_more zero = append-nil (problems_of r.problems.items)
    none_more (suc n) = append-nil (problems_of r.problems.items)

rows_step : (before : List Row) (meaning : Result Row Why) (later : List Row)
    → before ++ with_good meaning later ≡ (before ++ with_good meaning []) ++ later
rows_step before (Ok row) later = sym (append_assoc before (row ∷ []) later)
rows_step before (Err why) later = ap (λ (xs : List Row). xs ++ later) (sym (append-nil before))

count_step : (number : ℕ) (fields : Record) (meaning : Result Row Why) (later : List Bad)
    → length (with_bad number fields meaning later) ≡ length (with_bad number fields meaning []) + length later
count_step number fields (Ok row) later = omega arith
count_step number fields (Err why) later = omega arith

problems_step : (what : Bad → Problem) (before : List Problem) (number : ℕ) (fields : Record) (meaning : Result Row Why) (later : List Bad) (n : ℕ)
    → before ++ map what (take n (with_bad number fields meaning later))
    ≡ (before ++ map what (take n (with_bad number fields meaning []))) ++ map what (take (n - length (with_bad number fields meaning [])) later)
problems_step what before number fields (Ok row) later n = none_told what before later n
problems_step what before number fields (Err why) later n = one_told what before (record { number = number; fields = fields; why = why }) later n

-- one more row is added
pub adds : (width : ℕ) (all later : List Judged) (old new : Reading) (number : ℕ) (fields : Record) (meaning : Result Row Why)
    → Follows width all (judged_as number fields meaning ∷ later) old
    → new.rows.items ≡ old.rows.items ++ good_rows (judged_as number fields meaning ∷ [])
    → new.judged ≡ old.judged + 1
    → new.bad ≡ old.bad + length (bad_rows (judged_as number fields meaning ∷ []))
    → problems_of new.problems.items ≡ problems_of old.problems.items
    ++ map (bad_problem width) (take (most_told - old.bad) (bad_rows (judged_as number fields meaning ∷ [])))
    → Follows width all later new
adds width all later old new number fields meaning h rows judged bad problems = record {
  rows = h.rows ∙ (rows_step old.rows.items meaning (good_rows later) ∙ ap (λ (xs : List Row). xs ++ good_rows later) (sym rows));
  judged = omega (arith, h.judged);
  bad = omega (arith, h.bad, count_step number fields meaning (bad_rows later));
  problems = (
      let told = problems_step (bad_problem width) (problems_of old.problems.items) number fields meaning (bad_rows later) (most_told - old.bad) in
      let less : most_told - new.bad ≡ (most_told - old.bad) - length (with_bad number fields meaning []) = omega (arith, bad) in
      h.problems ∙ (told ∙ rw (problems, less) refl)
      );
}

-- the first of the records that are left is added
pub turn : (width number : ℕ) (all : List Judged) (old new : Reading) (left rest : List Record) (fields : Record)
    (read_width told_width : ℕ) (meaning : Result Row Why)
    → Follows width all (judged_from width number left) old → left ≡ fields ∷ rest → number ≤ last_judged
    → meaning ≡ row_of read_width number fields → read_width ≡ width → told_width ≡ width
    → new.rows.items ≡ old.rows.items ++ good_rows (judged_as number fields meaning ∷ [])
    → new.judged ≡ old.judged + 1
    → new.bad ≡ old.bad + length (bad_rows (judged_as number fields meaning ∷ []))
    → problems_of new.problems.items ≡ problems_of old.problems.items
    ++ map (bad_problem told_width) (take (most_told - old.bad) (bad_rows (judged_as number fields meaning ∷ [])))
    → Follows width all (judged_from width (number + 1) rest) new
turn width number all old new left rest fields read_width told_width meaning h e low is read told rows judged bad problems =
    let means : row_of width number fields ≡ meaning = ap (λ (w : ℕ). row_of w number fields) (sym read) ∙ sym is in
    let step : judged_from width number left ≡ judged_as number fields meaning ∷ judged_from width (number + 1) rest =
    ap (judged_from width number) e ∙ (more_judged width number fields rest low
    ∙ ap (λ (m : Result Row Why). judged_as number fields m ∷ judged_from width (number + 1) rest) means) in
    adds width all (judged_from width (number + 1) rest) old new number fields meaning
    (subst (λ (js : List Judged). Follows width all js old) step h) rows judged bad
    (subst (λ (w : ℕ). problems_of new.problems.items ≡ problems_of old.problems.items
    ++ map (bad_problem w) (take (most_told - old.bad) (bad_rows (judged_as number fields meaning ∷ [])))) told problems)

-- no record is left
pub ends_here : (width number : ℕ) (all : List Judged) (left : List Record) (r : Reading)
    → Follows width all (judged_from width number left) r → left ≡ [] → IsReading (record { width = width; rows = all }) r
ends_here width number all left r h none =
    ends (record { width = width; rows = all }) (judged_from width number left) r h (none_judged width number left none)

-- or those that are left are not judged
pub ends_past : (width number : ℕ) (all : List Judged) (left : List Record) (r : Reading)
    → Follows width all (judged_from width number left) r → number ≡ 10002 → IsReading (record { width = width; rows = all }) r
ends_past width number all left r h past =
    ends (record { width = width; rows = all }) (judged_from width number left) r h
    (ap (λ (n : ℕ). judged_from width n left) past ∙ none_past width left)
