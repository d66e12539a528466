-- Files whose records are the same, or both too long: the same is reported of them.
use Rattle.std.proofs.Common.{◌≡◌, ◌∙◌, ◌⊎◌, ◌+◌, ◌-◌, ◌≤◌, ℕ, zero, suc, Bool, true, false, cond, List, [], ◌∷◌, ◌++◌, length, take, drop}
use Rattle.std.proofs.Common.{IfSome, sym, refl, ap, map, subst, inl, inr, arith}
use Rattle.std.specs.Prelude.{◌==◌, Option, Some, None, Result, Ok, Err, decimal, codes, nat_le, nat_lt}
use Rattle.std.proofs.lemmas.Bool.Decides.{nat_tests}
use Rattle.csv.specs.Reading.{default_config, records, strip_bom}
use Rattle.csv.specs.declared.parser.State.TheVariants as st
use Rattle.opc_terms.specs.declared.fault.Fault.TheVariants as fault
use Rattle.opc_terms.specs.declared.fault.Why.{Why}
use Rattle.opc_terms.specs.declared.fault.Why.TheVariants as why
use Rattle.opc_policy_members.specs.declared.row.Row.{Row}
use Rattle.opc_import.specs.Columns.{Record, columns, first_columns, is_header, width_of}
use Rattle.opc_import.specs.Each.{below, below_header}
use Rattle.opc_import.specs.Kinds.{row_of}
use Rattle.opc_import.proofs.CutRows.{Begins}
use Rattle.opc_check.specs.Excess.{AreToldAlike, kept}
use Rattle.opc_check.specs.Judged.{Bad, Judged, bad_rows, file_below, good_rows, judged, judged_from, last_judged}
use Rattle.opc_check.specs.Problems.{IsReading, IsReadingOf, Problem, bad_problem, most_told}
use Rattle.opc_check.specs.Words.{columns_text, count_text, quoting_text}
use Rattle.opc_check.specs.declared.reading.Reading.{Reading}
use Rattle.opc_check.proofs.Keeping.{AreAlike, AreFew, Long, Same, kept_alike, kept_few}

-- ---- a record that is too long

not_fitting : (fields : Record) (width number : ℕ) → width ≤ 10 → 11 ≤ length fields → row_of width number fields ≡ Err why.Columns
not_fitting fields width number low many =
    let other : (length fields == width) ≡ false = grind (arith, nat_tests, low, many) in
    rw other refl

no_width : (fields : Record) → 11 ≤ length fields → width_of fields ≡ None
no_width fields many =
    let all : (length fields == 10) ≡ false = grind (arith, nat_tests, many) in
    let first : (length fields == 8) ≡ false = grind (arith, nat_tests, many) in
    rw (all, first) refl

low_width : (fields : Record) → IfSome (width_of fields) (λ width. width ≤ 10)
low_width fields = go (is_header columns fields) (is_header first_columns fields)
  where
    go : (a b : Bool) → IfSome (cond a (Some (length columns)) (cond b (Some (length first_columns)) None)) (λ width. width ≤ 10)
    go true b = omega arith
    go false true = omega arith
    go false false = tt

many_fields : (n : ℕ) → 11 ≤ n → count_text n ≡ codes "it has more than 10 columns"
many_fields n many =
    let one : (n == 1) ≡ false = grind (arith, nat_tests, many) in
    let more : nat_lt 10 n ≡ true = grind (arith, nat_tests, many) in
    rw (one, more) refl

abbrev too_long : ℕ → Record → Bad
too_long number fields = record { number = number; fields = fields; why = why.Columns }

abbrev with_text : ℕ → List ℕ → Problem
with_text number text = record { number = number; fault = fault.RowFault number why.Columns; text = text }

quoting : (width n : ℕ) → width ≤ 10 → 11 ≤ n → quoting_text width n ≡ codes "; quote a field that has a comma: \"SYS,IO\""
quoting width n low many =
    let more : nat_lt width n ≡ true = grind (arith, nat_tests, low, many) in
    rw more refl

abbrev long_text : ℕ → List ℕ
long_text width =
    codes "it has more than 10 columns"
    ++ (codes " and not " ++ (decimal width ++ codes "; quote a field that has a comma: \"SYS,IO\""))

many_columns : (width n : ℕ) → width ≤ 10 → 11 ≤ n → columns_text width n ≡ long_text width
many_columns width n low many =
    ap (λ (t : List ℕ). t ++ (codes " and not " ++ (decimal width ++ quoting_text width n))) (many_fields n many)
    ∙ ap (λ (t : List ℕ). codes "it has more than 10 columns" ++ (codes " and not " ++ (decimal width ++ t))) (quoting width n low many)

same_words : (width number : ℕ) (p q : Record) → width ≤ 10 → 11 ≤ length p → 11 ≤ length q
    → bad_problem width (too_long number p) ≡ bad_problem width (too_long number q)
same_words width number p q low one other =
    ap (λ (t : List ℕ). with_text number t)
    (many_columns width (length p) low one ∙ sym (many_columns width (length q) low other))

-- ---- the same is reported of rows

module _ (width : ℕ) where
  abbrev SameProblems : List Bad → List Bad → Type 0
  SameProblems js ks = (n : ℕ) → map (bad_problem width) (take n js) ≡ map (bad_problem width) (take n ks)

  -- of rows the same are good, as many are bad, and these have the same problems
  abbrev SameRows : List Judged → List Judged → Type 0
  SameRows js ks = (good_rows js ≡ good_rows ks) × (length js ≡ length ks) × (length (bad_rows js) ≡ length (bad_rows ks))
      × SameProblems (bad_rows js) (bad_rows ks)

  one_problem : (b c : Bad) (bs cs : List Bad) → bad_problem width b ≡ bad_problem width c → SameProblems bs cs → SameProblems (b ∷ bs) (c ∷ cs)
  one_problem b c bs cs is more zero = refl
  one_problem b c bs cs is more (suc n) = ap (λ t. t ∷ map (bad_problem width) (take n bs)) is ∙ ap (λ t. bad_problem width c ∷ t) (more n)

  one_same : (number : ℕ) (fields : Record) (m : Result Row Why) (js ks : List Judged) → SameRows js ks
      → SameRows (record { number = number; fields = fields; meaning = m } ∷ js) (record { number = number; fields = fields; meaning = m } ∷ ks)
  one_same number fields (Ok row) js ks more = (ap (λ rows. row ∷ rows) more.0, omega (arith, more.1), more.2, more.3)
  one_same number fields (Err reason) js ks more = (
    more.0,
    omega (arith, more.1),
    omega (arith, more.2),
    one_problem _ _ (bad_rows js) (bad_rows ks) refl more.3,
  )

  one_long : (number : ℕ) (p q : Record) (m n : Result Row Why) → width ≤ 10 → m ≡ Err why.Columns → n ≡ Err why.Columns
      → 11 ≤ length p → 11 ≤ length q → (js ks : List Judged) → SameRows js ks
      → SameRows (record { number = number; fields = p; meaning = m } ∷ js) (record { number = number; fields = q; meaning = n } ∷ ks)
  one_long number p q m n low is_m is_n one other js ks more = rw (is_m, is_n) (
    more.0,
    omega (arith, more.1),
    omega (arith, more.2),
    one_problem (too_long number p) (too_long number q) (bad_rows js) (bad_rows ks) (same_words width number p q low one other) more.3,
  )

  one_alike : (number : ℕ) (p q : Record) → width ≤ 10 → Same p q ⊎ Long p q → (js ks : List Judged) → SameRows js ks
      → SameRows (judged width number p ∷ js) (judged width number q ∷ ks)
  one_alike number p q low (inl same) js ks more = rw same.0 (one_same number q (row_of width number q) js ks more)
  one_alike number p q low (inr long) js ks more =
      one_long number p q _ _ low (not_fitting p width number low (omega (arith, long.0))) (not_fitting q width number low long.1)
      (omega (arith, long.0)) long.1 js ks more

  nothing : SameRows [] []
  nothing = (refl, refl, refl, λ n. refl)

  rows_alike : width ≤ 10 → (number : ℕ) (ps qs : List Record) → AreAlike ps qs
      → SameRows (judged_from width number ps) (judged_from width number qs)
  unfolding judged_from
  rows_alike low number [] [] a = nothing
  rows_alike low number [] (q ∷ qs) a = absurd a
  rows_alike low number (p ∷ ps) [] a = absurd a
  rows_alike low number (p ∷ ps) (q ∷ qs) a = go (nat_le number last_judged) (rows_alike low (number + 1) ps qs a.1)
    where
      go : (b : Bool) → SameRows (judged_from width (number + 1) ps) (judged_from width (number + 1) qs)
          → SameRows (cond b (judged width number p ∷ judged_from width (number + 1) ps) [])
          (cond b (judged width number q ∷ judged_from width (number + 1) qs) [])
      go true more = one_alike number p q low a.0 _ _ more
      go false more = nothing

reading_alike : (width : ℕ) (js ks : List Judged) (r : Reading) → SameRows width js ks
    → IsReading (record { width = width; rows = js }) r → IsReading (record { width = width; rows = ks }) r
reading_alike width js ks r same is = record {
  rows = is.rows ∙ same.0;
  judged = is.judged ∙ same.1;
  bad = is.bad ∙ same.2;
  problems = is.problems ∙ same.3 most_told;
}

-- ---- and of files

under : (w : Option ℕ) → IfSome w (λ width. width ≤ 10) → (ps qs : List Record) → AreAlike ps qs → (r : Option Reading)
    → IsReadingOf (file_below (below_header w ps)) r → IsReadingOf (file_below (below_header w qs)) r
under None low ps qs a r is = is
under (Some width) low ps qs a None is = is
under (Some width) low ps qs a (Some r) is = reading_alike width _ _ r (rows_alike width low 1 ps qs a) is

first : (p q : Record) → Same p q ⊎ Long p q → (ps qs : List Record) → AreAlike ps qs → (r : Option Reading)
    → IsReadingOf (file_below (below (p ∷ ps))) r → IsReadingOf (file_below (below (q ∷ qs))) r
first p q (inl same) ps qs a r is =
    under (width_of q) (low_width q) ps qs a r (subst (λ x. IsReadingOf (file_below (below_header (width_of x) ps)) r) same.0 is)
first p q (inr long) ps qs a r is =
    subst (λ w. IsReadingOf (file_below (below_header w qs)) r) (sym (no_width q long.1))
    (subst (λ w. IsReadingOf (file_below (below_header w ps)) r) (no_width p (omega (arith, long.0))) is)

all : (ps qs : List Record) → AreAlike ps qs → (r : Option Reading)
    → IsReadingOf (file_below (below ps)) r → IsReadingOf (file_below (below qs)) r
all [] [] a r is = is
all [] (q ∷ qs) a r is = absurd a
all (p ∷ ps) [] a r is = absurd a
all (p ∷ ps) (q ∷ qs) a r is = first p q a.0 ps qs a.1 r is

-- ---- with the mark before it

abbrev pub marked : List ℕ → List ℕ
marked ys = (0xEF ∷ 0xBB ∷ 0xBF ∷ []) ++ ys

unmarked : (ys : List ℕ) → strip_bom (marked ys) ≡ ys
unfolding strip_bom
unmarked ys = refl

module _ (xs part : List ℕ) (start : ℕ) (begins : Begins xs start) (is : part ≡ marked (kept st.StartRecord 0 (drop start xs))) where
  read_of : strip_bom part ≡ kept st.StartRecord 0 (drop start xs)
  read_of = ap strip_bom is ∙ unmarked _

  pub told_alike : AreToldAlike part xs
  told_alike r is_of =
      subst (λ ys. IsReadingOf (file_below (below (records default_config ys))) r) (sym begins.0)
      (all _ _ (kept_alike (drop start xs)) r
      (subst (λ ys. IsReadingOf (file_below (below (records default_config ys))) r) read_of is_of))

  pub few_left : AreFew (records default_config (strip_bom part))
  few_left = subst (λ ys. AreFew (records default_config ys)) (sym read_of) (kept_few (drop start xs))
