-- A text that is cut like this is read as the whole text is, and no record of it has more than eleven fields.
use Rattle.std.proofs.Common.{◌≡◌, ◌∙◌, ◌+◌, ◌-◌, ◌≤◌, ℕ, zero, suc, Bool, true, false, cond, List, [], ◌∷◌, ◌++◌, length, take, drop}
use Rattle.std.proofs.Common.{Option, Some, None, IfSome, Err, Decides, sym, refl, ap, subst, inl, inr, arith, add-one}
use Rattle.std.specs.Prelude.{◌==◌, ◌&&◌, nat_eq}
use Rattle.std.specs.List.{AllByRecursion, starts_with}
use Rattle.std.proofs.lemmas.Bool.{cases_Bool, false≢true}
use Rattle.std.proofs.lemmas.Bool.Decides.{Decides-eqb, nat_tests}
use Rattle.std.proofs.lemmas.List.{length-drop, take-append-drop, take_all}
use Rattle.std.proofs.lemmas.Slice.Eq.{starts_is}
use Rattle.csv.specs.Machine.{Read, next_record}
use Rattle.csv.specs.Reading.{default_config, is_bom, records, records_from, records_next, strip_bom}
use Rattle.csv.specs.declared.parser.State.{State}
use Rattle.csv.specs.declared.parser.State.TheVariants as st
use Rattle.opc_import.specs.Columns.{Record, columns, first_columns, is_header, width_of}
use Rattle.opc_import.specs.Extent.{AreReadAlike}
use Rattle.opc_import.specs.Files.{policy_of, rows_below, rows_from, rows_of, with_row}
use Rattle.opc_import.specs.Kinds.{row_of}
use Rattle.opc_import.proofs.Cutting.{Alike, alike, cut}
use Rattle.opc_import.proofs.RecordLemmas.{fuel}
use Rattle.opc_import.proofs.TextLemmas.{both}
use Rattle.opc_terms.specs.declared.fault.Why.TheVariants as why

-- ---- the rows of the part are those of the whole

not_fitting : (fields : Record) (width number : ℕ) → width ≤ 10 → 11 ≤ length fields → row_of width number fields ≡ Err why.Columns
not_fitting fields width number low many =
    let other : (length fields == width) ≡ false = grind (arith, nat_tests, low, many) in
    rw other refl

no_width : (fields : Record) → 11 ≤ length fields → width_of fields ≡ None
no_width fields many =
    let all : (length fields == 10) ≡ false = grind (arith, nat_tests, many) in
    let first : (length fields == 8) ≡ false = grind (arith, nat_tests, many) in
    rw (all, first) refl

low_width : (fields : Record) → IfSome (width_of fields) (λ width. width ≤ 10)
low_width fields = go (is_header columns fields) (is_header first_columns fields)
  where
    go : (a b : Bool) → IfSome (cond a (Some (length columns)) (cond b (Some (length first_columns)) None)) (λ width. width ≤ 10)
    go true b = omega arith
    go false true = omega arith
    go false false = tt

abbrev RowsAlike : ℕ → Type 0
RowsAlike k = (width number : ℕ) → width ≤ 10 → (s : State) (xs : List ℕ)
    → rows_from width number (records_from default_config k s (cut s 0 xs)) ≡ rows_from width number (records_from default_config k s xs)

next_rows : (k : ℕ) → RowsAlike k → (width number : ℕ) → width ≤ 10 → (o q : Option Read) → Alike o q
    → rows_from width number (records_next (records_from default_config k) o) ≡ rows_from width number (records_next (records_from default_config k) q)
unfolding rows_from
next_rows k more width number low None None a = refl
next_rows k more width number low None (Some q) a = absurd a
next_rows k more width number low (Some p) None a = absurd a
next_rows k more width number low (Some p) (Some q) (inl same) =
    rw (same.0, same.2, same.3) (ap (with_row number (row_of width number q.0)) (more width (number + 1) low q.1 q.2))
next_rows k more width number low (Some p) (Some q) (inr long) =
    rw (not_fitting p.0 width number low (omega (arith, long.0)), not_fitting q.0 width number low long.1) refl

rows_alike : (k : ℕ) → RowsAlike k
unfolding records_from
rows_alike zero width number low s xs = refl
rows_alike (suc k) width number low s xs = next_rows k (rows_alike k) width number low _ _ (alike xs s [] [] 0 refl (omega arith))

below_alike : (k : ℕ) → (w : Option ℕ) → IfSome w (λ width. width ≤ 10) → (s : State) (xs : List ℕ)
    → rows_below w (records_from default_config k s (cut s 0 xs)) ≡ rows_below w (records_from default_config k s xs)
below_alike k None low s xs = refl
below_alike k (Some width) low s xs = rows_alike k width 1 low s xs

first_alike : (k : ℕ) (o q : Option Read) → Alike o q
    → rows_of (records_next (records_from default_config k) o) ≡ rows_of (records_next (records_from default_config k) q)
first_alike k None None a = refl
first_alike k None (Some q) a = absurd a
first_alike k (Some p) None a = absurd a
first_alike k (Some p) (Some q) (inl same) = rw (same.0, same.2, same.3) (below_alike k (width_of q.0) (low_width q.0) q.1 q.2)
first_alike k (Some p) (Some q) (inr long) = rw (no_width p.0 (omega (arith, long.0)), no_width q.0 long.1) refl

cut_alike : (k : ℕ) (s : State) (xs : List ℕ)
    → rows_of (records_from default_config (suc k) s (cut s 0 xs)) ≡ rows_of (records_from default_config (suc k) s xs)
unfolding records_from
cut_alike k s xs = first_alike k _ _ (alike xs s [] [] 0 refl (omega arith))

-- a part that is cut like this is read as the whole is
pub read_alike : (xs part : List ℕ) → cut st.StartRecord 0 xs ≡ part → length part ≤ length xs → AreReadAlike part xs
read_alike xs part is fits =
    ap rows_of (fuel (length part + 1) (length xs + 1) st.StartRecord part (omega arith) (omega arith))
    ∙ rw (add-one (length xs), ← is) (cut_alike (length xs) st.StartRecord xs)

-- ---- no record of the part has more than eleven fields

abbrev AreFew : List Record → Type 0
AreFew = AllByRecursion (λ (fields : Record). length fields ≤ 11)

none_more : (k : ℕ) → AreFew (records_from default_config k st.StartRecord [])
unfolding records_from next_record
none_more zero = tt
none_more (suc k) = tt

next_few : (k : ℕ) → ((s : State) (xs : List ℕ) → AreFew (records_from default_config k s (cut s 0 xs))) → (o q : Option Read) → Alike o q
    → AreFew (records_next (records_from default_config k) o)
next_few k more None q a = tt
next_few k more (Some p) None a = absurd a
next_few k more (Some p) (Some q) (inl same) = (rw same.0 (omega (arith, same.1)), rw (same.2, same.3) (more q.1 q.2))
next_few k more (Some p) (Some q) (inr long) = (omega (arith, long.0), rw (long.2, long.3) (none_more k))

few_from : (k : ℕ) (s : State) (xs : List ℕ) → AreFew (records_from default_config k s (cut s 0 xs))
unfolding records_from
few_from zero s xs = tt
few_from (suc k) s xs = next_few k (few_from k) _ _ (alike xs s [] [] 0 refl (omega arith))

pub few_fields : (xs part : List ℕ) → cut st.StartRecord 0 xs ≡ part → AreFew (records default_config part)
few_fields xs part is = subst (λ (p : List ℕ). AreFew (records default_config p)) is
    (few_from (length (cut st.StartRecord 0 xs) + 1) st.StartRecord xs)

-- ---- the mark before the header

abbrev mark : List ℕ
mark = 0xEF ∷ 0xBB ∷ 0xBF ∷ []

-- with a mark, what follows it is cut
marked_rest : (ys : List ℕ) → strip_bom (mark ++ ys) ≡ ys
unfolding strip_bom
marked_rest ys = refl

marked_part : (ys : List ℕ) (n : ℕ) → take (3 + n) (mark ++ ys) ≡ mark ++ take n ys
marked_part ys n = let more : 3 + n ≡ suc (suc (suc n)) = omega arith in rw more refl

nat_decides : (a b : ℕ) → Decides (nat_eq a b) (a ≡ b)
nat_decides a b = Decides-eqb a b

pub marked : (xs : List ℕ) (r : Bool) → r ≡ starts_with nat_eq xs mark → r ≡ true
    → (strip_bom xs ≡ drop 3 xs) × ((n : ℕ) → strip_bom (take (3 + n) xs) ≡ take n (drop 3 xs))
marked xs r is holds =
    let from : xs ≡ mark ++ drop 3 xs = (starts_is nat_decides xs mark r is).0 holds in (
      ap strip_bom from ∙ marked_rest (drop 3 xs),
      λ n. ap (λ (ys : List ℕ). strip_bom (take (3 + n) ys)) from ∙ ap strip_bom (marked_part (drop 3 xs) n) ∙ marked_rest (take n (drop 3 xs)),
    )

-- without one, it stays without one
no_mark : (xs : List ℕ) → ((rest : List ℕ) → xs ≡ mark ++ rest → ⊥) → strip_bom xs ≡ xs
unfolding strip_bom
no_mark [] none = refl
no_mark (a ∷ []) none = refl
no_mark (a ∷ b ∷ []) none = refl
no_mark (a ∷ b ∷ c ∷ rest) none = elim (cases_Bool (is_bom a b c)) [
  | inl is ↦
      let two = both ((a == 0xEF) && (b == 0xBB)) (c == 0xBF) is in
      let one = both (a == 0xEF) (b == 0xBB) two.0 in
      let first : a ≡ 0xEF = grind (arith, nat_tests, one.0) in
      let second : b ≡ 0xBB = grind (arith, nat_tests, one.1) in
      let third : c ≡ 0xBF = grind (arith, nat_tests, two.1) in
      absurd (none rest (rw (first, second, third) refl))
  | inr is_not ↦ rw is_not refl
]

pub unmarked : (xs : List ℕ) (r : Bool) → r ≡ starts_with nat_eq xs mark → r ≡ false
    → (strip_bom xs ≡ xs) × ((n : ℕ) → strip_bom (take n xs) ≡ take n xs)
unmarked xs r is fails =
    let none : (rest : List ℕ) → xs ≡ mark ++ rest → ⊥ = λ rest e. false≢true (sym fails ∙ (starts_is nat_decides xs mark r is).1 rest e) in (
      no_mark xs none,
      λ n. no_mark (take n xs) (λ rest e. none (rest ++ drop n xs) (sym (take-append-drop n xs) ∙ ap (λ (ys : List ℕ). ys ++ drop n xs) e)),
    )

-- ---- what is read after the mark

-- after this many bytes the text begins, and a part of it with them
abbrev pub Begins : List ℕ → ℕ → Type 0
Begins xs start = (strip_bom xs ≡ drop start xs) × ((n : ℕ) → strip_bom (take (start + n) xs) ≡ take n (drop start xs))

pub begins_marked : (xs : List ℕ) (start : ℕ) (r : Bool) → start ≡ 3 → r ≡ starts_with nat_eq xs mark → r ≡ true → Begins xs start
begins_marked xs start r three is holds = subst (Begins xs) (sym three) (marked xs r is holds)

pub begins_unmarked : (xs : List ℕ) (start : ℕ) (r : Bool) → start ≡ 0 → r ≡ starts_with nat_eq xs mark → r ≡ false → Begins xs start
begins_unmarked xs start r none is fails =
    let whole = unmarked xs r is fails in
    subst (Begins xs) (sym none) (whole.0, λ n. let same : 0 + n ≡ n = omega arith in ap (λ k. strip_bom (take k xs)) same ∙ whole.1 n)

rest_whole : (xs : List ℕ) (n : ℕ) → take (length xs - n) (drop n xs) ≡ drop n xs
rest_whole xs n = take_all (length xs - n) (drop n xs) (omega (arith, length-drop n xs))

module _ (xs : List ℕ) (start length_read : ℕ) (begins : Begins xs start) where
  abbrev rest : List ℕ
  rest = take (length xs - start) (drop start xs)

  pub extent_same : AreReadAlike (take length_read rest) rest → policy_of (take (start + length_read) xs) ≡ policy_of xs
  extent_same reads =
      let after : AreReadAlike (take length_read (drop start xs)) (drop start xs) =
      subst (λ ys. AreReadAlike (take length_read ys) ys) (rest_whole xs start) reads in
      ap (λ ys. rows_of (records default_config ys)) (begins.1 length_read) ∙ after
      ∙ sym (ap (λ ys. rows_of (records default_config ys)) begins.0)

  pub extent_few : AreFew (records default_config (take length_read rest)) → AreFew (records default_config (strip_bom (take (start + length_read) xs)))
  extent_few few = subst (λ ys. AreFew (records default_config ys))
      (ap (take length_read) (rest_whole xs start) ∙ sym (begins.1 length_read)) few
