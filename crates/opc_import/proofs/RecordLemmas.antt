-- What one read does to the records that are left.
use Rattle.std.proofs.Common.{
  Bor,
  ◌≡◌,
  ◌∙◌,
  ◌⊎◌,
  ◌+◌,
  ◌<◌,
  ℕ,
  zero,
  suc,
  Bool,
  true,
  false,
  List,
  [],
  ◌∷◌,
  ◌++◌,
  length,
  Some,
  None,
  sym,
  refl,
  ap,
  inl,
  inr,
  arith,
  add-one,
}
use Rattle.std.specs.Prelude.{Option, not, ◌&&◌, ◌==◌}
use Rattle.std.proofs.lemmas.Bool.{cases_Bool}
use Rattle.csv.specs.Machine.{Read, ends_at_end, is_end, next_record, step}
use Rattle.csv.specs.Reading.{
  NextIs,
  ReadRecord,
  ReadsNext,
  Ready,
  default_config,
  has_failed,
  pending_of,
  reader_config,
  reader_state,
  reader_trim,
  records_from,
  records_next,
  source_of,
}
use Rattle.csv.specs.declared.parser.State.{State}
use Rattle.csv.specs.declared.parser.State.TheVariants as st
use Rattle.csv.specs.declared.reader.Reader.{Reader}
use Rattle.csv.specs.declared.reader.Trim.TheVariants as trim
use Rattle.opc_import.specs.Columns.{Record}
use Rattle.opc_import.specs.Records.{IsPlainReader, TakesFirst, records_left, records_of_source}

-- a record takes at least one byte, or is the last of a text that has none left
abbrev pub Shrinks : List ℕ → Read → Type 0
Shrinks xs q = (length q.2 < length xs) ⊎ ((q.1 ≡ st.StartRecord) × (q.2 ≡ []))

some-inj : (a b : Read) → Some a ≡ Some b → a ≡ b
some-inj a b e = cc

none-some : (q : Read) → None ≡ Some q → ⊥
none-some q e = cc

shrinks-end : (s : State) (fields : List (List ℕ)) (field : List ℕ) (q : Read) → next_record default_config s fields field [] ≡ Some q → Shrinks [] q
unfolding next_record
shrinks-end s fields field q e = elim (cases_Bool (ends_at_end s)) [
  | inl ends ↦
      let h : (fields ++ (field ∷ []), st.StartRecord, []) ≡ q = some-inj _ q (rw ends at e) in
      inr (sym (ap (λ (r : Read). r.1) h), sym (ap (λ (r : Read). r.2) h))
  | inr not_yet ↦ absurd (none-some q (rw not_yet at e))
]

grows : (c : ℕ) (rest : List ℕ) (q : Read) → Shrinks rest q → length q.2 < length (c ∷ rest)
grows c rest q (inl less) = omega arith
grows c rest q (inr last) = rw last.1 (omega arith)

pub shrinks : (xs : List ℕ) (s : State) (fields : List (List ℕ)) (field : List ℕ) (q : Read)
    → next_record default_config s fields field xs ≡ Some q → Shrinks xs q
unfolding next_record
shrinks [] s fields field q e = shrinks-end s fields field q e
shrinks (c ∷ rest) s fields field q e = elim (cases_Bool (is_end (step default_config s c).1)) [
  | inl ends ↦
      let h = some-inj _ q (rw ends at e) in
      let same : q.2 ≡ rest = sym (ap (λ (r : Read). r.2) h) in
      inl (rw same (omega arith))
  | inr more ↦ inl (grows c rest q (shrinks rest _ _ _ q (rw more at e)))
]

none-left : (n : ℕ) → records_from default_config n st.StartRecord [] ≡ []
unfolding records_from next_record
none-left zero = refl
none-left (suc n) = refl

abbrev Agree : ℕ → ℕ → Type 0
Agree n m = (s : State) (ys : List ℕ) → length ys < n → length ys < m → records_from default_config n s ys ≡ records_from default_config m s ys

fuel-step : (n m : ℕ) → Agree n m → (xs : List ℕ) (s : State) (o : Option Read)
    → next_record default_config s [] [] xs ≡ o → length xs < suc n → length xs < suc m
    → records_next (records_from default_config n) o ≡ records_next (records_from default_config m) o
fuel-step n m agree xs s None e a b = refl
fuel-step n m agree xs s (Some q) e a b = ap (λ (t : List Record). q.0 ∷ t) (elim (shrinks xs s [] [] q e) [
  | inl less ↦ agree q.1 q.2 (omega arith) (omega arith)
  | inr last ↦ rw (last.0, last.1) (none-left n ∙ sym (none-left m))
])

-- with more steps than bytes, the records are the same
pub fuel : (n m : ℕ) → Agree n m
unfolding records_from
fuel zero m s ys a b = absurd (omega arith)
fuel (suc n) zero s ys a b = absurd (omega arith)
fuel (suc n) (suc m) s ys a b = fuel-step n m (fuel n m) ys s _ refl a b

-- the first of the records that are left
pub first-left : (s : State) (xs : List ℕ) (p : Read) → next_record default_config s [] [] xs ≡ Some p
    → records_of_source s (Some xs) ≡ p.0 ∷ records_of_source p.1 (Some p.2)
unfolding records_from
first-left s xs p e = rw (add-one (length xs), e) (ap (λ (t : List Record). p.0 ∷ t) (elim (shrinks xs s [] [] p e) [
  | inl less ↦ fuel (length xs) (length p.2 + 1) p.1 p.2 less (omega arith)
  | inr last ↦ rw (last.0, last.1) (none-left (length xs) ∙ sym (none-left 1))
]))

pub none-first : (s : State) (xs : List ℕ) → next_record default_config s [] [] xs ≡ None → records_of_source s (Some xs) ≡ []
unfolding records_from
none-first s xs e = rw (add-one (length xs), e) refl

takes-known : (s : State) (xs : List ℕ) (o : Option Read) → next_record default_config s [] [] xs ≡ o
    → (found : Bool) (fields : Record) (s2 : State) (ys : List ℕ)
    → NextIs o found fields s2 ys → TakesFirst (records_of_source s (Some xs)) found fields (records_of_source s2 (Some ys))
takes-known s xs None e found fields s2 ys h = rw h (none-first s xs e)
takes-known s xs (Some p) e found fields s2 ys h = rw (h.0, h.1, h.2, h.3) (first-left s xs p e)

takes-source : (s : State) (source : Option (List ℕ)) (after : Option (List ℕ)) (found : Bool) (fields : Record) (s2 : State) → (source ≡ None → found ≡ false)
    → ReadsNext default_config s source after found fields s2 → TakesFirst (records_of_source s source) found fields (records_of_source s2 after)
takes-source s None after found fields s2 stopped h = rw (stopped refl) refl
takes-source s (Some xs) None found fields s2 stopped h = absurd h
takes-source s (Some xs) (Some ys) found fields s2 stopped h = takes-known s xs _ refl found fields s2 ys h

-- a read takes the first of the records that are left
pub takes-first : (old new : Reader (Bor (List ℕ))) (found : Bool) (fields : Record)
    → reader_config old ≡ default_config → (source_of (λ b. Some b.now) old ≡ None → found ≡ false)
    → ReadRecord (λ b. Some b.now) old new found fields → TakesFirst (records_left old) found fields (records_left new)
takes-first old new found fields config stopped h =
    rw h.1 (takes-source (reader_state old) (source_of (λ b. Some b.now) old) (pending_of (Some new.rdr.now) new) found
    fields (reader_state new) stopped (rw config at h.0))

-- a reader over memory knows its bytes until it fails
known-source : (r : Reader (Bor (List ℕ))) → has_failed r ≡ false → source_of (λ b. Some b.now) r ≡ None → ⊥
known-source r going e = elim (cases_Bool (not r.bom_checked && (r.at == 0) && (r.filled == 0))) [
  | inl fresh ↦ cc (rw (going, fresh) at e)
  | inr begun ↦ cc (rw (going, begun) at e)
]

-- a read of a plain reader takes the first of the records that are left
pub takes-plain : (old new : Reader (Bor (List ℕ))) (found : Bool) (fields : Record) → IsPlainReader old → (has_failed old ≡ true → found ≡ false)
    → (reader_trim old ≡ trim.None → Ready old → ReadRecord (λ b. Some b.now) old new found fields)
    → TakesFirst (records_left old) found fields (records_left new)
takes-plain old new found fields (inl failed) stopped reads = rw (stopped failed, failed) refl
takes-plain old new found fields (inr open_reader) stopped reads = elim (cases_Bool (has_failed old)) [
  | inl failed ↦ rw (stopped failed, failed) refl
  | inr going ↦ takes-first old new found fields open_reader.config (λ e. absurd (known-source old going e)) (reads open_reader.trim open_reader.ready)
]
