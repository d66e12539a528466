-- What is kept of a text: its records.
use Rattle.std.proofs.Common.{◌≡◌, ◌∙◌, ◌⊎◌, ◌+◌, ◌<◌, ◌≤◌, ℕ, zero, suc, Bool, true, false, cond, List, [], ◌∷◌, ◌++◌, length}
use Rattle.std.proofs.Common.{Option, Some, None, sym, refl, ap, inl, inr, arith, subst, drop, get_or}
use Rattle.std.specs.Prelude.{◌==◌, ◌||◌, if◌then◌else◌, nat_lt}
use Rattle.std.specs.List.{AllByRecursion}
use Rattle.std.proofs.lemmas.Bool.{false≢true}
use Rattle.std.proofs.lemmas.Bool.Decides.{nat_tests}
use Rattle.std.proofs.lemmas.List.{append-nil, append_assoc, at_drop_all, at_drop_more, length-append}
use Rattle.csv.specs.Machine.{Read, after_end, ends_at_end, ends_with, field_after, fields_after}
use Rattle.csv.specs.Machine.{in_field, is_end, next_record, start_field, start_record, step}
use Rattle.csv.specs.Reading.{default_config, records, records_from, records_next}
use Rattle.csv.specs.declared.parser.Action.{Action}
use Rattle.csv.specs.declared.parser.Action.TheVariants as act
use Rattle.csv.specs.declared.parser.State.{State}
use Rattle.csv.specs.declared.parser.State.TheVariants as st
use Rattle.csv.specs.declared.parser.Terminator.TheVariants as term
use Rattle.opc_import.specs.Columns.{Record}
use Rattle.opc_import.proofs.RecordLemmas.{fuel}
use Rattle.opc_import.specs.CsvBytes.{end_of}
use Rattle.opc_check.specs.Excess.{ended_after, is_kept, kept}

-- ---- within a record

abbrev is_within : State → Bool
is_within st.StartRecord = false
is_within st.AfterCr = false
is_within st.InComment = false
is_within st.StartField = true
is_within st.InField = true
is_within st.InQuoted = true
is_within st.AfterQuote = true
is_within st.InEscape = true

within_ends : (s : State) → is_within s ≡ true → ends_at_end s ≡ true
within_ends st.StartRecord h = cc
within_ends st.AfterCr h = cc
within_ends st.InComment h = cc
within_ends st.StartField h = refl
within_ends st.InField h = refl
within_ends st.InQuoted h = refl
within_ends st.AfterQuote h = refl
within_ends st.InEscape h = refl

-- a byte ends the record, as the first byte of a field would, or it stays within it
abbrev Goes : ℕ → State × Action → Type 0
Goes c p = ((is_end p.1 ≡ true) × (start_field default_config c ≡ p)) ⊎ ((is_end p.1 ≡ false) × (is_within p.0 ≡ true))

no_quote : (c : ℕ) → ends_with term.CRLF c ≡ true → (c == 34) ≡ false
no_quote c h = go (c == 13) (c == 10) refl refl h
  where
    go : (a b : Bool) → (c == 13) ≡ a → (c == 10) ≡ b → (a || b) ≡ true → (c == 34) ≡ false
    go true b is other h = let e : c ≡ 13 = grind (arith, nat_tests, is) in ap (λ x. x == 34) e
    go false true is feed h = let e : c ≡ 10 = grind (arith, nat_tests, feed) in ap (λ x. x == 34) e
    go false false is feed h = absurd (false≢true h)

first_is : (c : ℕ) → ends_with term.CRLF c ≡ true → start_field default_config c ≡ in_field default_config c
first_is c h = ap (λ b. cond b (st.InQuoted, act.Skip) (in_field default_config c)) (no_quote c h)

abbrev ends_or_copies : ℕ → Bool → State × Action
ends_or_copies c b = cond b (after_end term.CRLF c, act.EndRecord) (st.InField, act.Copy)

ends_it : (c : ℕ) → (c == 44) ≡ false → ends_with term.CRLF c ≡ true → in_field default_config c ≡ (after_end term.CRLF c, act.EndRecord)
ends_it c other ends =
    ap (λ b. cond b (st.StartField, act.EndField) (ends_or_copies c (ends_with term.CRLF c))) other ∙ ap (ends_or_copies c) ends

field_goes : (c : ℕ) → Goes c (in_field default_config c)
field_goes c = go (c == 44) (ends_with term.CRLF c) refl refl
  where
    go : (a b : Bool) → (c == 44) ≡ a → ends_with term.CRLF c ≡ b
        → Goes c (cond a (st.StartField, act.EndField) (cond b (after_end term.CRLF c, act.EndRecord) (st.InField, act.Copy)))
    go true b is ends = inr (refl, refl)
    go false true is ends = inl (refl, first_is c ends ∙ ends_it c is ends)
    go false false is ends = inr (refl, refl)

either_goes : (c : ℕ) (b : Bool) (p q : State × Action) → Goes c p → Goes c q → Goes c (cond b p q)
either_goes c true p q one other = one
either_goes c false p q one other = other

first_goes : (c : ℕ) → Goes c (start_field default_config c)
first_goes c = either_goes c (c == 34) (st.InQuoted, act.Skip) (in_field default_config c) (inr (refl, refl)) (field_goes c)

goes : (s : State) (c : ℕ) → is_within s ≡ true → Goes c (step default_config s c)
goes st.StartRecord c h = absurd (cc)
goes st.AfterCr c h = absurd (cc)
goes st.InComment c h = absurd (cc)
goes st.StartField c h = first_goes c
goes st.InField c h = field_goes c
goes st.InQuoted c h = either_goes c (c == 34) (st.AfterQuote, act.Skip) (st.InQuoted, act.Copy) (inr (refl, refl)) (inr (refl, refl))
goes st.AfterQuote c h = either_goes c (c == 34) (st.InQuoted, act.Copy) (in_field default_config c) (inr (refl, refl)) (field_goes c)
goes st.InEscape c h = inr (refl, refl)

-- ---- after a byte that ends a field, a field starts

abbrev StartsField : State × Action → Type 0
StartsField p = p.1 ≡ act.EndField → p.0 ≡ st.StartField

skips : (s : State) → StartsField (s, act.Skip)
skips s h = absurd (cc)

copies : (s : State) → StartsField (s, act.Copy)
copies s h = absurd (cc)

field_starts : (c : ℕ) → StartsField (in_field default_config c)
field_starts c = go (c == 44) (ends_with term.CRLF c)
  where
    go : (a b : Bool) → StartsField (cond a (st.StartField, act.EndField) (cond b (after_end term.CRLF c, act.EndRecord) (st.InField, act.Copy)))
    go true b h = refl
    go false true h = absurd (cc)
    go false false h = absurd (cc)

either_starts : (b : Bool) (p q : State × Action) → StartsField p → StartsField q → StartsField (cond b p q)
either_starts true p q one other = one
either_starts false p q one other = other

first_starts : (c : ℕ) → StartsField (start_field default_config c)
first_starts c = either_starts (c == 34) (st.InQuoted, act.Skip) (in_field default_config c) (skips st.InQuoted) (field_starts c)

record_starts : (c : ℕ) → StartsField (start_record default_config c)
record_starts c = either_starts (ends_with term.CRLF c) (st.StartRecord, act.Skip) (start_field default_config c) (skips st.StartRecord) (first_starts c)

starts : (s : State) (c : ℕ) → StartsField (step default_config s c)
starts st.StartRecord c = record_starts c
starts st.AfterCr c = either_starts (c == 10) (st.StartRecord, act.Skip) (start_record default_config c) (skips st.StartRecord) (record_starts c)
starts st.InComment c = either_starts (c == 10) (st.StartRecord, act.Skip) (st.InComment, act.Skip) (skips st.StartRecord) (skips st.InComment)
starts st.StartField c = first_starts c
starts st.InField c = field_starts c
starts st.InQuoted c = either_starts (c == 34) (st.AfterQuote, act.Skip) (st.InQuoted, act.Copy) (skips st.AfterQuote) (copies st.InQuoted)
starts st.AfterQuote c = either_starts (c == 34) (st.InQuoted, act.Copy) (in_field default_config c) (copies st.InQuoted) (field_starts c)
starts st.InEscape c = copies st.InQuoted

-- ---- a record of what is kept is that of the whole, or both have more than ten fields

one_field : (fields : List (List ℕ)) (field : List ℕ) → length (fields ++ (field ∷ [])) ≡ length fields + 1
one_field fields field = length-append fields (field ∷ [])

abbrev pub Same : Record → Record → Type 0
Same p q = (p ≡ q) × (length q ≤ 10)

abbrev pub Long : Record → Record → Type 0
Long p q = (length p ≡ 11) × (11 ≤ length q)

abbrev Alike : Option Read → Option Read → Type 0
Alike None None = Unit {0}
Alike (Some p) (Some q) = (Same p.0 q.0 ⊎ Long p.0 q.0) × (p.1 ≡ q.1) × (p.2 ≡ kept q.1 0 q.2)
Alike None (Some q) = ⊥
Alike (Some p) None = ⊥

-- past the tenth field

abbrev IsPast : List ℕ → Type 0
IsPast rest = (s : State) (ten fields : Record) (field : List ℕ) → is_within s ≡ true → length ten ≡ 10 → 10 ≤ length fields
    → Alike (next_record default_config st.StartField ten [] (kept s 10 rest)) (next_record default_config s fields field rest)

ended_by : (c : ℕ) (rest : List ℕ) (ten fields : Record) (field : List ℕ) (t : State) (p : State × Action) → p ≡ (t, act.EndRecord)
    → length ten ≡ 10 → 10 ≤ length fields
    → Alike (cond (is_end p.1) (Some (fields_after p.1 ten [], p.0, kept t 0 rest))
    (next_record default_config p.0 (fields_after p.1 ten []) (field_after p.1 c []) (kept t 0 rest)))
    (Some (fields ++ (field ∷ []), t, rest))
ended_by c rest ten fields field t p is long more =
    subst (λ (q : State × Action). Alike (cond (is_end q.1) (Some (fields_after q.1 ten [], q.0, kept t 0 rest))
    (next_record default_config q.0 (fields_after q.1 ten []) (field_after q.1 c []) (kept t 0 rest)))
    (Some (fields ++ (field ∷ []), t, rest))) (sym is)
    (inr (omega (arith, one_field ten [], long), omega (arith, one_field fields field, more)), refl, refl)

ended_past : (c : ℕ) (rest : List ℕ) (ten fields : Record) (field : List ℕ) (t : State) → start_field default_config c ≡ (t, act.EndRecord)
    → length ten ≡ 10 → 10 ≤ length fields
    → Alike (next_record default_config st.StartField ten [] (c ∷ kept t 0 rest)) (Some (fields ++ (field ∷ []), t, rest))
unfolding next_record
ended_past c rest ten fields field t is long more =
    ended_by c rest ten fields field t (step default_config st.StartField c) is long more

past_byte : (c : ℕ) (rest : List ℕ) (ten fields : Record) (field : List ℕ) → IsPast rest → (p : State × Action) → Goes c p
    → length ten ≡ 10 → 10 ≤ length fields
    → Alike (next_record default_config st.StartField ten []
    (cond (is_kept (end_of p.1) 10) (c ∷ kept p.0 (ended_after (end_of p.1) 10) rest) (kept p.0 (ended_after (end_of p.1) 10) rest)))
    (cond (is_end p.1) (Some (fields_after p.1 fields field, p.0, rest))
    (next_record default_config p.0 (fields_after p.1 fields field) (field_after p.1 c field) rest))
past_byte c rest ten fields field later (t, act.EndRecord) (inl ends) long more = ended_past c rest ten fields field t ends.1 long more
past_byte c rest ten fields field later (t, act.EndRecord) (inr stays) long more = absurd (false≢true (sym stays.0))
past_byte c rest ten fields field later (t, act.EndField) (inl ends) long more = absurd (false≢true ends.0)
past_byte c rest ten fields field later (t, act.EndField) (inr stays) long more =
    later t ten (fields ++ (field ∷ [])) [] stays.1 long (omega (arith, one_field fields field, more))
past_byte c rest ten fields field later (t, act.Skip) (inl ends) long more = absurd (false≢true ends.0)
past_byte c rest ten fields field later (t, act.Skip) (inr stays) long more = later t ten fields field stays.1 long more
past_byte c rest ten fields field later (t, act.Copy) (inl ends) long more = absurd (false≢true ends.0)
past_byte c rest ten fields field later (t, act.Copy) (inr stays) long more = later t ten fields (field ++ (c ∷ [])) stays.1 long more

past : (xs : List ℕ) → IsPast xs
unfolding next_record kept
past [] s ten fields field within long more = rw (within_ends s within) (
  inr (omega (arith, one_field ten [], long), omega (arith, one_field fields field, more)),
  refl,
  refl,
)
past (c ∷ rest) s ten fields field within long more =
    past_byte c rest ten fields field (past rest) (step default_config s c) (goes s c within) long more

-- within the first ten

abbrev IsAlike : List ℕ → Type 0
IsAlike rest = (s : State) (fields : Record) (field : List ℕ) (n : ℕ) → length fields ≡ n → n < 10
    → Alike (next_record default_config s fields field (kept s n rest)) (next_record default_config s fields field rest)

-- the tenth field ends, or one before it
field_alike : (rest : List ℕ) (t : State) (fields : Record) (n : ℕ) → IsAlike rest → t ≡ st.StartField → length fields ≡ n + 1 → n < 10
    → (b : Bool) → (n + 1 == 10) ≡ b
    → Alike (next_record default_config t fields [] (kept t (n + 1) rest)) (next_record default_config t fields [] rest)
field_alike rest t fields n more starts_it long few true e =
    let ten : n + 1 ≡ 10 = grind (arith, nat_tests, e) in
    rw (ten, starts_it) (past rest st.StartField fields fields [] refl (long ∙ ten) (omega (arith, long, ten)))
field_alike rest t fields n more starts_it long few false e = more t fields [] (n + 1) long (grind (arith, nat_tests, e, few))

byte_alike : (c : ℕ) (rest : List ℕ) (fields : Record) (field : List ℕ) (n : ℕ) → IsAlike rest → length fields ≡ n → n < 10
    → (p : State × Action) → StartsField p
    → Alike (cond (is_end p.1) (Some (fields_after p.1 fields field, p.0, kept p.0 (ended_after (end_of p.1) n) rest))
    (next_record default_config p.0 (fields_after p.1 fields field) (field_after p.1 c field) (kept p.0 (ended_after (end_of p.1) n) rest)))
    (cond (is_end p.1) (Some (fields_after p.1 fields field, p.0, rest))
    (next_record default_config p.0 (fields_after p.1 fields field) (field_after p.1 c field) rest))
byte_alike c rest fields field n more long few (t, act.EndRecord) on =
    (inl (refl, omega (arith, one_field fields field, long)), refl, refl)
byte_alike c rest fields field n more long few (t, act.Skip) on = more t fields field n long few
byte_alike c rest fields field n more long few (t, act.Copy) on = more t fields (field ++ (c ∷ [])) n long few
byte_alike c rest fields field n more long few (t, act.EndField) on =
    let low : nat_lt n 10 ≡ true = grind (arith, nat_tests, few) in
    let is : (if nat_lt n 10 then n + 1 else n) ≡ n + 1 = ap (λ (b : Bool). cond b (n + 1) n) low in
    subst (λ k. Alike (next_record default_config t (fields ++ (field ∷ [])) [] (kept t k rest))
    (next_record default_config t (fields ++ (field ∷ [])) [] rest)) (sym is)
    (field_alike rest t (fields ++ (field ∷ [])) n more (on refl) (omega (arith, one_field fields field, long)) few (n + 1 == 10) refl)

-- a byte of the first ten fields is kept
keeps : (a : Action) (n : ℕ) → n < 10 → is_kept (end_of a) n ≡ true
keeps act.EndRecord n few = refl
keeps act.EndField n few = grind (arith, nat_tests, few)
keeps act.Skip n few = grind (arith, nat_tests, few)
keeps act.Copy n few = grind (arith, nat_tests, few)

kept_first : (s : State) (n c : ℕ) (rest : List ℕ) → n < 10
    → kept s n (c ∷ rest) ≡ c ∷ kept (step default_config s c).0 (ended_after (end_of (step default_config s c).1) n) rest
unfolding kept
kept_first s n c rest few =
    let more = kept (step default_config s c).0 (ended_after (end_of (step default_config s c).1) n) rest in
    ap (λ (b : Bool). cond b (c ∷ more) more) (keeps (step default_config s c).1 n few)

last_is : (b : Bool) (fields : Record) → length fields ≤ 10
    → Alike (cond b (Some (fields, st.StartRecord, [])) None) (cond b (Some (fields, st.StartRecord, [])) None)
unfolding kept
last_is true fields few = (inl (refl, few), refl, refl)
last_is false fields few = tt

none_kept : (s : State) (n : ℕ) → kept s n [] ≡ []
unfolding kept
none_kept s n = refl

alike : (xs : List ℕ) → IsAlike xs
unfolding next_record
alike [] s fields field n long few =
    rw (none_kept s n) (last_is (ends_at_end s) (fields ++ (field ∷ [])) (omega (arith, one_field fields field, long)))
alike (c ∷ rest) s fields field n long few =
    rw (kept_first s n c rest few) (byte_alike c rest fields field n (alike rest) long few (step default_config s c) (starts s c))

-- ---- all records

-- one by one, records are the same or both too long
abbrev pub AreAlike : List Record → List Record → Type 0
AreAlike [] [] = Unit {0}
AreAlike (p ∷ ps) (q ∷ qs) = (Same p q ⊎ Long p q) × AreAlike ps qs
AreAlike [] (q ∷ qs) = ⊥
AreAlike (p ∷ ps) [] = ⊥

abbrev AllAlike : ℕ → Type 0
AllAlike k = (s : State) (xs : List ℕ) → AreAlike (records_from default_config k s (kept s 0 xs)) (records_from default_config k s xs)

next_alike : (k : ℕ) → AllAlike k → (o q : Option Read) → Alike o q
    → AreAlike (records_next (records_from default_config k) o) (records_next (records_from default_config k) q)
next_alike k more None None a = tt
next_alike k more None (Some q) a = absurd a
next_alike k more (Some p) None a = absurd a
next_alike k more (Some p) (Some q) a = (a.0, rw (a.1, a.2) (more q.1 q.2))

all_alike : (k : ℕ) → AllAlike k
unfolding records_from
all_alike zero s xs = tt
all_alike (suc k) s xs = next_alike k (all_alike k) _ _ (alike xs s [] [] 0 refl (omega arith))

shorter : (s : State) (n : ℕ) (xs : List ℕ) → length (kept s n xs) ≤ length xs
unfolding kept
shorter s n [] = omega arith
shorter s n (c ∷ rest) = go (is_kept (end_of (step default_config s c).1) n)
    (kept (step default_config s c).0 (ended_after (end_of (step default_config s c).1) n) rest)
    (shorter (step default_config s c).0 (ended_after (end_of (step default_config s c).1) n) rest)
  where
    go : (b : Bool) (ys : List ℕ) → length ys ≤ length rest → length (cond b (c ∷ ys) ys) ≤ length (c ∷ rest)
    go true ys h = omega (arith, h)
    go false ys h = omega (arith, h)

pub kept_alike : (xs : List ℕ) → AreAlike (records default_config (kept st.StartRecord 0 xs)) (records default_config xs)
kept_alike xs =
    let part = kept st.StartRecord 0 xs in
    subst (λ rs. AreAlike rs (records default_config xs))
    (sym (fuel (length part + 1) (length xs + 1) st.StartRecord part (omega arith) (omega (arith, shorter st.StartRecord 0 xs))))
    (all_alike (length xs + 1) st.StartRecord xs)

-- ---- no record of what is kept has more than eleven fields

abbrev pub AreFew : List Record → Type 0
AreFew = AllByRecursion (λ (fields : Record). length fields ≤ 11)

few_of : (p q : Record) → Same p q ⊎ Long p q → length p ≤ 11
few_of p q (inl same) = rw same.0 (omega (arith, same.1))
few_of p q (inr long) = omega (arith, long.0)

few_alike : (ps qs : List Record) → AreAlike ps qs → AreFew ps
few_alike [] [] a = tt
few_alike [] (q ∷ qs) a = absurd a
few_alike (p ∷ ps) [] a = absurd a
few_alike (p ∷ ps) (q ∷ qs) a = (few_of p q a.0, few_alike ps qs a.1)

pub kept_few : (xs : List ℕ) → AreFew (records default_config (kept st.StartRecord 0 xs))
kept_few xs = few_alike _ (records default_config xs) (kept_alike xs)

-- ---- a byte more

module _ (all now text : List ℕ) (s : State) (n at byte : ℕ) (low : at < length text) (is : byte ≡ get_or text at 0)
    (so_far : all ≡ now ++ kept s n (drop at text)) where
  abbrev later : List ℕ
  later = kept (step default_config s byte).0 (ended_after (end_of (step default_config s byte).1) n) (drop (at + 1) text)

  here : kept s n (drop at text) ≡ kept s n (byte ∷ drop (at + 1) text)
  here = at_drop_more (kept s n) text at 0 low ∙ ap (λ b. kept s n (b ∷ drop (at + 1) text)) (sym is)

  pub byte_kept : is_kept (end_of (step default_config s byte).1) n ≡ true → all ≡ (now ++ byte ∷ []) ++ later
  unfolding kept
  byte_kept keeps_it =
      so_far ∙ ap (λ t. now ++ t) (here ∙ ap (λ (b : Bool). cond b (byte ∷ later) later) keeps_it)
      ∙ sym (append_assoc now (byte ∷ []) later)

  pub byte_left : is_kept (end_of (step default_config s byte).1) n ≡ false → all ≡ now ++ later
  unfolding kept
  byte_left leaves_it = so_far ∙ ap (λ t. now ++ t) (here ∙ ap (λ (b : Bool). cond b (byte ∷ later) later) leaves_it)

pub all_kept : (all now text : List ℕ) (s : State) (n at : ℕ) → length text ≤ at → all ≡ now ++ kept s n (drop at text) → now ≡ all
unfolding kept
all_kept all now text s n at past so_far =
    sym (so_far ∙ ap (λ t. now ++ t) (at_drop_all (kept s n) text at past) ∙ append-nil now)
