-- A text that is cut at the eleventh field of its first record that has that many: its records.
use Rattle.std.proofs.Common.{◌≡◌, ◌∙◌, ◌⊎◌, ◌+◌, ◌<◌, ◌≤◌, ℕ, Bool, true, false, cond, List, [], ◌∷◌, ◌++◌, length, get_or}
use Rattle.std.proofs.Common.{take, drop, Option, Some, None, sym, refl, ap, inl, inr, arith}
use Rattle.std.specs.Prelude.{◌==◌}
use Rattle.std.proofs.lemmas.Bool.Decides.{nat_tests}
use Rattle.std.proofs.lemmas.List.{append-nil, append_assoc, at_drop_all, at_drop_more, length-append, take_all, take_more}
use Rattle.csv.specs.Machine.{
  Read,
  after_end,
  ends_at_end,
  ends_with,
  field_after,
  fields_after,
  in_field,
  is_end,
  next_record,
  start_field,
  start_record,
  step,
}
use Rattle.csv.specs.Reading.{default_config}
use Rattle.csv.specs.declared.parser.Action.{Action}
use Rattle.csv.specs.declared.parser.Action.TheVariants as act
use Rattle.csv.specs.declared.parser.State.{State}
use Rattle.csv.specs.declared.parser.State.TheVariants as st
use Rattle.csv.specs.declared.parser.Terminator.TheVariants as term
use Rattle.opc_import.specs.CsvBytes.{end_of}
use Rattle.opc_import.specs.declared.csv_bytes.ByteEnd.TheVariants as end

-- how many fields of a record have ended after a byte
abbrev pub ended : Action → ℕ → ℕ
ended act.EndField n = n + 1
ended act.EndRecord n = 0
ended act.Skip n = n
ended act.Copy n = n

-- whether ten have, so that the eleventh begins
abbrev pub begins_eleventh : Action → ℕ → Bool
begins_eleventh act.EndField n = n + 1 == 10
begins_eleventh act.EndRecord n = false
begins_eleventh act.Skip n = false
begins_eleventh act.Copy n = false

-- a text up to the eleventh field of a record, from a state with this many fields ended
unfoldable pub cut : State → ℕ → List ℕ → List ℕ
cut s n [] = []
cut s n (c ∷ rest) =
    c ∷ cond (begins_eleventh (step default_config s c).1 n) []
    (cut (step default_config s c).0 (ended (step default_config s c).1 n) rest)

-- within a record

abbrev is_within : State → Bool
is_within st.StartRecord = false
is_within st.AfterCr = false
is_within st.InComment = false
is_within st.StartField = true
is_within st.InField = true
is_within st.InQuoted = true
is_within st.AfterQuote = true
is_within st.InEscape = true

within_ends : (s : State) → is_within s ≡ true → ends_at_end s ≡ true
within_ends st.StartRecord h = cc
within_ends st.AfterCr h = cc
within_ends st.InComment h = cc
within_ends st.StartField h = refl
within_ends st.InField h = refl
within_ends st.InQuoted h = refl
within_ends st.AfterQuote h = refl
within_ends st.InEscape h = refl

-- what a byte does leaves a record, or stays within it
abbrev Stays : State × Action → Type 0
Stays p = is_end p.1 ≡ false → is_within p.0 ≡ true

field_stays : (c : ℕ) → Stays (in_field default_config c)
field_stays c = go (c == 44) (ends_with term.CRLF c)
  where
    go : (a b : Bool) → Stays (cond a (st.StartField, act.EndField) (cond b (after_end term.CRLF c, act.EndRecord) (st.InField, act.Copy)))
    go true b h = refl
    go false true h = cc
    go false false h = refl

either_stays : (b : Bool) (p q : State × Action) → Stays p → Stays q → Stays (cond b p q)
either_stays true p q one other = one
either_stays false p q one other = other

stays : (s : State) (c : ℕ) → is_within s ≡ true → Stays (step default_config s c)
stays st.StartRecord c h = absurd (cc)
stays st.AfterCr c h = absurd (cc)
stays st.InComment c h = absurd (cc)
stays st.StartField c h = either_stays (c == 34) (st.InQuoted, act.Skip) (in_field default_config c) (λ _. refl) (field_stays c)
stays st.InField c h = field_stays c
stays st.InQuoted c h = either_stays (c == 34) (st.AfterQuote, act.Skip) (st.InQuoted, act.Copy) (λ _. refl) (λ _. refl)
stays st.AfterQuote c h = either_stays (c == 34) (st.InQuoted, act.Copy) (in_field default_config c) (λ _. refl) (field_stays c)
stays st.InEscape c h = λ _. refl

-- and so does a byte that ends a field

abbrev EndsWithin : State × Action → Type 0
EndsWithin p = p.1 ≡ act.EndField → is_within p.0 ≡ true

field_ends : (c : ℕ) → EndsWithin (in_field default_config c)
field_ends c = go (c == 44) (ends_with term.CRLF c)
  where
    go : (a b : Bool) → EndsWithin (cond a (st.StartField, act.EndField) (cond b (after_end term.CRLF c, act.EndRecord) (st.InField, act.Copy)))
    go true b h = refl
    go false true h = absurd (cc)
    go false false h = refl

either_ends : (b : Bool) (p q : State × Action) → EndsWithin p → EndsWithin q → EndsWithin (cond b p q)
either_ends true p q one other = one
either_ends false p q one other = other

skips : (s : State) → EndsWithin (s, act.Skip)
skips s h = absurd (cc)

copies : (s : State) → EndsWithin (s, act.Copy)
copies s h = absurd (cc)

first_ends : (c : ℕ) → EndsWithin (start_field default_config c)
first_ends c = either_ends (c == 34) (st.InQuoted, act.Skip) (in_field default_config c) (skips st.InQuoted) (field_ends c)

start_ends : (c : ℕ) → EndsWithin (start_record default_config c)
start_ends c = either_ends (ends_with term.CRLF c) (st.StartRecord, act.Skip) (start_field default_config c) (skips st.StartRecord) (first_ends c)

ends_within : (s : State) (c : ℕ) → EndsWithin (step default_config s c)
ends_within st.StartRecord c = start_ends c
ends_within st.AfterCr c = either_ends (c == 10) (st.StartRecord, act.Skip) (start_record default_config c) (skips st.StartRecord) (start_ends c)
ends_within st.InComment c = either_ends (c == 10) (st.StartRecord, act.Skip) (st.InComment, act.Skip) (skips st.StartRecord) (skips st.InComment)
ends_within st.StartField c = first_ends c
ends_within st.InField c = field_ends c
ends_within st.InQuoted c = either_ends (c == 34) (st.AfterQuote, act.Skip) (st.InQuoted, act.Copy) (skips st.AfterQuote) (copies st.InQuoted)
ends_within st.AfterQuote c = either_ends (c == 34) (st.InQuoted, act.Copy) (in_field default_config c) (copies st.InQuoted) (field_ends c)
ends_within st.InEscape c = copies st.InQuoted

-- within a record, it is read, and has more fields than have ended

abbrev Gives : ℕ → Option Read → Type 0
Gives n None = ⊥
Gives n (Some q) = n + 1 ≤ length q.0

one_more : (fields : List (List ℕ)) (field : List ℕ) → length (fields ++ (field ∷ [])) ≡ length fields + 1
one_more fields field = length-append fields (field ∷ [])

fewer : (m n : ℕ) (o : Option Read) → m ≤ n → Gives n o → Gives m o
fewer m n None h g = g
fewer m n (Some q) h g = omega (arith, g)

abbrev GivesRest : List ℕ → Type 0
GivesRest rest = (s : State) (fields : List (List ℕ)) (field : List ℕ) → is_within s ≡ true
    → Gives (length fields) (next_record default_config s fields field rest)

gives_on : (c : ℕ) (rest : List ℕ) (fields : List (List ℕ)) (field : List ℕ) → GivesRest rest → (p : State × Action) → Stays p
    → Gives (length fields) (cond (is_end p.1) (Some (fields_after p.1 fields field, p.0, rest))
    (next_record default_config p.0 (fields_after p.1 fields field) (field_after p.1 c field) rest))
gives_on c rest fields field more (t, act.EndRecord) on = omega (arith, one_more fields field)
gives_on c rest fields field more (t, act.EndField) on =
    fewer (length fields) (length (fields ++ (field ∷ []))) _ (omega (arith, one_more fields field)) (more t (fields ++ (field ∷ [])) [] (on refl))
gives_on c rest fields field more (t, act.Skip) on = more t fields field (on refl)
gives_on c rest fields field more (t, act.Copy) on = more t fields (field ++ (c ∷ [])) (on refl)

gives : (xs : List ℕ) → GivesRest xs
unfolding next_record
gives [] s fields field h = rw (within_ends s h) (omega (arith, one_more fields field))
gives (c ∷ rest) s fields field h = gives_on c rest fields field (gives rest) (step default_config s c) (stays s c h)

-- a record of the part is that of the whole, or both have more than ten fields

abbrev pub Same : Read → Read → Type 0
Same p q = (p.0 ≡ q.0) × (length q.0 ≤ 10) × (p.1 ≡ q.1) × (p.2 ≡ cut q.1 0 q.2)

abbrev pub Long : Read → Read → Type 0
Long p q = (length p.0 ≡ 11) × (11 ≤ length q.0) × (p.1 ≡ st.StartRecord) × (p.2 ≡ [])

abbrev pub Alike : Option Read → Option Read → Type 0
Alike None None = Unit {0}
Alike (Some p) (Some q) = Same p q ⊎ Long p q
Alike None (Some q) = ⊥
Alike (Some p) None = ⊥

long_is : (fields : List (List ℕ)) (o : Option Read) → length fields ≡ 10 → Gives (length fields) o
    → Alike (Some (fields ++ ([] ∷ []), st.StartRecord, [])) o
long_is fields None ten g = g
long_is fields (Some q) ten g = inr (omega (arith, one_more fields [], ten), omega (arith, ten, g), refl, refl)

last_is : (b : Bool) (fields : List (List ℕ)) → length fields ≤ 10
    → Alike (cond b (Some (fields, st.StartRecord, [])) None) (cond b (Some (fields, st.StartRecord, [])) None)
unfolding cut
last_is true fields few = inl (refl, few, refl, refl)
last_is false fields few = tt

abbrev pub IsAlike : List ℕ → Type 0
IsAlike rest = (s : State) (fields : List (List ℕ)) (field : List ℕ) (n : ℕ) → length fields ≡ n → n < 10
    → Alike (next_record default_config s fields field (cut s n rest)) (next_record default_config s fields field rest)

-- the tenth field ends, or one before it
field_alike : (rest : List ℕ) (t : State) (fields : List (List ℕ)) (n : ℕ) → IsAlike rest → is_within t ≡ true → length fields ≡ n + 1 → n < 10
    → (b : Bool) → (n + 1 == 10) ≡ b
    → Alike (next_record default_config t fields [] (cond b [] (cut t (n + 1) rest))) (next_record default_config t fields [] rest)
unfolding next_record
field_alike rest t fields n more within long few true e =
    let ten : n + 1 ≡ 10 = grind (arith, nat_tests, e) in
    rw (within_ends t within) (long_is fields _ (long ∙ ten) (gives rest t fields [] within))
field_alike rest t fields n more within long few false e = more t fields [] (n + 1) long (grind (arith, nat_tests, e, few))

byte_alike : (c : ℕ) (rest : List ℕ) (fields : List (List ℕ)) (field : List ℕ) (n : ℕ) → IsAlike rest → length fields ≡ n → n < 10
    → (p : State × Action) → EndsWithin p
    → Alike (cond (is_end p.1) (Some (fields_after p.1 fields field, p.0, cond (begins_eleventh p.1 n) [] (cut p.0 (ended p.1 n) rest)))
    (next_record default_config p.0 (fields_after p.1 fields field) (field_after p.1 c field) (cond (begins_eleventh p.1 n) [] (cut p.0 (ended p.1 n) rest))))
    (cond (is_end p.1) (Some (fields_after p.1 fields field, p.0, rest))
    (next_record default_config p.0 (fields_after p.1 fields field) (field_after p.1 c field) rest))
byte_alike c rest fields field n more long few (t, act.EndRecord) on = inl (refl, omega (arith, one_more fields field, long), refl, refl)
byte_alike c rest fields field n more long few (t, act.Skip) on = more t fields field n long few
byte_alike c rest fields field n more long few (t, act.Copy) on = more t fields (field ++ (c ∷ [])) n long few
byte_alike c rest fields field n more long few (t, act.EndField) on =
    field_alike rest t (fields ++ (field ∷ [])) n more (on refl) (omega (arith, one_more fields field, long)) few (n + 1 == 10) refl

pub alike : (xs : List ℕ) → IsAlike xs
unfolding next_record cut
alike [] s fields field n long few = last_is (ends_at_end s) (fields ++ (field ∷ [])) (omega (arith, one_more fields field, long))
alike (c ∷ rest) s fields field n long few = byte_alike c rest fields field n (alike rest) long few (step default_config s c) (ends_within s c)

-- ---- a byte more

module _ (s : State) (n b : ℕ) (rest : List ℕ) where
  abbrev cut_on : Action → List ℕ
  cut_on a = b ∷ cond (begins_eleventh a n) [] (cut (step default_config s b).0 (ended a n) rest)

  by_nothing : (a : Action) → end_of a ≡ end.Nothing → cut_on a ≡ b ∷ cut (step default_config s b).0 n rest
  by_nothing act.Skip e = refl
  by_nothing act.Copy e = refl
  by_nothing act.EndField e = absurd (cc)
  by_nothing act.EndRecord e = absurd (cc)

  by_record : (a : Action) → end_of a ≡ end.Record → cut_on a ≡ b ∷ cut (step default_config s b).0 0 rest
  by_record act.Skip e = absurd (cc)
  by_record act.Copy e = absurd (cc)
  by_record act.EndField e = absurd (cc)
  by_record act.EndRecord e = refl

  by_field : (a : Action) → end_of a ≡ end.Field → cut_on a ≡ b ∷ cond (n + 1 == 10) [] (cut (step default_config s b).0 (n + 1) rest)
  by_field act.Skip e = absurd (cc)
  by_field act.Copy e = absurd (cc)
  by_field act.EndField e = refl
  by_field act.EndRecord e = absurd (cc)

  pub after_nothing : end_of (step default_config s b).1 ≡ end.Nothing → cut s n (b ∷ rest) ≡ b ∷ cut (step default_config s b).0 n rest
  unfolding cut
  after_nothing e = by_nothing (step default_config s b).1 e

  pub after_record : end_of (step default_config s b).1 ≡ end.Record → cut s n (b ∷ rest) ≡ b ∷ cut (step default_config s b).0 0 rest
  unfolding cut
  after_record e = by_record (step default_config s b).1 e

  pub after_field : end_of (step default_config s b).1 ≡ end.Field → (n + 1 ≡ 10 → ⊥) → cut s n (b ∷ rest) ≡ b ∷ cut (step default_config s b).0 (n + 1) rest
  unfolding cut
  after_field e few =
      let not_ten : (n + 1 == 10) ≡ false = grind (arith, nat_tests, few) in
      by_field (step default_config s b).1 e ∙ ap (λ (c : Bool). b ∷ cond c [] (cut (step default_config s b).0 (n + 1) rest)) not_ten

  pub after_tenth : end_of (step default_config s b).1 ≡ end.Field → n + 1 ≡ 10 → cut s n (b ∷ rest) ≡ b ∷ []
  unfolding cut
  after_tenth e ten =
      let is_ten : (n + 1 == 10) ≡ true = grind (arith, nat_tests, ten) in
      by_field (step default_config s b).1 e ∙ ap (λ (c : Bool). b ∷ cond c [] (cut (step default_config s b).0 (n + 1) rest)) is_ten

module _ (text : List ℕ) (s : State) (n at : ℕ) (so_far : cut st.StartRecord 0 text ≡ take at text ++ cut s n (drop at text)) where
  pub byte_more : (more : List ℕ) → at < length text
      → cut s n (get_or text at 0 ∷ drop (at + 1) text) ≡ get_or text at 0 ∷ more
      → cut st.StartRecord 0 text ≡ take (at + 1) text ++ more
  byte_more more low goes =
      so_far ∙ ap (λ ys. take at text ++ ys) (at_drop_more (cut s n) text at 0 low ∙ goes)
      ∙ sym (append_assoc (take at text) (get_or text at 0 ∷ []) more) ∙ ap (λ ys. ys ++ more) (sym (take_more text at 0 low))

  pub all_bytes : length text ≤ at → cut st.StartRecord 0 text ≡ take (length text) text
  unfolding cut
  all_bytes past =
      so_far ∙ ap (λ ys. take at text ++ ys) (at_drop_all (cut s n) text at past) ∙ append-nil (take at text)
      ∙ take_all at text past ∙ sym (take_all (length text) text (omega arith))
