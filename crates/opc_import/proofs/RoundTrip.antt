-- What is written reads back.
use Rattle.std.proofs.Common.{
  ◌≡◌,
  ◌∙◌,
  ◌≤◌,
  ◌<◌,
  ◌+◌,
  ◌*◌,
  ◌/◌,
  ◌%◌,
  ◌++◌,
  ◌∷◌,
  [],
  ℕ,
  suc,
  List,
  Bool,
  true,
  false,
  sym,
  refl,
  ap,
  arith,
  inl,
  inr,
  length,
  slice_index,
  take,
  get_or,
  add-one,
  append-nil,
  append_assoc,
  zero,
}
use Rattle.std.specs.Prelude.{OnOk, Result, Ok, Err, Option, Some, None, nat_lt, map, ◌==◌}
use Rattle.std.specs.Io.KnownBytes.{Appends}
use Rattle.std.specs.List.{All, flat_map, list_all}
use Rattle.std.proofs.lemmas.Bool.{cases_Bool}
use Rattle.std.proofs.lemmas.Bool.Decides.{nat_tests}
use Rattle.std.proofs.lemmas.List.Elements.{All-append}
use Rattle.std.proofs.lemmas.List.Folds.{list_all_at}
use Rattle.std.proofs.Math.Seq.{take-suc}
use Rattle.csv.specs.Machine.{next_record}
use Rattle.csv.specs.Reading.{strip_bom}
use Rattle.csv.specs.Records.{field_at}
use Rattle.csv.specs.Writing.{default_writer, fields_text, is_blank, read_back, row_text}
use Rattle.csv.proofs.RoundTrip.{read-write}
use Rattle.csv.specs.declared.parser.State.TheVariants as st
use Rattle.hex.specs.Hex.{IsBytes, encode_lower, encode_with, lower_digits}
use Rattle.hex.proofs.HexLemmas.{IsDigits-lower_digits, decode_pairs-encode_with, length-encode_with}
use Rattle.opc_names.proofs.Faults.{name_long}
use Rattle.opc_names.specs.Names.{console_rule}
use Rattle.opc_names.specs.Spellings.{auth_text, auths, class_text, classes, level_text, levels, lookup}
use Rattle.opc_names.specs.declared.auth.Auth.{Auth}
use Rattle.opc_names.specs.declared.auth.Auth.TheVariants as auth
use Rattle.opc_names.specs.declared.class.Class.{Class}
use Rattle.opc_names.specs.declared.class.Class.TheVariants as class
use Rattle.opc_names.specs.declared.level.Level.{Level}
use Rattle.opc_names.specs.declared.level.Level.TheVariants as level
use Rattle.opc_terms.specs.Modes.{mode_text, modes}
use Rattle.opc_terms.specs.declared.mode.Mode.{Mode}
use Rattle.opc_terms.specs.declared.mode.Mode.TheVariants as mode
use Rattle.opc_policy_members.specs.declared.row.Row.{Row}
use Rattle.opc_policy_members.specs.declared.row.Row.TheVariants as row
use Rattle.opc_import.specs.Columns.{Record, header}
use Rattle.opc_import.specs.Fields.{activities, decoded, digest_of, flags_of, is_lower_digit, restrictions, user_flags, warnings, when_of}
use Rattle.opc_import.specs.Files.{policy_of, rows_from}
use Rattle.opc_import.specs.Kinds.{most_rows, row_of}
use Rattle.opc_import.specs.Lines.{csv_text}
use Rattle.opc_import.specs.Records.{records_of_source}
use Rattle.opc_import.specs.Rows.{IsValid, IsValidIn, activity_text, flags_text, record_of, restriction_text, warning_text, when_text, IsValidWhen}
use Rattle.opc_import.specs.declared.column.Column.TheVariants as column
use Rattle.opc_import.proofs.RecordLemmas.{first-left, none-first}

true-false : true ≡ false → ⊥
true-false e = cc

within : (number : ℕ) → number ≤ most_rows → nat_lt most_rows number ≡ false
within number h = grind (arith, nat_tests, h)

classes-back : (c : Class) → lookup classes (class_text c) ≡ Some c
classes-back class.Console = refl
classes-back class.Opercmds = refl

activities-back : (active : Bool) → lookup activities (activity_text active) ≡ Some active
activities-back true = refl
activities-back false = refl

warnings-back : (warning : Bool) → lookup warnings (warning_text warning) ≡ Some warning
warnings-back true = refl
warnings-back false = refl

restrictions-back : (restricted : Bool) → lookup restrictions (restriction_text restricted) ≡ Some restricted
restrictions-back true = refl
restrictions-back false = refl

-- a console's name is not empty
when-back : (when : Option (List ℕ)) → IsValidWhen when → when_of (when_text when) ≡ Some when
when-back None h = refl
when-back (Some console) h =
    let some = name_long console_rule console h in
    let filled : (length console == 0) ≡ false = grind (arith, nat_tests, some) in
    rw (filled, h) refl

levels-back : (l : Level) → lookup levels (level_text l) ≡ Some l
levels-back level.None = refl
levels-back level.Read = refl
levels-back level.Update = refl
levels-back level.Control = refl
levels-back level.Alter = refl

auths-back : (a : Auth) → lookup auths (auth_text a) ≡ Some a
auths-back auth.Master = refl
auths-back auth.All = refl
auths-back auth.Info = refl
auths-back auth.Sys = refl
auths-back auth.Io = refl
auths-back auth.Cons = refl
auths-back auth.SysIo = refl
auths-back auth.SysCons = refl
auths-back auth.IoCons = refl
auths-back auth.SysIoCons = refl

modes-back : (m : Mode) → lookup modes (mode_text m) ≡ Some m
modes-back mode.Optional = refl
modes-back mode.Required = refl
modes-back mode.Auto = refl

flags-back : (id : List ℕ) (s a r : Bool) (d : Option (List ℕ)) (x : Bool) → lookup user_flags (flags_text (record {
  id = id;
  special = s;
  auditor = a;
  revoked = r;
  digest = d;
  restricted = x;
})) ≡ Some (flags_of s a r)
flags-back id true true true d x = refl
flags-back id true true false d x = refl
flags-back id true false true d x = refl
flags-back id true false false d x = refl
flags-back id false true true d x = refl
flags-back id false true false d x = refl
flags-back id false false true d x = refl
flags-back id false false false d x = refl

list_all-at : (p : ℕ → Bool) (xs : List ℕ) (i d : ℕ) → i < length xs → list_all p xs ≡ true → p (slice_index xs i) ≡ true
list_all-at p xs i d h all = elim (cases_Bool (p (slice_index xs i))) [
  | inl holds ↦ holds
  | inr fails ↦ absurd (true-false (sym all ∙ list_all_at p xs i 0 h fails))
]

digit-lower : (d : ℕ) → d < 16 → is_lower_digit (slice_index lower_digits d) ≡ true
digit-lower d h = list_all-at is_lower_digit lower_digits d 0 h refl

digits-lower : (bytes : List ℕ) → IsBytes bytes → list_all is_lower_digit (encode_with lower_digits bytes) ≡ true
unfolding encode_with
digits-lower [] h = refl
digits-lower (b ∷ rest) h =
    let fits : b < 256 = h 0 in
    let high : b / 16 < 16 = omega arith in
    let low : b % 16 < 16 = omega arith in
    rw (digit-lower (b / 16) high, digit-lower (b % 16) low, digits-lower rest (λ k. h (suc k))) refl

-- a digest
pub digest-back : (bytes : List ℕ) → length bytes ≡ 32 → IsBytes bytes → digest_of (encode_lower bytes) ≡ Some (Some bytes)
digest-back bytes sized h =
    let twice : length (encode_lower bytes) ≡ 64 = length-encode_with lower_digits bytes ∙ ap (λ (n : ℕ). 2 * n) sized in
    rw (twice, digits-lower bytes h) (ap decoded (decode_pairs-encode_with lower_digits IsDigits-lower_digits 0 bytes h))

-- a row that is valid in each column that has names or a digest
pub valid-in-all : (r : Row) → IsValidIn column.Name r → IsValidIn column.Id r → IsValidIn column.Owner r
    → IsValidIn column.Digest r → IsValidIn column.When r → IsValid r
valid-in-all r name id owner digest when column.Kind = tt
valid-in-all r name id owner digest when column.Class = tt
valid-in-all r name id owner digest when column.Name = name
valid-in-all r name id owner digest when column.Id = id
valid-in-all r name id owner digest when column.Value = tt
valid-in-all r name id owner digest when column.Owner = owner
valid-in-all r name id owner digest when column.Flags = tt
valid-in-all r name id owner digest when column.Digest = digest
valid-in-all r name id owner digest when column.When = when
valid-in-all r name id owner digest when column.Restricted = tt

-- the record of a row is read as that row, whatever its number in a file
pub row-back : (r : Row) → IsValid r → (number : ℕ) → number ≤ most_rows → row_of 10 number (record_of r) ≡ Ok r
unfolding field_at
row-back (row.Class c active) valid number h = rw (within number h, classes-back c, activities-back active) refl
row-back (row.Group n) valid number h = rw (within number h, valid column.Name) refl
row-back (row.User u) valid number h =
    rw (
      within number h,
      valid column.Name,
      flags-back u.id u.special u.auditor u.revoked u.digest u.restricted,
      valid column.Digest,
      restrictions-back u.restricted,
    ) refl
row-back (row.Connect u g) valid number h = rw (within number h, valid column.Name, valid column.Id) refl
row-back (row.Console n a m) valid number h = rw (within number h, valid column.Name, auths-back a, modes-back m) refl
row-back (row.Profile c p l o w) valid number h =
    rw (within number h, classes-back c, valid column.Name, levels-back l, valid column.Owner, warnings-back w) refl
row-back (row.Permit c p i l w) valid number h =
    rw (
      within number h,
      classes-back c,
      valid column.Name,
      valid column.Id,
      levels-back l,
      when-back w (valid column.When),
    ) refl

-- the lines of some records, read back
lines-back : (fs : List Record) → records_of_source st.StartRecord (Some (flat_map (row_text default_writer) fs)) ≡ map read_back fs
unfolding next_record
lines-back [] = none-first st.StartRecord [] refl
lines-back (f ∷ fs) =
    let rest = flat_map (row_text default_writer) fs in
    first-left st.StartRecord (row_text default_writer f ++ rest) (read_back f, st.StartRecord, rest) (read-write f rest)
    ∙ ap (λ (t : List Record). read_back f ∷ t) (lines-back fs)

-- the rows of those records
rows-back : (number : ℕ) (rows : List Row) → number + length rows ≤ 10001 → All IsValid rows
    → rows_from 10 number (map read_back (map record_of rows)) ≡ Ok rows
unfolding rows_from
rows-back number [] fits h = refl
rows-back number (row ∷ rows) fits h =
    let first : row_of 10 number (record_of row) ≡ Ok row = row-back row (h 0 row (omega arith)) number (omega arith) in
    let rest : rows_from 10 (number + 1) (map read_back (map record_of rows)) ≡ Ok rows =
    rows-back (number + 1) rows (omega arith) (λ k d lt. h (suc k) d (omega arith)) in
    rw (first, rest) refl

no-mark : (rows : List Row) → strip_bom (csv_text rows) ≡ csv_text rows
unfolding strip_bom is_blank fields_text
no-mark rows = refl

-- a file that was written
pub file-back : (rows : List Row) → length rows ≤ most_rows → All IsValid rows → policy_of (csv_text rows) ≡ Ok rows
unfolding field_at
file-back rows fits h = rw (no-mark rows, lines-back (header ∷ map record_of rows)) (rows-back 1 rows (omega arith) h)

pub on-ok : {T E : Type 0} {P : Type 0} (r : Result T E) → P → OnOk r P
on-ok (Ok v) p = p
on-ok (Err e) p = tt

single : (row : Row) → IsValid row → All IsValid (row ∷ [])
single row one zero d h = one
single row one (suc k) d h = absurd (omega arith)

-- one row more
pub all-more : (rows : List Row) (i : ℕ) (row : Row) → i < length rows → get_or rows i row ≡ row
    → All IsValid (take i rows) → IsValid row → All IsValid (take (i + 1) rows)
all-more rows i row h e all one = rw (add-one i, take-suc rows i row h, e) (All-append IsValid (take i rows) (row ∷ []) all (single row one))

-- one line more
lines-more : (rows : List Row) (row : Row)
    → flat_map (row_text default_writer) (map record_of (rows ++ row ∷ [])) ≡ flat_map (row_text default_writer)
    (map record_of rows) ++ row_text default_writer (record_of row)
lines-more [] row = append-nil (row_text default_writer (record_of row))
lines-more (r ∷ rows) row =
    let first = row_text default_writer (record_of r) in
    ap (λ (cs : List ℕ). first ++ cs) (lines-more rows row)
    ∙ sym (append_assoc first (flat_map (row_text default_writer) (map record_of rows))
    (row_text default_writer (record_of row)))

text-more : (rows : List Row) (row : Row) → csv_text (rows ++ row ∷ []) ≡ csv_text rows ++ row_text default_writer (record_of row)
text-more rows row =
    let first = row_text default_writer header in
    ap (λ (cs : List ℕ). first ++ cs) (lines-more rows row)
    ∙ sym (append_assoc first (flat_map (row_text default_writer) (map record_of rows))
    (row_text default_writer (record_of row)))

pub line-added : (old new : Option (List ℕ)) (rows : List Row) (i : ℕ) (row : Row) (fields : Record) → i < length rows
    → get_or rows i row ≡ row → fields ≡ record_of row
    → Appends old new (row_text default_writer fields) → old ≡ Some (csv_text (take i rows)) → new ≡ Some (csv_text (take (i + 1) rows))
line-added old new rows i row fields h e is adds was = go new (rw (was, is) at adds)
  where
    more : csv_text (take (i + 1) rows) ≡ csv_text (take i rows) ++ row_text default_writer (record_of row)
    more = rw (add-one i, take-suc rows i row h, e) (text-more (take i rows) row)

    go : (n : Option (List ℕ)) → Appends (Some (csv_text (take i rows))) n (row_text default_writer (record_of row)) → n ≡ Some (csv_text (take (i + 1) rows))
    go None a = absurd a
    go (Some xs) a = ap (λ (ys : List ℕ). Some ys) (a ∙ sym more)
