-- Fields of rows have no double quotes and no line ends, so that only commas require quotes.
use Rattle.std.proofs.Common.{◌≡◌, ◌∙◌, ◌≤◌, ◌+◌, ◌++◌, ◌∷◌, [], ℕ, suc, List, Bool, true, false, sym, refl, ap, cond, arith, inl, inr, length, codes}
use Rattle.std.specs.Prelude.{Option, Some, None, ◌==◌, ◌||◌, not, map}
use Rattle.std.specs.List.{All, AllByRecursion, flat_map, join_with_byte, list_all, list_any, position, position_or_len}
use Rattle.std.specs.Option.{option_map}
use Rattle.std.specs.Str.{bytes_eq}
use Rattle.std.proofs.lemmas.Bool.Decides.{eqb_tells, nat_tests}
use Rattle.std.proofs.lemmas.List.{append-nil}
use Rattle.std.proofs.lemmas.Slice.Eq.{bytes_eq-Decides}
use Rattle.csv.specs.Writing.{default_writer, escaped, field_text, fields_text, is_blank, needs_byte, row_text}
use Rattle.hex.specs.Hex.{decode_sized}
use Rattle.opc_names.specs.Names.{bad_character, console_rule, group_rule, may_begin, may_follow, name_fault, pattern_rule, user_rule}
use Rattle.opc_names.specs.Spellings.{auth_text, class_text, level_text}
use Rattle.opc_names.specs.declared.auth.Auth.{Auth}
use Rattle.opc_names.specs.declared.auth.Auth.TheVariants as auth
use Rattle.opc_names.specs.declared.class.Class.{Class}
use Rattle.opc_names.specs.declared.class.Class.TheVariants as class
use Rattle.opc_names.specs.declared.level.Level.{Level}
use Rattle.opc_names.specs.declared.level.Level.TheVariants as level
use Rattle.opc_names.specs.declared.rule.Alphabet.{Alphabet}
use Rattle.opc_names.specs.declared.rule.Alphabet.TheVariants as alphabet
use Rattle.opc_names.specs.declared.rule.NameRule.{NameRule}
use Rattle.opc_names.proofs.Faults.{begin_follows, name_passes, none_of_map}
use Rattle.opc_terms.specs.Entries.{entry_fault}
use Rattle.opc_terms.specs.Modes.{mode_text}
use Rattle.opc_terms.specs.declared.mode.Mode.{Mode}
use Rattle.opc_terms.specs.declared.mode.Mode.TheVariants as mode
use Rattle.opc_policy_members.specs.declared.row.Row.{Row}
use Rattle.opc_policy_members.specs.declared.row.Row.TheVariants as row
use Rattle.opc_import.specs.Columns.{Record, column_name, header}
use Rattle.opc_import.specs.Fields.{decoded, digest_of, is_lower_digit}
use Rattle.opc_import.specs.Lines.{csv_text, line_text, policy_text, written_field}
use Rattle.opc_import.specs.Rows.{IsValid, activity_text, digest_text, flags_text, record_of, restriction_text, text_in, warning_text, when_text, IsValidWhen}
use Rattle.opc_import.specs.declared.column.Column.TheVariants as column
use Rattle.opc_import.proofs.TextLemmas.{both}

-- no double quote, carriage return or line feed
abbrev is_plain : ℕ → Bool
is_plain c = not ((c == 34) || ((c == 13) || (c == 10)))

abbrev is_plain_text : List ℕ → Bool
is_plain_text text = list_all is_plain text

true-false : true ≡ false → ⊥
true-false e = cc

apart : (p : ℕ → Bool) (c m : ℕ) → p m ≡ false → p c ≡ true → (c == m) ≡ false
apart p c m fails holds = elim (eqb_tells c m) [
  | inl k ↦ absurd (true-false (sym holds ∙ ap p k.1 ∙ fails))
  | inr k ↦ k.0
]

-- what passes a test that none of the three passes
plain-by : (p : ℕ → Bool) → p 34 ≡ false → p 13 ≡ false → p 10 ≡ false → (c : ℕ) → p c ≡ true → is_plain c ≡ true
plain-by p quote return feed c holds = rw (apart p c 34 quote holds, apart p c 13 return holds, apart p c 10 feed holds) refl

follow-plain : (a : Alphabet) (c : ℕ) → may_follow a c ≡ true → is_plain c ≡ true
follow-plain alphabet.NameCharacters c h = plain-by (may_follow alphabet.NameCharacters) refl refl refl c h
follow-plain alphabet.NoDigitFirst c h = plain-by (may_follow alphabet.NoDigitFirst) refl refl refl c h
follow-plain alphabet.Hexadecimal c h = plain-by (may_follow alphabet.Hexadecimal) refl refl refl c h
follow-plain alphabet.Qualified c h = plain-by (may_follow alphabet.Qualified) refl refl refl c h
follow-plain alphabet.Generic c h = plain-by (may_follow alphabet.Generic) refl refl refl c h

all-plain : (p : ℕ → Bool) (cs : List ℕ) → ((c : ℕ) → p c ≡ true → is_plain c ≡ true)
    → length cs ≤ position_or_len (λ d. not (p d)) cs → is_plain_text cs ≡ true
all-plain p [] good h = refl
all-plain p (c ∷ cs) good h =
    elim (p c) as (λ b. p c ≡ b → suc (length cs) ≤ cond (not (not b)) (1 + position_or_len (λ d. not (p d)) cs) 0 → is_plain_text (c ∷ cs) ≡ true) [
      | true ↦ (λ e k. rw (good c e) (all-plain p cs good (omega arith)))
      | false ↦ (λ e k. absurd (omega arith))
    ] refl h

characters-plain : (a : Alphabet) (text : List ℕ) → bad_character a text ≡ None → is_plain_text text ≡ true
characters-plain a [] h = refl
characters-plain a (c ∷ cs) h =
    elim (may_begin a c) as (λ b. may_begin a c ≡ b
    → cond b (option_map (λ i. i + 1) (position (λ d. not (may_follow a d)) cs)) (Some 0) ≡ None
    → is_plain_text (c ∷ cs) ≡ true) [
      | true ↦ (λ e k.
          let none = none_of_map (λ i. i + 1) (position (λ d. not (may_follow a d)) cs) k in
          rw (follow-plain a c (begin_follows a c e)) (all-plain (may_follow a) cs (follow-plain a) (grind (arith, nat_tests, none))))
      | false ↦ (λ e k. cc)
    ] refl h

name-plain : (rule : NameRule) (text : List ℕ) → name_fault rule text ≡ None → is_plain_text text ≡ true
name-plain rule text h = characters-plain rule.alphabet text (name_passes rule text h).characters

entry_id-plain : (text : List ℕ) → entry_fault text ≡ None → is_plain_text text ≡ true
entry_id-plain text h =
    elim (bytes_eq text (42 ∷ [])) as (λ b. bytes_eq text (42 ∷ []) ≡ b → cond b None (name_fault user_rule text) ≡ None → is_plain_text text ≡ true) [
      | true ↦ (λ e _. rw ((bytes_eq-Decides text (42 ∷ [])).0 e) refl)
      | false ↦ (λ _ k. name-plain user_rule text k)
    ] refl h

class-plain : (c : Class) → is_plain_text (class_text c) ≡ true
class-plain class.Console = refl
class-plain class.Opercmds = refl

activity-plain : (active : Bool) → is_plain_text (activity_text active) ≡ true
activity-plain true = refl
activity-plain false = refl

warning-plain : (warning : Bool) → is_plain_text (warning_text warning) ≡ true
warning-plain true = refl
warning-plain false = refl

restriction-plain : (restricted : Bool) → is_plain_text (restriction_text restricted) ≡ true
restriction-plain true = refl
restriction-plain false = refl

when-plain : (when : Option (List ℕ)) → IsValidWhen when → is_plain_text (when_text when) ≡ true
when-plain None h = refl
when-plain (Some console) h = name-plain console_rule console h

level-plain : (l : Level) → is_plain_text (level_text l) ≡ true
level-plain level.None = refl
level-plain level.Read = refl
level-plain level.Update = refl
level-plain level.Control = refl
level-plain level.Alter = refl

auth-plain : (a : Auth) → is_plain_text (auth_text a) ≡ true
auth-plain auth.Master = refl
auth-plain auth.All = refl
auth-plain auth.Info = refl
auth-plain auth.Sys = refl
auth-plain auth.Io = refl
auth-plain auth.Cons = refl
auth-plain auth.SysIo = refl
auth-plain auth.SysCons = refl
auth-plain auth.IoCons = refl
auth-plain auth.SysIoCons = refl

mode-plain : (m : Mode) → is_plain_text (mode_text m) ≡ true
mode-plain mode.Optional = refl
mode-plain mode.Required = refl
mode-plain mode.Auto = refl

flags-plain : (id : List ℕ) (s a r : Bool) (d : Option (List ℕ)) (x : Bool) → is_plain_text (flags_text (record {
  id = id;
  special = s;
  auditor = a;
  revoked = r;
  digest = d;
  restricted = x;
})) ≡ true
flags-plain id true true true d x = refl
flags-plain id true true false d x = refl
flags-plain id true false true d x = refl
flags-plain id true false false d x = refl
flags-plain id false true true d x = refl
flags-plain id false true false d x = refl
flags-plain id false false true d x = refl
flags-plain id false false false d x = refl

lower-plain : (text : List ℕ) → list_all is_lower_digit text ≡ true → is_plain_text text ≡ true
lower-plain [] h = refl
lower-plain (c ∷ text) h =
    let here : is_lower_digit c ≡ true = (both (is_lower_digit c) (list_all is_lower_digit text) h).0 in
    rw (plain-by is_lower_digit refl refl refl c here) (lower-plain text (both (is_lower_digit c) (list_all is_lower_digit text) h).1)

empty-plain : (text : List ℕ) → (length text == 0) ≡ true → is_plain_text text ≡ true
empty-plain [] h = refl
empty-plain (c ∷ text) h = absurd (grind (arith, nat_tests, h))

digest-plain : (text : List ℕ) (d : Option (List ℕ)) → digest_of text ≡ Some d → is_plain_text text ≡ true
digest-plain text d h = go (length text == 0) (list_all is_lower_digit text) refl refl h
  where
    go : (empty lower : Bool) → (length text == 0) ≡ empty → list_all is_lower_digit text ≡ lower
        → cond empty (Some None) (cond lower (decoded (decode_sized text 32)) None) ≡ Some d → is_plain_text text ≡ true
    go true lower e l k = empty-plain text e
    go false true e l k = lower-plain text l
    go false false e l k = cc

abbrev ArePlain : Record → Type 0
ArePlain fields = AllByRecursion (λ field. is_plain_text field ≡ true) fields

-- each field of a row's record
record-plain : (r : Row) → IsValid r → ArePlain (record_of r)
record-plain (row.Class c active) valid = (refl, (class-plain c, (refl, (refl, (activity-plain active, (refl, (refl, (refl, (refl, (refl, tt))))))))))
record-plain (row.Group n) valid = (refl, (refl, (name-plain group_rule n (valid column.Name), (refl, (refl, (refl, (refl, (refl, (refl, (refl, tt))))))))))
record-plain (row.User u) valid = (
  refl,
  (
    refl,
    (
      name-plain user_rule u.id (valid column.Name),
      (
        refl,
        (
          refl,
          (
            refl,
            (
              flags-plain u.id u.special u.auditor u.revoked u.digest u.restricted,
              (
                digest-plain (digest_text u.digest) u.digest (valid column.Digest),
                (refl, (restriction-plain u.restricted, tt)),
              ),
            ),
          ),
        ),
      ),
    ),
  ),
)
record-plain (row.Connect u g) valid = (
  refl,
  (
    refl,
    (
      name-plain user_rule u (valid column.Name),
      (name-plain group_rule g (valid column.Id), (refl, (refl, (refl, (refl, (refl, (refl, tt))))))),
    ),
  ),
)
record-plain (row.Console n a m) valid =
    (refl, (refl, (name-plain console_rule n (valid column.Name), (refl, (auth-plain a, (refl, (mode-plain m, (refl, (refl, (refl, tt))))))))))
record-plain (row.Profile c p l o w) valid = (
  refl,
  (
    class-plain c,
    (
      name-plain pattern_rule p (valid column.Name),
      (
        refl,
        (
          level-plain l,
          (
            name-plain user_rule o (valid column.Owner),
            (warning-plain w, (refl, (refl, (refl, tt)))),
          ),
        ),
      ),
    ),
  ),
)
record-plain (row.Permit c p i l w) valid = (
  refl,
  (
    class-plain c,
    (
      name-plain pattern_rule p (valid column.Name),
      (
        entry_id-plain i (valid column.Id),
        (level-plain l, (refl, (refl, (refl, (when-plain w (valid column.When), (refl, tt)))))),
      ),
    ),
  ),
)

-- of the bytes that require quotes only the comma is plain
needs-comma : (c : ℕ) → is_plain c ≡ true → needs_byte default_writer c ≡ (c == 44)
needs-comma c h = go (c == 44) (c == 34) (c == 13) (c == 10) h
  where
    go : (comma quote return feed : Bool) → not (quote || (return || feed)) ≡ true → ((((comma || quote) || (return || feed)) || false) || false) ≡ comma
    go true false false false k = refl
    go false false false false k = refl
    go comma true return feed k = cc
    go comma false true feed k = cc
    go comma false false true k = cc

needs-commas : (field : List ℕ) → is_plain_text field ≡ true → list_any (needs_byte default_writer) field ≡ list_any (λ c. c == 44) field
needs-commas [] h = refl
needs-commas (c ∷ field) h =
    let parts = both (is_plain c) (is_plain_text field) h in
    rw (needs-comma c parts.0, needs-commas field parts.1) refl

no-quote : (quote rest : Bool) → not (quote || rest) ≡ true → quote ≡ false
no-quote true rest h = cc
no-quote false rest h = refl

escaped-plain : (field : List ℕ) → is_plain_text field ≡ true → escaped default_writer field ≡ field
unfolding escaped
escaped-plain [] h = refl
escaped-plain (c ∷ field) h =
    let parts = both (is_plain c) (is_plain_text field) h in
    rw (no-quote (c == 34) ((c == 13) || (c == 10)) parts.0) (ap (λ (cs : List ℕ). c ∷ cs) (escaped-plain field parts.1))

field-written : (field : List ℕ) → is_plain_text field ≡ true → field_text default_writer field ≡ written_field field
field-written field h = rw (needs-commas field h, escaped-plain field h) refl

fields-written : (first : List ℕ) (rest : Record) → is_plain_text first ≡ true → ArePlain rest
    → field_text default_writer first ++ fields_text default_writer rest ≡ join_with_byte 44 (map written_field (first ∷ rest))
unfolding fields_text
fields-written first [] h k = append-nil (field_text default_writer first) ∙ field-written first h
fields-written first (next ∷ rest) h k =
    rw (field-written first h) (ap (λ (cs : List ℕ). written_field first ++ 44 ∷ cs) (fields-written next rest k.0 k.1))

line-written : (first next : List ℕ) (rest : Record) → ArePlain (first ∷ next ∷ rest)
    → row_text default_writer (first ∷ next ∷ rest) ≡ line_text (first ∷ next ∷ rest)
unfolding is_blank
line-written first next rest h = ap (λ (cs : List ℕ). cs ++ (10 ∷ [])) (fields-written first (next ∷ rest) h.0 h.1)

row-written : (r : Row) → IsValid r → row_text default_writer (record_of r) ≡ line_text (record_of r)
row-written r valid =
    let rest : Record = map (λ column. text_in column r)
    (column.Name ∷ column.Id ∷ column.Value ∷ column.Owner ∷ column.Flags ∷ column.Digest ∷ column.When
    ∷ column.Restricted ∷ []) in
    line-written (text_in column.Kind r) (text_in column.Class r) rest (record-plain r valid)

rows-written : (rows : List Row) → All IsValid rows → flat_map (row_text default_writer) (map record_of rows) ≡ flat_map line_text (map record_of rows)
rows-written [] h = refl
rows-written (row ∷ rows) h =
    ap (λ (cs : List ℕ). cs ++ flat_map (row_text default_writer) (map record_of rows)) (row-written row (h 0 row (omega arith)))
    ∙ ap (λ (cs : List ℕ). line_text (record_of row) ++ cs) (rows-written rows (λ k d lt. h (suc k) d (omega arith)))

header-written : row_text default_writer header ≡ line_text header
header-written =
    let plain : ArePlain header = (refl, (refl, (refl, (refl, (refl, (refl, (refl, (refl, (refl, (refl, tt)))))))))) in
    let rest : Record = map column_name (column.Name ∷ column.Id ∷ column.Value ∷ column.Owner ∷ column.Flags
    ∷ column.Digest ∷ column.When ∷ column.Restricted ∷ []) in
    line-written (codes "kind") (codes "class") rest plain

-- what `csv` writes is the file
pub csv-written : (rows : List Row) → All IsValid rows → csv_text rows ≡ policy_text rows
csv-written rows h =
    ap (λ (cs : List ℕ). cs ++ flat_map (row_text default_writer) (map record_of rows)) header-written
    ∙ ap (λ (cs : List ℕ). line_text header ++ cs) (rows-written rows h)
