-- A policy file is ASCII.
use Rattle.std.proofs.Common.{◌≡◌, ◌++◌, ◌∷◌, [], ℕ, suc, List, Bool, true, false, refl, cond, arith, length, codes}
use Rattle.std.specs.Prelude.{Option, Some, None, ◌==◌, map}
use Rattle.std.specs.List.{All, AllByRecursion, flat_map, list_all}
use Rattle.std.specs.Str.{IsAscii}
use Rattle.std.proofs.lemmas.Bool.Decides.{nat_tests}
use Rattle.std.proofs.lemmas.Str.{IsAscii-append}
use Rattle.std.proofs.lemmas.Str.Ascii.{IsAscii-cons, IsAscii-nil}
use Rattle.csv.specs.Writing.{default_writer, escaped, field_text, fields_text, is_blank, needs_quotes, quoted, row_text}
use Rattle.hex.specs.Hex.{decode_sized}
use Rattle.opc_names.specs.Names.{console_rule, group_rule, pattern_rule, user_rule}
use Rattle.opc_names.specs.Spellings.{auth_text, class_text, level_text}
use Rattle.opc_names.specs.declared.auth.Auth.{Auth}
use Rattle.opc_names.specs.declared.auth.Auth.TheVariants as auth
use Rattle.opc_names.specs.declared.class.Class.{Class}
use Rattle.opc_names.specs.declared.class.Class.TheVariants as class
use Rattle.opc_names.specs.declared.level.Level.{Level}
use Rattle.opc_names.specs.declared.level.Level.TheVariants as level
use Rattle.opc_names.proofs.Faults.{name_ascii}
use Rattle.opc_terms.specs.Modes.{mode_text}
use Rattle.opc_terms.specs.declared.mode.Mode.{Mode}
use Rattle.opc_terms.specs.declared.mode.Mode.TheVariants as mode
use Rattle.opc_policy_members.specs.declared.row.Row.{Row}
use Rattle.opc_policy_members.specs.declared.row.Row.TheVariants as row
use Rattle.opc_import.specs.Columns.{Record, column_name, columns, header}
use Rattle.opc_import.specs.Fields.{decoded, digest_of, is_lower_digit}
use Rattle.opc_import.specs.Lines.{csv_text}
use Rattle.opc_import.specs.Rows.{IsValid, activity_text, digest_text, flags_text, record_of, restriction_text, warning_text, when_text, IsValidWhen}
use Rattle.opc_import.specs.declared.column.Column.{Column}
use Rattle.opc_import.specs.declared.column.Column.TheVariants as column
use Rattle.opc_import.proofs.TextLemmas.{ascii, both, entry_id-ascii}

class-ascii : (c : Class) → IsAscii (class_text c)
class-ascii class.Console = ascii (codes "CONSOLE") refl
class-ascii class.Opercmds = ascii (codes "OPERCMDS") refl

activity-ascii : (active : Bool) → IsAscii (activity_text active)
activity-ascii true = ascii (codes "ACTIVE") refl
activity-ascii false = ascii (codes "INACTIVE") refl

warning-ascii : (warning : Bool) → IsAscii (warning_text warning)
warning-ascii true = ascii (codes "W") refl
warning-ascii false = IsAscii-nil

restriction-ascii : (restricted : Bool) → IsAscii (restriction_text restricted)
restriction-ascii true = ascii (codes "Y") refl
restriction-ascii false = IsAscii-nil

when-ascii : (when : Option (List ℕ)) → IsValidWhen when → IsAscii (when_text when)
when-ascii None h = IsAscii-nil
when-ascii (Some console) h = name_ascii console_rule console h

level-ascii : (l : Level) → IsAscii (level_text l)
level-ascii level.None = ascii (codes "NONE") refl
level-ascii level.Read = ascii (codes "READ") refl
level-ascii level.Update = ascii (codes "UPDATE") refl
level-ascii level.Control = ascii (codes "CONTROL") refl
level-ascii level.Alter = ascii (codes "ALTER") refl

auth-ascii : (a : Auth) → IsAscii (auth_text a)
auth-ascii auth.Master = ascii (codes "MASTER") refl
auth-ascii auth.All = ascii (codes "ALL") refl
auth-ascii auth.Info = ascii (codes "INFO") refl
auth-ascii auth.Sys = ascii (codes "SYS") refl
auth-ascii auth.Io = ascii (codes "IO") refl
auth-ascii auth.Cons = ascii (codes "CONS") refl
auth-ascii auth.SysIo = ascii (codes "SYS,IO") refl
auth-ascii auth.SysCons = ascii (codes "SYS,CONS") refl
auth-ascii auth.IoCons = ascii (codes "IO,CONS") refl
auth-ascii auth.SysIoCons = ascii (codes "SYS,IO,CONS") refl

mode-ascii : (m : Mode) → IsAscii (mode_text m)
mode-ascii mode.Optional = ascii (codes "OPTIONAL") refl
mode-ascii mode.Required = ascii (codes "REQUIRED") refl
mode-ascii mode.Auto = ascii (codes "AUTO") refl

flags-ascii : (id : List ℕ) (s a r : Bool) (d : Option (List ℕ)) (x : Bool) → IsAscii (flags_text (record {
  id = id;
  special = s;
  auditor = a;
  revoked = r;
  digest = d;
  restricted = x;
}))
flags-ascii id true true true d x = ascii (codes "SAR") refl
flags-ascii id true true false d x = ascii (codes "SA") refl
flags-ascii id true false true d x = ascii (codes "SR") refl
flags-ascii id true false false d x = ascii (codes "S") refl
flags-ascii id false true true d x = ascii (codes "AR") refl
flags-ascii id false true false d x = ascii (codes "A") refl
flags-ascii id false false true d x = ascii (codes "R") refl
flags-ascii id false false false d x = IsAscii-nil

lower-ascii : (text : List ℕ) → list_all is_lower_digit text ≡ true → IsAscii text
lower-ascii [] h = IsAscii-nil
lower-ascii (c ∷ text) h =
    let here : is_lower_digit c ≡ true = (both (is_lower_digit c) (list_all is_lower_digit text) h).0 in
    IsAscii-cons c text (grind (arith, nat_tests, here)) (lower-ascii text (both (is_lower_digit c) (list_all is_lower_digit text) h).1)

empty-ascii : (text : List ℕ) → (length text == 0) ≡ true → IsAscii text
empty-ascii [] h = IsAscii-nil
empty-ascii (c ∷ text) h = absurd (grind (arith, nat_tests, h))

-- the text of a digest
digest-ascii : (text : List ℕ) (d : Option (List ℕ)) → digest_of text ≡ Some d → IsAscii text
digest-ascii text d h = go (length text == 0) (list_all is_lower_digit text) refl refl h
  where
    go : (empty lower : Bool) → (length text == 0) ≡ empty → list_all is_lower_digit text ≡ lower
        → cond empty (Some None) (cond lower (decoded (decode_sized text 32)) None) ≡ Some d → IsAscii text
    go true lower e l k = empty-ascii text e
    go false true e l k = lower-ascii text l
    go false false e l k = cc

-- each field of a row's record
record-ascii : (r : Row) → IsValid r → AllByRecursion IsAscii (record_of r)
record-ascii (row.Class c active) valid = (
  ascii (codes "class") refl,
  (
    class-ascii c,
    (
      IsAscii-nil,
      (
        IsAscii-nil,
        (
          activity-ascii active,
          (IsAscii-nil, (IsAscii-nil, (IsAscii-nil, (IsAscii-nil, (IsAscii-nil, tt))))),
        ),
      ),
    ),
  ),
)
record-ascii (row.Group n) valid = (
  ascii (codes "group") refl,
  (
    IsAscii-nil,
    (
      name_ascii group_rule n (valid column.Name),
      (IsAscii-nil, (IsAscii-nil, (IsAscii-nil, (IsAscii-nil, (IsAscii-nil, (IsAscii-nil, (IsAscii-nil, tt))))))),
    ),
  ),
)
record-ascii (row.User u) valid = (
  ascii (codes "user") refl,
  (
    IsAscii-nil,
    (
      name_ascii user_rule u.id (valid column.Name),
      (
        IsAscii-nil,
        (
          IsAscii-nil,
          (
            IsAscii-nil,
            (
              flags-ascii u.id u.special u.auditor u.revoked u.digest u.restricted,
              (
                digest-ascii (digest_text u.digest) u.digest (valid column.Digest),
                (IsAscii-nil, (restriction-ascii u.restricted, tt)),
              ),
            ),
          ),
        ),
      ),
    ),
  ),
)
record-ascii (row.Connect u g) valid = (
  ascii (codes "connect") refl,
  (
    IsAscii-nil,
    (
      name_ascii user_rule u (valid column.Name),
      (
        name_ascii group_rule g (valid column.Id),
        (IsAscii-nil, (IsAscii-nil, (IsAscii-nil, (IsAscii-nil, (IsAscii-nil, (IsAscii-nil, tt)))))),
      ),
    ),
  ),
)
record-ascii (row.Console n a m) valid = (
  ascii (codes "console") refl,
  (
    IsAscii-nil,
    (
      name_ascii console_rule n (valid column.Name),
      (IsAscii-nil, (auth-ascii a, (IsAscii-nil, (mode-ascii m, (IsAscii-nil, (IsAscii-nil, (IsAscii-nil, tt))))))),
    ),
  ),
)
record-ascii (row.Profile c p l o w) valid = (
  ascii (codes "profile") refl,
  (
    class-ascii c,
    (
      name_ascii pattern_rule p (valid column.Name),
      (
        IsAscii-nil,
        (
          level-ascii l,
          (
            name_ascii user_rule o (valid column.Owner),
            (warning-ascii w, (IsAscii-nil, (IsAscii-nil, (IsAscii-nil, tt)))),
          ),
        ),
      ),
    ),
  ),
)
record-ascii (row.Permit c p i l w) valid = (
  ascii (codes "permit") refl,
  (
    class-ascii c,
    (
      name_ascii pattern_rule p (valid column.Name),
      (
        entry_id-ascii i (valid column.Id),
        (
          level-ascii l,
          (IsAscii-nil, (IsAscii-nil, (IsAscii-nil, (when-ascii w (valid column.When), (IsAscii-nil, tt))))),
        ),
      ),
    ),
  ),
)

-- the text of ASCII fields
escaped-ascii : (field : List ℕ) → IsAscii field → IsAscii (escaped default_writer field)
unfolding escaped
escaped-ascii [] h = IsAscii-nil
escaped-ascii (c ∷ field) h =
    let rest = escaped-ascii field (λ i. h (suc i)) in
    let plain = IsAscii-cons c (escaped default_writer field) (h 0) rest in
    elim (c == 34) as (λ b. IsAscii (cond b (34 ∷ c ∷ escaped default_writer field) (c ∷ escaped default_writer field))) [
      | true ↦ IsAscii-cons 34 (c ∷ escaped default_writer field) (omega arith) plain
      | false ↦ plain
    ]

field-ascii : (field : List ℕ) → IsAscii field → IsAscii (field_text default_writer field)
field-ascii field h =
    let inner = escaped default_writer field in
    elim (needs_quotes default_writer field) as (λ b. IsAscii (cond b (quoted default_writer field) field)) [
      | true ↦ IsAscii-cons 34 (inner ++ (34 ∷ [])) (omega arith) (IsAscii-append inner (34 ∷ []) (escaped-ascii field h) (ascii (34 ∷ []) refl))
      | false ↦ h
    ]

fields-ascii : (fields : Record) → AllByRecursion IsAscii fields → IsAscii (fields_text default_writer fields)
unfolding fields_text
fields-ascii [] h = IsAscii-nil
fields-ascii (field ∷ rest) h =
    let first = field_text default_writer field in
    let others = fields_text default_writer rest in
    IsAscii-cons 44 (first ++ others) (omega arith) (IsAscii-append first others (field-ascii field h.0) (fields-ascii rest h.1))

end-ascii : (b : Bool) → IsAscii (cond b (34 ∷ 34 ∷ []) [] ++ (10 ∷ []))
end-ascii true = ascii (34 ∷ 34 ∷ 10 ∷ []) refl
end-ascii false = ascii (10 ∷ []) refl

row-ascii : (fields : Record) → AllByRecursion IsAscii fields → IsAscii (row_text default_writer fields)
row-ascii [] h = end-ascii (is_blank default_writer [])
row-ascii (field ∷ rest) h =
    let first = field_text default_writer field in
    let others = fields_text default_writer rest in
    let ending = cond (is_blank default_writer (field ∷ rest)) (34 ∷ 34 ∷ []) [] ++ (10 ∷ []) in
    IsAscii-append (first ++ others) ending (IsAscii-append first others (field-ascii field h.0) (fields-ascii rest h.1))
    (end-ascii (is_blank default_writer (field ∷ rest)))

lines-ascii : (rows : List Row) → All IsValid rows → IsAscii (flat_map (row_text default_writer) (map record_of rows))
lines-ascii [] h = IsAscii-nil
lines-ascii (row ∷ rows) h =
    IsAscii-append (row_text default_writer (record_of row)) (flat_map (row_text default_writer) (map record_of rows))
    (row-ascii (record_of row) (record-ascii row (h 0 row (omega arith)))) (lines-ascii rows (λ k d lt. h (suc k) d (omega arith)))

column_name-ascii : (column : Column) → IsAscii (column_name column)
column_name-ascii column.Kind = ascii (codes "kind") refl
column_name-ascii column.Class = ascii (codes "class") refl
column_name-ascii column.Name = ascii (codes "name") refl
column_name-ascii column.Id = ascii (codes "id") refl
column_name-ascii column.Value = ascii (codes "value") refl
column_name-ascii column.Owner = ascii (codes "owner") refl
column_name-ascii column.Flags = ascii (codes "flags") refl
column_name-ascii column.Digest = ascii (codes "digest") refl
column_name-ascii column.When = ascii (codes "when") refl
column_name-ascii column.Restricted = ascii (codes "restricted") refl

names-ascii : (columns : List Column) → AllByRecursion IsAscii (map column_name columns)
names-ascii [] = tt
names-ascii (column ∷ columns) = (column_name-ascii column, names-ascii columns)

pub csv_text-ascii : (rows : List Row) → All IsValid rows → IsAscii (csv_text rows)
csv_text-ascii rows h =
    IsAscii-append (row_text default_writer header) (flat_map (row_text default_writer) (map record_of rows))
    (row-ascii header (names-ascii columns)) (lines-ascii rows h)
