-- The first fault of a record is that of its first bad column.
use Rattle.std.proofs.Common.{◌≡◌, ◌∙◌, ℕ, Bool, true, false, List, refl, cond}
use Rattle.std.specs.Prelude.{Option, Some, None, is_some, Result, Ok, Err, length, nat_lt, ◌==◌}
use Rattle.std.specs.Option.{ok_or, option_or}
use Rattle.opc_names.specs.Names.{console_rule, group_rule, pattern_rule, user_rule}
use Rattle.opc_names.specs.Spellings.{auths, classes, levels, lookup}
use Rattle.opc_terms.specs.Modes.{modes}
use Rattle.opc_terms.specs.declared.fault.Why.{Why}
use Rattle.opc_terms.specs.declared.fault.Why.TheVariants as why
use Rattle.opc_policy_members.specs.declared.row.Row.{Row}
use Rattle.opc_policy_members.specs.declared.row.Row.TheVariants as row
use Rattle.opc_import.specs.Columns.{Record, columns, field_in, reason, unused}
use Rattle.opc_import.specs.Fields.{activities, digest_of, entry_id_of, name_of, restrictions, user_flags, warnings, when_of}
use Rattle.opc_import.specs.Kinds.{◌>>=◌, kinds, most_rows, read_in, row_by_kind, row_of_kind}
use Rattle.opc_import.specs.Laws.{FirstFaultIsNamed, fault_by_kind, fault_of, first_fault}
use Rattle.opc_import.specs.declared.column.Column.{Column}
use Rattle.opc_import.specs.declared.column.Column.TheVariants as column
use Rattle.opc_import.specs.declared.kind.Kind.{Kind}
use Rattle.opc_import.specs.declared.kind.Kind.TheVariants as kind

-- nine answers, one after the other
nine : {A B C D E F G H I : Type 0} (a : Result A Why) (b : Result B Why) (c : Result C Why) (d : Result D Why)
    (e : Result E Why) (f : Result F Why) (g : Result G Why) (h : Result H Why) (i : Result I Why)
    (make : A → B → C → D → E → F → G → H → I → Row)
    → fault_of (a >>= λ x1. b >>= λ x2. c >>= λ x3. d >>= λ x4. e >>= λ x5. f >>= λ x6. g >>= λ x7. h >>= λ x8. i >>=
    λ x9. Ok (make x1 x2 x3 x4 x5 x6 x7 x8 x9))
    ≡ option_or (fault_of a) (option_or (fault_of b)
    (option_or (fault_of c) (option_or (fault_of d)
    (option_or (fault_of e) (option_or (fault_of f)
    (option_or (fault_of g) (option_or (fault_of h) (option_or (fault_of i) None))))))))
nine (Err x) b c d e f g h i make = refl
nine (Ok x1) (Err x) c d e f g h i make = refl
nine (Ok x1) (Ok x2) (Err x) d e f g h i make = refl
nine (Ok x1) (Ok x2) (Ok x3) (Err x) e f g h i make = refl
nine (Ok x1) (Ok x2) (Ok x3) (Ok x4) (Err x) f g h i make = refl
nine (Ok x1) (Ok x2) (Ok x3) (Ok x4) (Ok x5) (Err x) g h i make = refl
nine (Ok x1) (Ok x2) (Ok x3) (Ok x4) (Ok x5) (Ok x6) (Err x) h i make = refl
nine (Ok x1) (Ok x2) (Ok x3) (Ok x4) (Ok x5) (Ok x6) (Ok x7) (Err x) i make = refl
nine (Ok x1) (Ok x2) (Ok x3) (Ok x4) (Ok x5) (Ok x6) (Ok x7) (Ok x8) (Err x) make = refl
nine (Ok x1) (Ok x2) (Ok x3) (Ok x4) (Ok x5) (Ok x6) (Ok x7) (Ok x8) (Ok x9) make = refl

same-nine : {a b c d e f g h i j k l m n o p q r : Option Why} → a ≡ j → b ≡ k → c ≡ l → d ≡ m → e ≡ n → f ≡ o → g ≡ p → h ≡ q → i ≡ r
    → option_or a (option_or b (option_or c (option_or d (option_or e (option_or f (option_or g (option_or h (option_or i None))))))))
    ≡ option_or j (option_or k (option_or l (option_or m (option_or n (option_or o (option_or p (option_or q (option_or r None))))))))
same-nine e1 e2 e3 e4 e5 e6 e7 e8 e9 = rw (e1, e2, e3, e4, e5, e6, e7, e8, e9) refl

read-fault : {A : Type 0} (o : Option A) (w : Why) → fault_of (ok_or o w) ≡ cond (is_some o) None (Some w)
read-fault None w = refl
read-fault (Some x) w = refl

abbrev empty_if : Bool → Why → Result (Unit {0}) Why
empty_if b w = cond b (Ok tt) (Err w)

unused-fault : (b : Bool) (w : Why) → fault_of (empty_if b w) ≡ cond b None (Some w)
unused-fault true w = refl
unused-fault false w = refl

read : {A : Type 0} (c : Column) (reader : List ℕ → Option A) (fields : Record)
    → fault_of (read_in c reader fields) ≡ cond (is_some (reader (field_in c fields))) None (Some (reason c))
read c reader fields = read-fault (reader (field_in c fields)) (reason c)

empty : (c : Column) (fields : Record) → fault_of (unused c fields) ≡ cond (length (field_in c fields) == 0) None (Some (reason c))
empty c fields = unused-fault (length (field_in c fields) == 0) (reason c)

by-kind : (k : Kind) (fields : Record) → fault_of (row_of_kind k fields) ≡ first_fault k fields columns
by-kind kind.Class fields =
    nine (read_in column.Class (lookup classes) fields) (unused column.Name fields) (unused column.Id fields) (read_in column.Value (lookup activities) fields)
    (unused column.Owner fields) (unused column.Flags fields) (unused column.Digest fields) (unused column.When fields)
    (unused column.Restricted fields) (λ class _ _ active _ _ _ _ _. row.Class class active)
    ∙ same-nine (read column.Class (lookup classes) fields) (empty column.Name fields) (empty column.Id fields) (read column.Value (lookup activities) fields)
    (empty column.Owner fields) (empty column.Flags fields) (empty column.Digest fields) (empty column.When fields) (empty column.Restricted fields)
by-kind kind.Group fields =
    nine (unused column.Class fields) (read_in column.Name (name_of group_rule) fields) (unused column.Id fields) (unused column.Value fields)
    (unused column.Owner fields) (unused column.Flags fields) (unused column.Digest fields) (unused column.When fields)
    (unused column.Restricted fields) (λ _ name _ _ _ _ _ _ _. row.Group name)
    ∙ same-nine (empty column.Class fields) (read column.Name (name_of group_rule) fields) (empty column.Id fields) (empty column.Value fields)
    (empty column.Owner fields) (empty column.Flags fields) (empty column.Digest fields) (empty column.When fields) (empty column.Restricted fields)
by-kind kind.User fields =
    nine (unused column.Class fields) (read_in column.Name (name_of user_rule) fields) (unused column.Id fields) (unused column.Value fields)
    (unused column.Owner fields) (read_in column.Flags (lookup user_flags) fields) (read_in column.Digest digest_of fields)
    (unused column.When fields) (read_in column.Restricted (lookup restrictions) fields) (λ _ name _ _ _ flags digest _ restricted. row.User (record {
      id = name;
      special = flags.special;
      auditor = flags.auditor;
      revoked = flags.revoked;
      digest = digest;
      restricted = restricted;
    }))
    ∙ same-nine (empty column.Class fields) (read column.Name (name_of user_rule) fields) (empty column.Id fields) (empty column.Value fields)
    (empty column.Owner fields) (read column.Flags (lookup user_flags) fields) (read column.Digest digest_of fields)
    (empty column.When fields) (read column.Restricted (lookup restrictions) fields)
by-kind kind.Connect fields =
    nine (unused column.Class fields) (read_in column.Name (name_of user_rule) fields)
    (read_in column.Id (name_of group_rule) fields) (unused column.Value fields)
    (unused column.Owner fields) (unused column.Flags fields) (unused column.Digest fields) (unused column.When fields)
    (unused column.Restricted fields) (λ _ user group _ _ _ _ _ _. row.Connect user group)
    ∙ same-nine (empty column.Class fields) (read column.Name (name_of user_rule) fields)
    (read column.Id (name_of group_rule) fields) (empty column.Value fields)
    (empty column.Owner fields) (empty column.Flags fields) (empty column.Digest fields) (empty column.When fields) (empty column.Restricted fields)
by-kind kind.Console fields =
    nine (unused column.Class fields) (read_in column.Name (name_of console_rule) fields) (unused column.Id fields) (read_in column.Value (lookup auths) fields)
    (unused column.Owner fields) (read_in column.Flags (lookup modes) fields) (unused column.Digest fields)
    (unused column.When fields) (unused column.Restricted fields)
    (λ _ name _ auth _ mode _ _ _. row.Console name auth mode)
    ∙ same-nine (empty column.Class fields) (read column.Name (name_of console_rule) fields) (empty column.Id fields) (read column.Value (lookup auths) fields)
    (empty column.Owner fields) (read column.Flags (lookup modes) fields) (empty column.Digest fields)
    (empty column.When fields) (empty column.Restricted fields)
by-kind kind.Profile fields =
    nine (read_in column.Class (lookup classes) fields) (read_in column.Name (name_of pattern_rule) fields)
    (unused column.Id fields) (read_in column.Value (lookup levels) fields)
    (read_in column.Owner (name_of user_rule) fields) (read_in column.Flags (lookup warnings) fields)
    (unused column.Digest fields) (unused column.When fields) (unused column.Restricted fields)
    (λ class pattern _ uacc owner warning _ _ _. row.Profile class pattern uacc owner warning)
    ∙ same-nine (read column.Class (lookup classes) fields) (read column.Name (name_of pattern_rule) fields)
    (empty column.Id fields) (read column.Value (lookup levels) fields)
    (read column.Owner (name_of user_rule) fields) (read column.Flags (lookup warnings) fields)
    (empty column.Digest fields) (empty column.When fields) (empty column.Restricted fields)
by-kind kind.Permit fields =
    nine (read_in column.Class (lookup classes) fields) (read_in column.Name (name_of pattern_rule) fields)
    (read_in column.Id entry_id_of fields) (read_in column.Value (lookup levels) fields)
    (unused column.Owner fields) (unused column.Flags fields) (unused column.Digest fields)
    (read_in column.When when_of fields) (unused column.Restricted fields)
    (λ class pattern id level _ _ _ when _. row.Permit class pattern id level when)
    ∙ same-nine (read column.Class (lookup classes) fields) (read column.Name (name_of pattern_rule) fields)
    (read column.Id entry_id_of fields) (read column.Value (lookup levels) fields)
    (empty column.Owner fields) (empty column.Flags fields) (empty column.Digest fields) (read column.When when_of fields) (empty column.Restricted fields)

by-name : (k : Option Kind) (fields : Record) → fault_of (ok_or k why.Kind >>= λ kind. row_of_kind kind fields) ≡ fault_by_kind k fields
by-name None fields = refl
by-name (Some k) fields = by-kind k fields

pub first-fault : FirstFaultIsNamed
first-fault width number fields = go (length fields == width) (nat_lt most_rows number)
  where
    go : (b c : Bool) → fault_of (cond b (cond c (Err why.Many) (row_by_kind fields)) (Err why.Columns)) ≡ cond b
        (cond c (Some why.Many) (fault_by_kind (lookup kinds (field_in column.Kind fields)) fields)) (Some why.Columns)
    go false c = refl
    go true true = refl
    go true false = by-name (lookup kinds (field_in column.Kind fields)) fields
