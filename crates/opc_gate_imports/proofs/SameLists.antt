-- The equality that rows derive is that of the definition.
use Rattle.std.proofs.Common.{◌≡◌, ◌∙◌, ℕ, Bool, true, false, List, [], ◌∷◌, Option, Some, None, refl, sym, ap, ap₂, rules}
use Rattle.std.specs.Prelude.{◌&&◌}
use Rattle.std.specs.Cmp.Derive.{one_truth}
use Rattle.std.specs.Cmp.Lexicographic.{pointwise}
use Rattle.std.specs.Option.{option_eq}
use Rattle.std.specs.Str.{bytes_eq}
use Rattle.std.proofs.Math.Bool.{beq}
use Rattle.opc_names.specs.Authority.{same_class}
use Rattle.opc_names.specs.Spellings.{auth_text, level_text}
use Rattle.opc_names.specs.declared.auth.Auth.{Auth}
use Rattle.opc_names.specs.declared.class.Class.{Class}
use Rattle.opc_names.specs.declared.class.Class.TheVariants.{Console, Opercmds}
use Rattle.opc_names.specs.declared.level.Level.{Level}
use Rattle.opc_names.specs.contracts.auth.AuthPartialEq.TheImpl as of_auth
use Rattle.opc_names.specs.contracts.class.ClassPartialEq.TheImpl as of_class
use Rattle.opc_names.specs.contracts.level.LevelPartialEq.TheImpl as of_level
use Rattle.opc_terms.specs.Modes.{mode_text}
use Rattle.opc_terms.specs.declared.mode.Mode.{Mode}
use Rattle.opc_terms.specs.contracts.mode.ModePartialEq.TheImpl as of_mode
use Rattle.opc_policy_members.specs.declared.row.Row.{Row}
use Rattle.opc_policy_members.specs.declared.row.Row.TheVariants as rows
use Rattle.opc_policy_members.specs.declared.user.User.{User}
use Rattle.opc_policy_members.specs.contracts.row.RowPartialEq.TheImpl as of_row
use Rattle.opc_policy_members.specs.contracts.user.UserPartialEq.TheImpl as of_user
use Rattle.opc_state.specs.Difference.{same_flag, same_text}
use Rattle.opc_state.proofs.SameRows.{name_itself}
use Rattle.opc_machine.specs.Imports.{same_row, same_rows, same_user}
use Rattle.opc_machine.proofs.SameBatches.{row_is}

class_reported : (c d : Class) → of_class.eq-value.it c d ≡ true → same_class c d ≡ true
class_reported Console Console h = refl
class_reported Opercmds Opercmds h = refl
class_reported Console Opercmds h = absurd (search (rules, h))
class_reported Opercmds Console h = absurd (search (rules, h))

level_reported : (l m : Level) → of_level.eq-value.it l m ≡ true → bytes_eq (level_text l) (level_text m) ≡ true
level_reported l m h = let same : l ≡ m = search (rules, h) in ap (λ x. bytes_eq (level_text l) (level_text x)) (sym same) ∙ name_itself (level_text l)

auth_reported : (a b : Auth) → of_auth.eq-value.it a b ≡ true → bytes_eq (auth_text a) (auth_text b) ≡ true
auth_reported a b h = let same : a ≡ b = search (rules, h) in ap (λ x. bytes_eq (auth_text a) (auth_text x)) (sym same) ∙ name_itself (auth_text a)

mode_reported : (m k : Mode) → of_mode.eq-value.it m k ≡ true → bytes_eq (mode_text m) (mode_text k) ≡ true
mode_reported m k h = let same : m ≡ k = search (rules, h) in ap (λ x. bytes_eq (mode_text m) (mode_text x)) (sym same) ∙ name_itself (mode_text m)

flag_reported : (a b : Bool) → beq a b ≡ true → same_flag a b ≡ true
flag_reported true b h = search (rules, h)
flag_reported false true h = h
flag_reported false false h = refl

text_reported : (d e : Option (List ℕ)) → option_eq bytes_eq d e ≡ true → same_text d e ≡ true
text_reported None None h = refl
text_reported (Some d) (Some e) h = h
text_reported None (Some e) h = absurd (search (rules, h))
text_reported (Some d) None h = absurd (search (rules, h))

name_reported : (a b : List ℕ) → bytes_eq a b ≡ true → bytes_eq a b ≡ true
name_reported a b h = h

and_reported : (a b c d : Bool) → (a ≡ true → c ≡ true) → (b ≡ true → d ≡ true) → (a && b) ≡ true → (c && d) ≡ true
and_reported true true c d one other h = ap₂ (λ x y. x && y) (one refl) (other refl)
and_reported true false c d one other h = absurd (search (rules, h))
and_reported false b c d one other h = absurd (search (rules, h))

user_reported : (u v : User) → of_user.eq-value.it u v ≡ true → same_user u v ≡ true
user_reported u v = and_reported _ _ _ _ (name_reported u.id v.id) (and_reported _ _ _ _ (flag_reported u.special v.special)
    (and_reported _ _ _ _ (flag_reported u.auditor v.auditor)
    (and_reported _ _ _ _ (flag_reported u.revoked v.revoked) (and_reported _ _ _ _ (text_reported u.digest v.digest)
    (flag_reported u.restricted v.restricted)))))

row_reported : (r q : Row) → of_row.eq-value.it r q ≡ true → same_row r q ≡ true
row_reported (rows.Class c a) (rows.Class d b) = and_reported _ _ _ _ (class_reported c d) (flag_reported a b)
row_reported (rows.Group n) (rows.Group m) = name_reported n m
row_reported (rows.User u) (rows.User v) = user_reported u v
row_reported (rows.Connect u g) (rows.Connect v k) = and_reported _ _ _ _ (name_reported u v) (name_reported g k)
row_reported (rows.Console n a m) (rows.Console o b k) = and_reported _ _ _ _ (name_reported n o) (and_reported _ _ _ _ (auth_reported a b) (mode_reported m k))
row_reported (rows.Profile c p u o w) (rows.Profile d q v n x) =
    and_reported _ _ _ _ (class_reported c d) (and_reported _ _ _ _ (name_reported p q)
    (and_reported _ _ _ _ (level_reported u v) (and_reported _ _ _ _ (name_reported o n) (flag_reported w x))))
row_reported (rows.Permit c p e l w) (rows.Permit d q f m x) =
    and_reported _ _ _ _ (class_reported c d) (and_reported _ _ _ _ (name_reported p q) (and_reported _ _ _ _ (name_reported e f)
    (and_reported _ _ _ _ (level_reported l m) (text_reported w x))))
row_reported r q = λ h. absurd (search (rules, h))

derived_itself : (r : Row) → of_row.eq-value.it r r ≡ true
derived_itself r = search rules

same_row_by_derived : (r q : Row) → of_row.eq-value.it r q ≡ same_row r q
same_row_by_derived r q = one_truth (of_row.eq-value.it r q) (same_row r q) (row_reported r q)
    (λ h. ap (of_row.eq-value.it r) (sym (row_is r q h)) ∙ derived_itself r)

pub same_by_derived : (one other : List Row) → pointwise of_row.eq-value.it one other ≡ same_rows one other
same_by_derived [] [] = refl
same_by_derived [] (q ∷ other) = refl
same_by_derived (r ∷ one) [] = refl
same_by_derived (r ∷ one) (q ∷ other) = ap₂ (λ a b. a && b) (same_row_by_derived r q) (same_by_derived one other)
