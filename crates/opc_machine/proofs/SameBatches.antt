-- Two batches are the same if and only if their rows are equal.
use Rattle.std.proofs.Common.{◌≡◌, ◌&&◌, ◌↔◌, ℕ, Bool, true, false, List, [], ◌∷◌, Option, Some, None, refl, sym, ap, ap₂, subst, ◌∙◌, rules}
use Rattle.std.specs.Str.{bytes_eq}
use Rattle.std.proofs.lemmas.Slice.Eq.{bytes_eq-Decides}
use Rattle.opc_names.specs.Authority.{same_class}
use Rattle.opc_names.specs.Spellings.{auths, auth_text, level_text, levels, lookup}
use Rattle.opc_names.specs.declared.auth.Auth.{Auth}
use Rattle.opc_names.specs.declared.auth.Auth.TheVariants as auth
use Rattle.opc_names.specs.declared.class.Class.{Class}
use Rattle.opc_names.specs.declared.class.Class.TheVariants as class
use Rattle.opc_names.specs.declared.level.Level.{Level}
use Rattle.opc_names.specs.declared.level.Level.TheVariants as level
use Rattle.opc_policy_members.proofs.Classes.{same_class_is}
use Rattle.opc_terms.specs.declared.mode.Mode.{Mode}
use Rattle.opc_terms.specs.declared.mode.Mode.TheVariants.{Optional, Required, Auto}
use Rattle.opc_policy_members.specs.declared.row.Row.{Row}
use Rattle.opc_policy_members.specs.declared.row.Row.TheVariants as rows
use Rattle.opc_policy_members.specs.declared.user.User.{User}
use Rattle.opc_terms.specs.Modes.{mode_text, modes}
use Rattle.opc_state.specs.Difference.{same_flag, same_text}
use Rattle.opc_machine.specs.Imports.{same_row, same_rows, same_user}

first : (a b : Bool) → (a && b) ≡ true → a ≡ true
first true b h = refl
first false b h = absurd (search (rules, h))

rest : (a b : Bool) → (a && b) ≡ true → b ≡ true
rest true b h = h
rest false b h = absurd (search (rules, h))

both : (a b : Bool) → a ≡ true → b ≡ true → (a && b) ≡ true
both true b h k = k
both false b h k = absurd (search (rules, h))

name_is : (a b : List ℕ) → bytes_eq a b ≡ true → a ≡ b
name_is a b h = (bytes_eq-Decides a b).0 h

name_itself : (a : List ℕ) → bytes_eq a a ≡ true
name_itself a = (bytes_eq-Decides a a).1 refl

flag_is : (a b : Bool) → same_flag a b ≡ true → a ≡ b
flag_is true true h = refl
flag_is true false h = absurd (search (rules, h))
flag_is false true h = absurd (search (rules, h))
flag_is false false h = refl

flag_itself : (a : Bool) → same_flag a a ≡ true
flag_itself true = refl
flag_itself false = refl

digest_is : (a b : Option (List ℕ)) → same_text a b ≡ true → a ≡ b
digest_is None None h = refl
digest_is (Some a) (Some b) h = ap Some (name_is a b h)
digest_is (Some a) None h = absurd (search (rules, h))
digest_is None (Some b) h = absurd (search (rules, h))

digest_itself : (a : Option (List ℕ)) → same_text a a ≡ true
digest_itself None = refl
digest_itself (Some a) = name_itself a

class_itself : (c : Class) → same_class c c ≡ true
class_itself class.Console = refl
class_itself class.Opercmds = refl

some_of : {A : Type 0} (x y : A) → (let o : Option A = Some x in o) ≡ Some y → x ≡ y
some_of x y h = search (rules, h)

auth_back : (a : Auth) → lookup auths (auth_text a) ≡ Some a
auth_back auth.Master = refl
auth_back auth.All = refl
auth_back auth.Info = refl
auth_back auth.Sys = refl
auth_back auth.Io = refl
auth_back auth.Cons = refl
auth_back auth.SysIo = refl
auth_back auth.SysCons = refl
auth_back auth.IoCons = refl
auth_back auth.SysIoCons = refl

auth_is : (a b : Auth) → bytes_eq (auth_text a) (auth_text b) ≡ true → a ≡ b
auth_is a b h = some_of a b (sym (auth_back a) ∙ ap (lookup auths) (name_is (auth_text a) (auth_text b) h) ∙ auth_back b)

level_back : (a : Level) → lookup levels (level_text a) ≡ Some a
level_back level.None = refl
level_back level.Read = refl
level_back level.Update = refl
level_back level.Control = refl
level_back level.Alter = refl

level_is : (a b : Level) → bytes_eq (level_text a) (level_text b) ≡ true → a ≡ b
level_is a b h = some_of a b (sym (level_back a) ∙ ap (lookup levels) (name_is (level_text a) (level_text b) h) ∙ level_back b)

mode_back : (m : Mode) → lookup modes (mode_text m) ≡ Some m
mode_back Optional = refl
mode_back Required = refl
mode_back Auto = refl

mode_is : (a b : Mode) → bytes_eq (mode_text a) (mode_text b) ≡ true → a ≡ b
mode_is a b h = some_of a b (sym (mode_back a) ∙ ap (lookup modes) (name_is (mode_text a) (mode_text b) h) ∙ mode_back b)

user_is : (u v : User) → same_user u v ≡ true → u ≡ v
user_is u v h =
    let id : u.id ≡ v.id = name_is _ _ (first _ _ h) in
    let h1 = rest (bytes_eq u.id v.id) _ h in
    let special : u.special ≡ v.special = flag_is _ _ (first _ _ h1) in
    let h2 = rest (same_flag u.special v.special) _ h1 in
    let auditor : u.auditor ≡ v.auditor = flag_is _ _ (first _ _ h2) in
    let h3 = rest (same_flag u.auditor v.auditor) _ h2 in
    let revoked : u.revoked ≡ v.revoked = flag_is _ _ (first _ _ h3) in
    let h4 = rest (same_flag u.revoked v.revoked) _ h3 in
    let digest : u.digest ≡ v.digest = digest_is _ _ (first _ _ h4) in
    let restricted : u.restricted ≡ v.restricted = flag_is _ _ (rest (same_text u.digest v.digest) _ h4) in
    λ i. record { id = id i; special = special i; auditor = auditor i; revoked = revoked i; digest = digest i; restricted = restricted i }

user_itself : (u : User) → same_user u u ≡ true
user_itself u = both _ _ (name_itself u.id)
    (both _ _ (flag_itself u.special) (both _ _ (flag_itself u.auditor)
    (both _ _ (flag_itself u.revoked) (both _ _ (digest_itself u.digest) (flag_itself u.restricted)))))

pub row_is : (r q : Row) → same_row r q ≡ true → r ≡ q
row_is (rows.Class c a) (rows.Class d b) h =
    let class : c ≡ d = same_class_is c d (first _ _ h) in
    let active : a ≡ b = flag_is a b (rest _ _ h) in
    λ i. rows.Class (class i) (active i)
row_is (rows.Group n) (rows.Group m) h = ap rows.Group (name_is n m h)
row_is (rows.User u) (rows.User v) h = ap rows.User (user_is u v h)
row_is (rows.Connect u g) (rows.Connect v k) h =
    let user : u ≡ v = name_is u v (first _ _ h) in
    let group : g ≡ k = name_is g k (rest _ _ h) in
    λ i. rows.Connect (user i) (group i)
row_is (rows.Console n a m) (rows.Console o b k) h =
    let h1 = rest (bytes_eq n o) _ h in
    let name : n ≡ o = name_is n o (first _ _ h) in
    let auth : a ≡ b = auth_is a b (first _ _ h1) in
    let mode : m ≡ k = mode_is m k (rest _ _ h1) in
    λ i. rows.Console (name i) (auth i) (mode i)
row_is (rows.Profile c p u o w) (rows.Profile d q v n x) h =
    let h1 = rest (same_class c d) _ h in
    let h2 = rest (bytes_eq p q) _ h1 in
    let h3 = rest (bytes_eq (level_text u) (level_text v)) _ h2 in
    let class : c ≡ d = same_class_is c d (first _ _ h) in
    let pattern : p ≡ q = name_is p q (first _ _ h1) in
    let uacc : u ≡ v = level_is u v (first _ _ h2) in
    let owner : o ≡ n = name_is o n (first _ _ h3) in
    let warning : w ≡ x = flag_is w x (rest _ _ h3) in
    λ i. rows.Profile (class i) (pattern i) (uacc i) (owner i) (warning i)
row_is (rows.Permit c p e l w) (rows.Permit d q f m x) h =
    let h1 = rest (same_class c d) _ h in
    let h2 = rest (bytes_eq p q) _ h1 in
    let class : c ≡ d = same_class_is c d (first _ _ h) in
    let pattern : p ≡ q = name_is p q (first _ _ h1) in
    let id : e ≡ f = name_is e f (first _ _ h2) in
    let h3 = rest (bytes_eq e f) _ h2 in
    let level : l ≡ m = level_is l m (first _ _ h3) in
    let when : w ≡ x = digest_is w x (rest (bytes_eq (level_text l) (level_text m)) _ h3) in
    λ i. rows.Permit (class i) (pattern i) (id i) (level i) (when i)
row_is r q h = absurd (search (rules, h))

pub row_itself : (r : Row) → same_row r r ≡ true
row_itself (rows.Class c a) = both _ _ (class_itself c) (flag_itself a)
row_itself (rows.Group n) = name_itself n
row_itself (rows.User u) = user_itself u
row_itself (rows.Connect u g) = both _ _ (name_itself u) (name_itself g)
row_itself (rows.Console n a m) = both _ _ (name_itself n) (both _ _ (name_itself (auth_text a)) (name_itself (mode_text m)))
row_itself (rows.Profile c p u o w) = both _ _ (class_itself c)
    (both _ _ (name_itself p) (both _ _ (name_itself (level_text u)) (both _ _ (name_itself o) (flag_itself w))))
row_itself (rows.Permit c p e l w) = both _ _ (class_itself c)
    (both _ _ (name_itself p) (both _ _ (name_itself e) (both _ _ (name_itself (level_text l)) (digest_itself w))))

rows_are : (one other : List Row) → same_rows one other ≡ true → one ≡ other
rows_are [] [] h = refl
rows_are (r ∷ one) (q ∷ other) h = ap₂ (λ x xs. x ∷ xs) (row_is r q (first _ _ h)) (rows_are one other (rest (same_row r q) _ h))
rows_are [] (q ∷ other) h = absurd (search (rules, h))
rows_are (r ∷ one) [] h = absurd (search (rules, h))

rows_itself : (one : List Row) → same_rows one one ≡ true
rows_itself [] = refl
rows_itself (r ∷ one) = both _ _ (row_itself r) (rows_itself one)

pub same_are_equal : (one other : List Row) → (same_rows one other ≡ true) ↔ (one ≡ other)
same_are_equal one other = (rows_are one other, λ h. subst (λ x. same_rows one x ≡ true) h (rows_itself one))
