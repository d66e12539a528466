-- The statements on profiles and on their access lists.
use Rattle.std.proofs.Common.{◌≡◌, ℕ, List, [], ◌∷◌, ◌&&◌, drop, codes, Bool, true, false, refl, ap₂, ◌∙◌, is_eq}
use Rattle.std.specs.Str.{bytes_eq}
use Rattle.sqlite.specs.declared.types.Value.{Value}
use Rattle.sqlite.specs.declared.types.Value.TheVariants.{Null, Text}
use Rattle.sqlite.specs.Term.{Term, lit, col, op2}
use Rattle.sqlite.specs.Ops.{binary, is_true}
use Rattle.sqlite_sql.specs.declared.ops.BinaryOp.TheVariants.{Compare}
use Rattle.sqlite_sql.specs.declared.ops.CompareOp.TheVariants.{Eq}
use Rattle.sqlite_value.specs.declared.keys.Collation.TheVariants.{Binary}
use Rattle.sqlite.specs.Order.{Row, column}
use Rattle.sqlite.specs.Command.TheVariants.{Insert, Delete, Update}
use Rattle.sqlite.specs.Source.TheVariants.{Values}
use Rattle.sqlite_tied.specs.Compute.{everything}
use Rattle.sqlite.specs.Listing.{understood}
use Rattle.sqlite.specs.Tree.{Trees}
use Rattle.sqlite.specs.Cast.{cast_row}
use Rattle.sqlite.proofs.Callers.{IsPlain, command_of}
use Rattle.opc_store_sql.specs.Order.{text_cmp}
use Rattle.opc_store_sql.proofs.Steps.{cast_int}
use Rattle.opc_store_sql.proofs.Queries.{selecting, alone, passes}
use Rattle.opc_store_sql.proofs.Values.{equal_texts, and_true, same_texts}
use Rattle.opc_names.specs.declared.class.Class.{Class}
use Rattle.opc_names.specs.declared.class.Class.TheVariants.{Console, Opercmds}
use Rattle.opc_names.specs.Authority.{same_class}
use Rattle.opc_names.specs.Spellings.{class_text}
use Rattle.opc_policy_members.specs.declared.entry.Entry.{Entry}
use Rattle.opc_policy_members.specs.declared.profile.Profile.{Profile}
use Rattle.opc_policy_members.specs.Profiles.{is_of}
use Rattle.opc_store_schema.specs.Tables.{the_schema}
use Rattle.opc_store_schema.specs.Placed.{profiles_at, entries_at}
use Rattle.opc_store_schema.specs.Represented.{or_empty, profile_row, entry_row}

abbrev pub profile_terms : List Term
profile_terms = col 0 0 ∷ col 0 1 ∷ col 0 2 ∷ col 0 3 ∷ col 0 4 ∷ col 0 5 ∷ col 0 6 ∷ []

abbrev pub entry_terms : List Term
entry_terms = col 0 0 ∷ col 0 1 ∷ col 0 2 ∷ col 0 3 ∷ col 0 4 ∷ []

-- class and pattern are those of the parameters, and so are the id and the console
abbrev pub of_profile : List Term
of_profile = op2 (Compare Eq Binary) (col 1 1) (col 0 0) ∷ op2 (Compare Eq Binary) (col 1 2) (col 0 1) ∷ []

abbrev pub of_entry : List Term
of_entry = op2 (Compare Eq Binary) (col 1 1) (col 0 0) ∷ op2 (Compare Eq Binary) (col 1 2) (col 0 1)
    ∷ op2 (Compare Eq Binary) (col 1 3) (col 0 2) ∷ op2 (Compare Eq Binary) (col 1 4) (col 0 3) ∷ []

abbrev pub insert_profile : List ℕ
insert_profile = codes "INSERT INTO profiles VALUES (?1, ?2, ?3, ?4, ?5, ?6, ?7)"

pub insert_profile_is : command_of (understood the_schema insert_profile) ≡ Insert 15 (Values (lit Null ∷ profile_terms) 8)
unfolding understood everything
insert_profile_is = refl

pub insert_profile_plain : IsPlain (understood the_schema insert_profile)
unfolding understood everything
insert_profile_plain = (refl, refl)

abbrev pub update_profile : List ℕ
update_profile =
    codes "UPDATE profiles SET class = ?1, pattern = ?2, owner = ?3, uacc = ?4, warning = ?5, skey = ?6, head = ?7 WHERE class = ?1 AND pattern = ?2"

pub update_profile_is : command_of (understood the_schema update_profile) ≡ Update 15
    (alone (selecting profiles_at.tree of_profile (col 1 0 ∷ col 1 0 ∷ profile_terms) []))
unfolding understood everything
update_profile_is = refl

pub update_profile_plain : IsPlain (understood the_schema update_profile)
unfolding understood everything
update_profile_plain = (refl, refl)

abbrev pub delete_profile : List ℕ
delete_profile = codes "DELETE FROM profiles WHERE class = ?1 AND pattern = ?2"

pub delete_profile_is : command_of (understood the_schema delete_profile) ≡ Delete 15 (alone (selecting profiles_at.tree of_profile (col 1 0 ∷ []) []))
unfolding understood everything
delete_profile_is = refl

pub delete_profile_plain : IsPlain (understood the_schema delete_profile)
unfolding understood everything
delete_profile_plain = (refl, refl)

abbrev pub insert_entry : List ℕ
insert_entry = codes "INSERT INTO entries VALUES (?1, ?2, ?3, ?4, ?5)"

pub insert_entry_is : command_of (understood the_schema insert_entry) ≡ Insert 16 (Values (lit Null ∷ entry_terms) 6)
unfolding understood everything
insert_entry_is = refl

pub insert_entry_plain : IsPlain (understood the_schema insert_entry)
unfolding understood everything
insert_entry_plain = (refl, refl)

abbrev pub update_entry : List ℕ
update_entry =
    codes "UPDATE entries SET class = ?1, pattern = ?2, id = ?3, console = ?4, level = ?5 WHERE class = ?1 AND pattern = ?2 AND id = ?3 AND console = ?4"

pub update_entry_is : command_of (understood the_schema update_entry) ≡ Update 16
    (alone (selecting entries_at.tree of_entry (col 1 0 ∷ col 1 0 ∷ entry_terms) []))
unfolding understood everything
update_entry_is = refl

pub update_entry_plain : IsPlain (understood the_schema update_entry)
unfolding understood everything
update_entry_plain = (refl, refl)

abbrev pub delete_entry : List ℕ
delete_entry = codes "DELETE FROM entries WHERE class = ?1 AND pattern = ?2 AND id = ?3 AND console = ?4"

pub delete_entry_is : command_of (understood the_schema delete_entry) ≡ Delete 16 (alone (selecting entries_at.tree of_entry (col 1 0 ∷ []) []))
unfolding understood everything
delete_entry_is = refl

pub delete_entry_plain : IsPlain (understood the_schema delete_entry)
unfolding understood everything
delete_entry_plain = (refl, refl)

abbrev pub delete_entries : List ℕ
delete_entries = codes "DELETE FROM entries WHERE class = ?1 AND pattern = ?2"

pub delete_entries_is : command_of (understood the_schema delete_entries) ≡ Delete 16 (alone (selecting entries_at.tree of_profile (col 1 0 ∷ []) []))
unfolding understood everything
delete_entries_is = refl

pub delete_entries_plain : IsPlain (understood the_schema delete_entries)
unfolding understood everything
delete_entries_plain = (refl, refl)

-- ---- the tests, of a row's values

abbrev pub has_profile : Class → List ℕ → Row → Bool
has_profile class pattern v = is_true (binary (Compare Eq Binary) (column v 0) (Text (class_text class)))
    && (is_true (binary (Compare Eq Binary) (column v 1) (Text pattern)) && true)

abbrev pub has_entry : Class → List ℕ → List ℕ → List ℕ → Row → Bool
has_entry class pattern id console v =
    is_true (binary (Compare Eq Binary) (column v 0) (Text (class_text class)))
    && (is_true (binary (Compare Eq Binary) (column v 1) (Text pattern))
    && (is_true (binary (Compare Eq Binary) (column v 2) (Text id)) && (is_true (binary (Compare Eq Binary) (column v 3) (Text console)) && true)))

-- an entry with this text in the column of its console
abbrev pub is_at : List ℕ → List ℕ → Entry → Bool
is_at id console e = bytes_eq e.id id && bytes_eq (or_empty e.when) console

abbrev pub profile_key : Class → List ℕ → Row
profile_key class pattern = Text (class_text class) ∷ Text pattern ∷ []

abbrev pub entry_key : Class → List ℕ → List ℕ → List ℕ → Row
entry_key class pattern id console = Text (class_text class) ∷ Text pattern ∷ Text id ∷ Text console ∷ []

pub profile_below : (p : Profile) (project : List Term) (db : Trees) (r : Row)
    → passes profiles_at.tree of_profile project [] db (profile_row p) r ≡ has_profile p.class p.pattern (drop 1 r)
profile_below p project db [] = refl
profile_below p project db (v0 ∷ []) = refl
profile_below p project db (v0 ∷ v1 ∷ r) = refl

pub key_below : (tree : ℕ) (class : Class) (pattern : List ℕ) (project : List Term) (db : Trees) (r : Row)
    → passes tree of_profile project [] db (profile_key class pattern) r ≡ has_profile class pattern (drop 1 r)
key_below tree class pattern project db [] = refl
key_below tree class pattern project db (v0 ∷ []) = refl
key_below tree class pattern project db (v0 ∷ v1 ∷ r) = refl

pub entry_below : (class : Class) (pattern : List ℕ) (e : Entry) (project : List Term) (db : Trees) (r : Row)
    → passes entries_at.tree of_entry project [] db (entry_row class pattern e) r ≡ has_entry class pattern e.id
    (or_empty e.when) (drop 1 r)
entry_below class pattern e project db [] = refl
entry_below class pattern e project db (v0 ∷ []) = refl
entry_below class pattern e project db (v0 ∷ v1 ∷ []) = refl
entry_below class pattern e project db (v0 ∷ v1 ∷ v2 ∷ []) = refl
entry_below class pattern e project db (v0 ∷ v1 ∷ v2 ∷ v3 ∷ r) = refl

pub entry_key_below : (class : Class) (pattern id console : List ℕ) (project : List Term) (db : Trees) (r : Row)
    → passes entries_at.tree of_entry project [] db (entry_key class pattern id console) r ≡ has_entry class pattern id
    console (drop 1 r)
entry_key_below class pattern id console project db [] = refl
entry_key_below class pattern id console project db (v0 ∷ []) = refl
entry_key_below class pattern id console project db (v0 ∷ v1 ∷ []) = refl
entry_key_below class pattern id console project db (v0 ∷ v1 ∷ v2 ∷ []) = refl
entry_key_below class pattern id console project db (v0 ∷ v1 ∷ v2 ∷ v3 ∷ r) = refl

class_is : (a b : Class) → is_eq (text_cmp (class_text a) (class_text b)) ≡ same_class a b
class_is Console Console = refl
class_is Console Opercmds = refl
class_is Opercmds Console = refl
class_is Opercmds Opercmds = refl

pub picks_profile : (class : Class) (pattern : List ℕ) (p : Profile) → has_profile class pattern (profile_row p) ≡ is_of class pattern p
picks_profile class pattern p = ap₂ (λ a b. a && b)
    (equal_texts (class_text p.class) (class_text class) ∙ class_is p.class class)
    (and_true _ ∙ same_texts p.pattern pattern)

pub picks_entries : (class : Class) (pattern : List ℕ) (p : Profile) (e : Entry)
    → has_profile class pattern (entry_row p.class p.pattern e) ≡ is_of class pattern p
picks_entries class pattern p e = ap₂ (λ a b. a && b)
    (equal_texts (class_text p.class) (class_text class) ∙ class_is p.class class)
    (and_true _ ∙ same_texts p.pattern pattern)

and_both : (a b c : Bool) → (a && (b && c)) ≡ ((a && b) && c)
and_both true b c = refl
and_both false b c = refl

pub picks_entry : (class : Class) (pattern id console : List ℕ) (p : Profile) (e : Entry)
    → has_entry class pattern id console (entry_row p.class p.pattern e) ≡ (is_of class pattern p && is_at id console e)
picks_entry class pattern id console p e =
    let mine = ap₂ (λ a b. a && b) (same_texts e.id id) (and_true _ ∙ same_texts (or_empty e.when) console) in
    ap₂ (λ a b. a && b) (equal_texts (class_text p.class) (class_text class) ∙ class_is p.class class) (ap₂ (λ a b. a && b) (same_texts p.pattern pattern) mine)
    ∙ and_both (same_class p.class class) (bytes_eq p.pattern pattern) (is_at id console e)

-- ---- what the columns make of the values

pub profile_cast : (p : Profile) (v : Value) → drop 1 (cast_row profiles_at (v ∷ profile_row p)) ≡ profile_row p
profile_cast p v =
    ap₂ (λ a (r : Row). a ∷ r) refl (ap₂ (λ a (r : Row). a ∷ r) refl
    (ap₂ (λ a (r : Row). a ∷ r) refl
    (ap₂ (λ a (r : Row). a ∷ r) (cast_int _) (ap₂ (λ a (r : Row). a ∷ r) (cast_int _) refl))))

pub entry_cast : (class : Class) (pattern : List ℕ) (e : Entry) (v : Value)
    → drop 1 (cast_row entries_at (v ∷ entry_row class pattern e)) ≡ entry_row class pattern e
entry_cast class pattern e v = ap₂ (λ a (r : Row). a ∷ r) refl
    (ap₂ (λ a (r : Row). a ∷ r) refl (ap₂ (λ a (r : Row). a ∷ r) refl
    (ap₂ (λ a (r : Row). a ∷ r) refl (ap₂ (λ a (r : Row). a ∷ r) (cast_int _) refl))))
