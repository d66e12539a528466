-- What the queries on profiles read.
use Rattle.std.proofs.Common.{
  ◌≡◌,
  ◌==◌,
  ◌&&◌,
  true,
  not,
  is_eq,
  ℕ,
  zero,
  suc,
  ◌+◌,
  ◌<◌,
  List,
  [],
  ◌∷◌,
  ◌++◌,
  map,
  filter,
  take,
  length,
  get_or,
  codes,
  refl,
  sym,
  ap,
  ap₂,
  subst,
  subst₂,
  ◌∙◌,
  arith,
  add-one,
  Less,
  Greater,
  Some,
  Bool,
  false,
  cond,
}
use Rattle.std.specs.List.{AllByRecursion, list_any}
use Rattle.std.specs.Ordering.{ordering_then}
use Rattle.std.specs.Str.{bytes_eq}
use Rattle.sqlite.specs.Order.{Row}
use Rattle.sqlite.specs.Ops.{binary, is_true}
use Rattle.sqlite.specs.Term.{col, op2}
use Rattle.sqlite.specs.declared.types.Value.TheVariants.{Null, Text}
use Rattle.sqlite_sql.specs.declared.ops.BinaryOp.TheVariants.{Compare}
use Rattle.sqlite_sql.specs.declared.ops.CompareOp.TheVariants.{Eq}
use Rattle.sqlite_value.specs.declared.keys.Collation.TheVariants.{Binary}
use Rattle.sqlite.specs.Listing.{understood}
use Rattle.sqlite.specs.Query.{output_cmp}
use Rattle.sqlite.specs.State.{State as SqlState, Shown}
use Rattle.sqlite_tied.specs.Compute.{everything}
use Rattle.sqlite_value.proofs.OrderLemmas.{value_cmp-Text, value_cmp-Blob}
use Rattle.sqlite_keyed.proofs.ListLemmas.{all_weaker}
use Rattle.opc_store_sql.specs.Order.{Rises, text_cmp}
use Rattle.opc_store_sql.proofs.Asked.{Asked, IsAsked, IsPaged, by_columns, columns, query, returns, then_less, returned}
use Rattle.opc_store_sql.proofs.Keyed.{same_columns}
use Rattle.opc_store_sql.proofs.Limited.{any_map, one_row, returned_any}
use Rattle.opc_store_sql.proofs.Values.{and_true, equal_texts, same_texts}
use Rattle.opc_names.specs.declared.class.Class.{Class}
use Rattle.opc_names.specs.declared.class.Class.TheVariants.{Console, Opercmds}
use Rattle.opc_names.specs.Authority.{same_class}
use Rattle.opc_names.specs.Order.{sort_key}
use Rattle.opc_names.specs.Spellings.{class_text, classes, lookup}
use Rattle.opc_policy_members.specs.declared.profile.Profile.{Profile}
use Rattle.opc_policy_members.specs.Profiles.{of_class, class_cmp, pattern_cmp, profile_cmp, profile_of, is_of}
use Rattle.opc_state.specs.State.{State}
use Rattle.opc_store_schema.specs.State.{IsOrdered}
use Rattle.opc_store_schema.specs.Placed.{profiles_at}
use Rattle.opc_store_schema.specs.Tables.{the_schema}
use Rattle.opc_store_schema.specs.Represented.{Represents, profile_row}
use Rattle.opc_store_schema.proofs.AccessLists.{split, is_of_means}
use Rattle.opc_store_schema.proofs.ProfileTexts.{profile_key, picks_profile}
use Rattle.opc_store_profiles.specs.declared.profiles.TheConstants.{BY_CLASS, EVERY}

-- ---- those of a class

-- in the order of their sort keys
abbrev pub by_class : Asked
by_class = record {
  schema = the_schema;
  text = BY_CLASS.now;
  tree = profiles_at.tree;
  tests = same_columns 0 1;
  project = columns 1 7;
  order = by_columns 1 1 ++ by_columns 6 1;
}

pub by_class_asked : IsAsked by_class
unfolding understood everything
by_class_asked = record { selects = refl; unlisted = refl; plain = (refl, refl); shows = λ schema base. refl }

-- a class is read from its own text
pub classes_back : (c : Class) → lookup classes (class_text c) ≡ Some c
classes_back Console = refl
classes_back Opercmds = refl

class_texts : (a b : Class) → text_cmp (class_text a) (class_text b) ≡ class_cmp a b
class_texts Console Console = refl
class_texts Console Opercmds = refl
class_texts Opercmds Console = refl
class_texts Opercmds Opercmds = refl

pub profiles_rise : (x y : Profile) → profile_cmp x y ≡ Less
    → output_cmp (query by_class) (returns by_class [] (Null ∷ profile_row x))
    (returns by_class [] (Null ∷ profile_row y)) ≡ Less
profiles_rise x y h =
    rw (
      value_cmp-Text (class_text x.class) (class_text y.class),
      class_texts x.class y.class,
      value_cmp-Blob (sort_key x.pattern) (sort_key y.pattern),
    )
    (then_less (class_cmp x.class y.class) (pattern_cmp x.pattern y.pattern) h)

abbrev pub class_params : Class → Row
class_params class = Text (class_text class) ∷ []

pub class_is : (a b : Class) → is_eq (text_cmp (class_text a) (class_text b)) ≡ same_class a b
class_is Console Console = refl
class_is Console Opercmds = refl
class_is Opercmds Console = refl
class_is Opercmds Opercmds = refl

pub in_class : (class : Class) (p : Profile)
    → (is_true (binary (Compare Eq Binary) (Text (class_text p.class)) (Text (class_text class))) && true) ≡ same_class
    p.class class
in_class class p = and_true _ ∙ (equal_texts (class_text p.class) (class_text class) ∙ class_is p.class class)

pub class_returned : (class : Class) (old new : SqlState) (s : State) → Represents old.now s → (rows : List Row)
    → Shown by_class.text (class_params class) old new rows → rows ≡ map profile_row (of_class class s.policy.profiles)
class_returned class old new s was = returned by_class (class_params class) refl profile_row profile_cmp (λ _. refl)
    profiles_rise (λ p. same_class p.class class) (in_class class) by_class_asked old new was.rows.schema
    s.policy.profiles was.ordered.profiles was.rows.holds.profiles

-- ---- every one

abbrev pub every : Asked
every = record by_class {
  text = EVERY.now;
  tests = [];
  order = [];
}

pub every_asked : IsAsked every
unfolding understood everything
every_asked = record { selects = refl; unlisted = refl; plain = (refl, refl); shows = λ schema base. refl }

-- ---- that of a class and a pattern

abbrev pub profile : Asked
profile = record by_class {
  text = codes "SELECT class, pattern, owner, uacc, warning, skey, head FROM profiles WHERE class = ?1 AND pattern = ?2 ORDER BY class, skey";
  tests = same_columns 0 2;
}

pub profile_asked : IsAsked profile
unfolding understood everything
profile_asked = record { selects = refl; unlisted = refl; plain = (refl, refl); shows = λ schema base. refl }

pub profile_returned : (old new : SqlState) (s : State) → Represents old.now s
    → (class : Class) (pattern : List ℕ) (rows : List Row) → Shown profile.text (profile_key class pattern) old new rows
    → rows ≡ map profile_row (filter (is_of class pattern) s.policy.profiles)
profile_returned old new s was class pattern =
    returned profile (profile_key class pattern) refl profile_row profile_cmp (λ _. refl) profiles_rise
    (is_of class pattern) (picks_profile class pattern) profile_asked old new was.rows.schema s.policy.profiles
    was.ordered.profiles was.rows.holds.profiles

-- ---- whether there is one of an owner

abbrev pub any_owned : Asked
any_owned = record by_class {
  text = codes "SELECT owner FROM profiles WHERE owner = ?1 LIMIT 1";
  tests = op2 (Compare Eq Binary) (col 1 3) (col 0 0) ∷ [];
  project = columns 3 1;
  order = [];
}

pub any_owned_asked : IsPaged any_owned one_row
unfolding understood everything
any_owned_asked = record { selects = refl; unlisted = refl; plain = (refl, refl); shows = λ schema base. refl }

pub any_owned_returned : (old new : SqlState) (s : State) → Represents old.now s → (id : List ℕ) (rows : List Row)
    → Shown any_owned.text (Text id ∷ []) old new rows
    → not (length rows == 0) ≡ list_any (λ (p : Profile). bytes_eq p.owner id) s.policy.profiles
any_owned_returned old new s was id rows h =
    returned_any any_owned (Text id ∷ []) refl any_owned_asked old new was.rows.schema (map profile_row s.policy.profiles) was.rows.holds.profiles rows h
    ∙ any_map _ profile_row _ (λ (p : Profile). and_true _ ∙ same_texts p.owner id) s.policy.profiles

-- the profile that is found is that of its own class and pattern
pub own_key : (s : State) → IsOrdered s → (class : Class) (pattern : List ℕ) (p : Profile)
    → profile_of s.policy.profiles class pattern ≡ Some p → profile_of s.policy.profiles p.class p.pattern ≡ Some p
own_key s ordered class pattern p here =
    let means = is_of_means class pattern p (split class pattern s.policy.profiles p ordered.profiles here).passes in
    subst₂ (λ (k : Class) (n : List ℕ). profile_of s.policy.profiles k n ≡ Some p) (sym means.0) (sym means.1) here

-- ---- one after another

module _ (P : Profile → Type 0) where
  -- the profile of the row at this place
  record IsHere (xs : List Profile) (i : ℕ) (y : Row) : Type 0 where
    x : Profile
    is : y ≡ profile_row x
    known : P x
    more : take (suc i) xs ≡ take i xs ++ x ∷ []

  here : (xs : List Profile) → AllByRecursion P xs → (i : ℕ) (d : Row) → i < length (map profile_row xs) → IsHere xs i (get_or (map profile_row xs) i d)
  here [] all i d low = absurd (omega arith)
  here (x ∷ xs) all zero d low = record { x = x; is = refl; known = all.0; more = refl }
  here (x ∷ xs) all (suc i) d low = let it = here xs all.1 i d (omega arith) in record {
    x = it.x;
    is = it.is;
    known = it.known;
    more = ap (λ (l : List Profile). x ∷ l) it.more;
  }

  -- one more is what was kept, up to here
  pub one_more_profile : (xs : List Profile) → AllByRecursion P xs
      → (rows : List Row) (vs : List Profile) (i : ℕ) (y : Row) (v : Profile) → rows ≡ map profile_row xs
      → i < length rows → y ≡ get_or rows i y
      → ((x : Profile) → y ≡ profile_row x → P x → v ≡ x) → vs ≡ take i xs → vs ++ v ∷ [] ≡ take (i + 1) xs
  one_more_profile xs all rows vs i y v are low is decodes so_far =
      let it = here xs all i y (subst (λ (l : List Row). i < length l) are low) in
      let row : y ≡ profile_row it.x = is ∙ (ap (λ (l : List Row). get_or l i y) are ∙ it.is) in
      ap₂ (λ (a b : List Profile). a ++ b) so_far (ap (λ (x : Profile). x ∷ []) (decodes it.x row it.known))
      ∙ (sym it.more ∙ ap (λ k. take k xs) (sym (add-one i)))

-- ---- class by class

after : (p q : Profile) → p.class ≡ Opercmds → profile_cmp p q ≡ Less → same_class q.class Console ≡ false
after p q is less = go q.class refl
  where
    go : (c : Class) → q.class ≡ c → same_class q.class Console ≡ false
    go Console e =
        absurd (let back : profile_cmp p q ≡ Greater = ap₂
        (λ (a b : Class). ordering_then (class_cmp a b) (pattern_cmp p.pattern q.pattern)) is e in cc)
    go Opercmds e = ap (λ c. same_class c Console) e

of_one : (class : Class) (b : Bool) (p : Profile) (ps : List Profile) → same_class p.class class ≡ b
    → of_class class (p ∷ ps) ≡ cond b (p ∷ of_class class ps) (of_class class ps)
of_one class b p ps is = ap (λ (c : Bool). cond c (p ∷ of_class class ps) (of_class class ps)) is

all_after : (ps : List Profile) → AllByRecursion (λ q. same_class q.class Console ≡ false) ps → (of_class Console ps ≡ []) × (of_class Opercmds ps ≡ ps)
all_after [] all = (refl, refl)
all_after (q ∷ ps) all = go q.class refl (all_after ps all.1)
  where
    go : (c : Class) → q.class ≡ c → (of_class Console ps ≡ []) × (of_class Opercmds ps ≡ ps)
        → (of_class Console (q ∷ ps) ≡ []) × (of_class Opercmds (q ∷ ps) ≡ q ∷ ps)
    go Console e more = absurd (let hit : same_class q.class Console ≡ true = ap (λ c. same_class c Console) e in let miss = all.0 in cc)
    go Opercmds e more = (
      of_one Console false q ps all.0 ∙ more.0,
      of_one Opercmds true q ps (ap (λ c. same_class c Opercmds) e) ∙ ap (λ (l : List Profile). q ∷ l) more.1,
    )

pub by_classes : (ps : List Profile) → Rises profile_cmp ps → of_class Console ps ++ of_class Opercmds ps ≡ ps
by_classes [] up = refl
by_classes (p ∷ ps) up = go p.class refl (by_classes ps up.1)
  where
    go : (c : Class) → p.class ≡ c → of_class Console ps ++ of_class Opercmds ps ≡ ps → of_class Console (p ∷ ps) ++ of_class Opercmds (p ∷ ps) ≡ p ∷ ps
    go Console e more =
        ap₂ (λ (a b : List Profile). a ++ b) (of_one Console true p ps (ap (λ c. same_class c Console) e))
        (of_one Opercmds false p ps (ap (λ c. same_class c Opercmds) e))
        ∙ ap (λ (l : List Profile). p ∷ l) more
    go Opercmds e more =
        let later = all_after ps (all_weaker _ (λ q. same_class q.class Console ≡ false) (λ q. after p q e) ps up.0) in
        ap₂ (λ (a b : List Profile). a ++ b) (of_one Console false p ps (ap (λ c. same_class c Console) e) ∙ later.0)
        (of_one Opercmds true p ps (ap (λ c. same_class c Opercmds) e) ∙ ap (λ (l : List Profile). p ∷ l) later.1)
