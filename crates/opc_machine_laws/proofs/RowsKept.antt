-- What the rows of an import leave there, and what is in their way.
use Rattle.std.proofs.Common.{
  ◌≡◌,
  ◌≢◌,
  ◌⊎◌,
  inl,
  inr,
  ℕ,
  Bool,
  true,
  false,
  not,
  ◌||◌,
  cond,
  List,
  [],
  ◌∷◌,
  Option,
  Some,
  None,
  Ok,
  refl,
  sym,
  ap,
  subst,
  ◌∙◌,
}
use Rattle.std.specs.BTreeSet.{replace_key}
use Rattle.std.specs.List.{AllByRecursion, find, list_any}
use Rattle.std.specs.Option.{is_some, option_eq, option_map, option_map_or}
use Rattle.std.specs.Ordering.{match_ordering}
use Rattle.std.specs.Str.{bytes_eq}
use Rattle.std.specs.declared.cmp.Ordering.{Ordering}
use Rattle.std.specs.declared.cmp.Ordering.TheVariants.{Less, Equal, Greater}
use Rattle.opc_names.specs.declared.class.Class.{Class}
use Rattle.opc_names.specs.declared.class.Class.TheVariants.{Console, Opercmds}
use Rattle.opc_names.specs.declared.level.Level.{Level}
use Rattle.opc_policy_members.specs.declared.entry.Entry.{Entry}
use Rattle.opc_policy_members.specs.declared.policy.Policy.{Policy}
use Rattle.opc_policy_members.specs.declared.profile.Profile.{Profile}
use Rattle.opc_policy_members.specs.declared.row.Row.{Row}
use Rattle.opc_policy_members.specs.declared.row.Row.TheVariants as rows
use Rattle.opc_policy_members.specs.Access.{entry_level, is_for}
use Rattle.opc_policy_members.specs.Profiles.{is_of, profile_cmp, profile_of}
use Rattle.opc_policy_members.specs.Taken.{after_row, has_group, has_holder, has_user}
use Rattle.opc_rows.proofs.Orders.{all_found}
use Rattle.opc_board.specs.Consoles.{defined}
use Rattle.opc_state.specs.Loads.{is_connected}
use Rattle.opc_machine_laws.specs.ObstacleLaws.{is_defined, is_listed}
use Rattle.opc_machine_laws.specs.RowLaws.{
  HasPattern,
  HasTaken,
  IsOther,
  IsPermitted,
  IsWritten,
  KeepsAll,
  ProfileBecomes,
}
use Rattle.opc_machine_laws.specs.TakingLaws.{AreTaken}
use Rattle.opc_machine_laws.proofs.Keys.{place_itself, same_place, which_name}
use Rattle.opc_machine_laws.proofs.RowEffects.{listing, row_so, rows_do}
use Rattle.opc_machine_laws.proofs.Taking.{needing_ok}

-- the same or not

which_class : (c d : Class) → (c ≡ d) ⊎ (c ≢ d)
which_class Console Console = inl refl
which_class Console Opercmds = inr (λ e. (cc))
which_class Opercmds Console = inr (λ e. (cc))
which_class Opercmds Opercmds = inl refl

which_place : (a b : Option (List ℕ)) → (a ≡ b) ⊎ (a ≢ b)
which_place a b = go (option_eq bytes_eq a b) refl
  where
    go : (t : Bool) → option_eq bytes_eq a b ≡ t → (a ≡ b) ⊎ (a ≢ b)
    go true same = inl (same_place a b same)
    go false differ = inr (λ e. let itself : option_eq bytes_eq a b ≡ true = subst (λ o. option_eq bytes_eq a o ≡ true) e (place_itself a) in absurd (cc))

both_or_other : {A B : Type 0} {a c : A} {b d : B} → (a ≡ c) ⊎ (a ≢ c) → (b ≡ d) ⊎ (b ≢ d) → ((a ≡ c) × (b ≡ d)) ⊎ IsOther a b c d
both_or_other (inl one) (inl two) = inl (one, two)
both_or_other (inl one) (inr two) = inr (λ e f. two f)
both_or_other (inr one) two = inr (λ e f. one e)

-- what one row leaves

abbrev by_list : (Option (List ℕ)) → List ℕ → Option Profile → Bool
by_list when id o = option_map_or (λ (p : Profile). list_any (is_for when id) p.entries) o false

pub any_found : {A : Type 0} (q : A → Bool) (xs : List A) → list_any q xs ≡ is_some (find q xs)
any_found q [] = refl
any_found {A = A} q (x ∷ xs) = go (q x) (any_found q xs)
  where
    go : (b : Bool) → list_any q xs ≡ is_some (find q xs) → (b || list_any q xs) ≡ is_some (cond b (Some x) (find q xs))
    go true later = refl
    go false later = later

some_level : {A B : Type 0} (f : A → B) (o : Option A) → is_some (option_map f o) ≡ is_some o
some_level f (Some x) = refl
some_level f None = refl

listed_level : (when : Option (List ℕ)) (id : List ℕ) (entries : List Entry) → list_any (is_for when id) entries ≡ is_some (entry_level entries when id)
listed_level when id entries = any_found (is_for when id) entries ∙ sym (some_level (λ (e : Entry). e.level) (find (is_for when id) entries))

module _ (old new : Policy) where
  keeps_itself : new ≡ old → KeepsAll old new
  keeps_itself same = record {
    users = λ id was. ap (λ (p : Policy). has_user p id) same ∙ was;
    groups = λ name was. ap (λ (p : Policy). has_group p name) same ∙ was;
    connects = λ user group was. ap (λ (p : Policy). is_connected p user group) same ∙ was;
    profiles = λ class pattern was. ap (λ (p : Policy). is_defined p class pattern) same ∙ was;
    entries = λ class pattern id when was. ap (λ (p : Policy). is_listed p class pattern id when) same ∙ was;
  }

  module _ (profile : Profile) (becomes : ProfileBecomes profile old new) where
    defined_still : (class : Class) (pattern : List ℕ) → is_defined old class pattern ≡ true → is_defined new class pattern ≡ true
    defined_still class pattern was = go (both_or_other (which_class class profile.class) (which_name pattern profile.pattern))
      where
        made : (o : Option Profile) → profile_of old.profiles profile.class profile.pattern ≡ o
            → is_some (profile_of new.profiles profile.class profile.pattern) ≡ true
        made None none = ap is_some (becomes.fresh none)
        made (Some q) at = ap is_some (becomes.kept q at)

        go : ((class ≡ profile.class) × (pattern ≡ profile.pattern)) ⊎ IsOther class pattern profile.class profile.pattern → is_defined new class pattern ≡ true
        go (inl same) = ap (λ c. is_some (profile_of new.profiles c pattern)) same.0
            ∙ ap (λ n. is_some (profile_of new.profiles profile.class n)) same.1
            ∙ made (profile_of old.profiles profile.class profile.pattern) refl
        go (inr other) = ap is_some (becomes.others class pattern other) ∙ was

    listed_still : (class : Class) (pattern id : List ℕ) (when : Option (List ℕ))
        → is_listed old class pattern id when ≡ true → is_listed new class pattern id when ≡ true
    listed_still class pattern id when was = go (both_or_other (which_class class profile.class) (which_name pattern profile.pattern))
      where
        made : (o : Option Profile) → profile_of old.profiles profile.class profile.pattern ≡ o
            → by_list when id o ≡ true → by_list when id (profile_of new.profiles profile.class profile.pattern) ≡ true
        made None none h = absurd (cc)
        made (Some q) at h = ap (by_list when id) (becomes.kept q at) ∙ h

        at_key : class ≡ profile.class → pattern ≡ profile.pattern → (p : Policy)
            → by_list when id (profile_of p.profiles class pattern) ≡ by_list when id
            (profile_of p.profiles profile.class profile.pattern)
        at_key one two p = ap (λ c. by_list when id (profile_of p.profiles c pattern)) one
            ∙ ap (λ n. by_list when id (profile_of p.profiles profile.class n)) two

        go : ((class ≡ profile.class) × (pattern ≡ profile.pattern))
            ⊎ IsOther class pattern profile.class profile.pattern → is_listed new class pattern id when ≡ true
        go (inl same) = at_key same.0 same.1 new ∙ made (profile_of old.profiles profile.class profile.pattern) refl (sym (at_key same.0 same.1 old) ∙ was)
        go (inr other) = ap (by_list when id) (becomes.others class pattern other) ∙ was

  module _ (class : Class) (pattern id : List ℕ) (when : Option (List ℕ)) (level : Level)
      (permitted : IsPermitted class pattern id when (Some level) old new) where
    permitted_defined : (c : Class) (n : List ℕ) → is_defined old c n ≡ true → is_defined new c n ≡ true
    permitted_defined c n was = go (both_or_other (which_class c class) (which_name n pattern))
      where
        go : ((c ≡ class) × (n ≡ pattern)) ⊎ IsOther c n class pattern → is_defined new c n ≡ true
        go (inl same) = ap (λ d. is_some (profile_of new.profiles d n)) same.0
            ∙ ap (λ m. is_some (profile_of new.profiles class m)) same.1 ∙ ap is_some permitted.here
        go (inr other) = ap is_some (permitted.others c n other) ∙ was

    permitted_listed : (c : Class) (n other : List ℕ) (place : Option (List ℕ)) → is_listed old c n other place ≡ true → is_listed new c n other place ≡ true
    permitted_listed c n other place was = go (both_or_other (which_class c class) (which_name n pattern))
      where
        at_key : c ≡ class → n ≡ pattern → (p : Policy)
            → by_list place other (profile_of p.profiles c n) ≡ by_list place other
            (profile_of p.profiles class pattern)
        at_key one two p = ap (λ d. by_list place other (profile_of p.profiles d n)) one ∙ ap (λ m. by_list place other (profile_of p.profiles class m)) two

        entry : ((other ≡ id) × (place ≡ when)) ⊎ IsOther other place id when
            → list_any (is_for place other) permitted.profile.entries ≡ true
            → list_any (is_for place other) permitted.entries ≡ true
        entry (inl same) h = listed_level place other permitted.entries
            ∙ ap (λ i. is_some (entry_level permitted.entries place i)) same.0
            ∙ ap (λ w. is_some (entry_level permitted.entries w id)) same.1 ∙ ap is_some permitted.given
        entry (inr differ) h = listed_level place other permitted.entries
            ∙ ap is_some (permitted.listed other place differ)
            ∙ sym (listed_level place other permitted.profile.entries) ∙ h

        go : ((c ≡ class) × (n ≡ pattern)) ⊎ IsOther c n class pattern → is_listed new c n other place ≡ true
        go (inl same) =
            at_key same.0 same.1 new ∙ ap (by_list place other) permitted.here
            ∙ entry (both_or_other (which_name other id) (which_place place when))
            (sym (ap (by_list place other) permitted.there) ∙ sym (at_key same.0 same.1 old) ∙ was)
        go (inr differ) = ap (by_list place other) (permitted.others c n differ) ∙ was

  keeps_profiles : new ≡ record old { profiles = new.profiles }
      → ((class : Class) (pattern : List ℕ) → is_defined old class pattern ≡ true → is_defined new class pattern ≡ true)
      → ((class : Class) (pattern id : List ℕ) (when : Option (List ℕ)) → is_listed old class pattern id when ≡ true
      → is_listed new class pattern id when ≡ true) → KeepsAll old new
  keeps_profiles rest defined listed = record {
    users = λ id was. ap (λ (p : Policy). has_user p id) rest ∙ was;
    groups = λ name was. ap (λ (p : Policy). has_group p name) rest ∙ was;
    connects = λ user group was. ap (λ (p : Policy). is_connected p user group) rest ∙ was;
    profiles = defined;
    entries = listed;
  }

  taken_keeps : (row : Row) → HasTaken row old new → KeepsAll old new
  taken_keeps (rows.Class class on) h = record {
    users = λ id was. ap (λ (p : Policy). has_user p id) h.1 ∙ was;
    groups = λ name was. ap (λ (p : Policy). has_group p name) h.1 ∙ was;
    connects = λ user group was. ap (λ (p : Policy). is_connected p user group) h.1 ∙ was;
    profiles = λ c pattern was. ap (λ (p : Policy). is_defined p c pattern) h.1 ∙ was;
    entries = λ c pattern id when was. ap (λ (p : Policy). is_listed p c pattern id when) h.1 ∙ was;
  }
  taken_keeps (rows.Group name) h = record {
    users = λ id was. ap (λ (p : Policy). has_user p id) h.1 ∙ was;
    groups = λ other was. go other was (which_name other name);
    connects = λ user group was. ap (λ (p : Policy). is_connected p user group) h.1 ∙ was;
    profiles = λ c pattern was. ap (λ (p : Policy). is_defined p c pattern) h.1 ∙ was;
    entries = λ c pattern id when was. ap (λ (p : Policy). is_listed p c pattern id when) h.1 ∙ was;
  }
    where
      go : (other : List ℕ) → has_group old other ≡ true → (other ≡ name) ⊎ (other ≢ name) → has_group new other ≡ true
      go other was (inl same) = ap (has_group new) same ∙ h.0.here
      go other was (inr apart) = h.0.others other apart ∙ was
  taken_keeps (rows.User user) h = record {
    users = λ id was. go id was (which_name id user.id);
    groups = λ name was. ap (λ (p : Policy). has_group p name) h.1 ∙ was;
    connects = λ one group was. ap (λ (p : Policy). is_connected p one group) h.1 ∙ was;
    profiles = λ c pattern was. ap (λ (p : Policy). is_defined p c pattern) h.1 ∙ was;
    entries = λ c pattern id when was. ap (λ (p : Policy). is_listed p c pattern id when) h.1 ∙ was;
  }
    where
      go : (id : List ℕ) → has_user old id ≡ true → (id ≡ user.id) ⊎ (id ≢ user.id) → has_user new id ≡ true
      go id was (inl same) = ap (has_user new) same ∙ ap is_some h.0.here
      go id was (inr apart) = ap is_some (h.0.others id apart) ∙ was
  taken_keeps (rows.Connect user group) h = record {
    users = λ id was. ap (λ (p : Policy). has_user p id) h.1 ∙ was;
    groups = λ name was. ap (λ (p : Policy). has_group p name) h.1 ∙ was;
    connects = λ one other was. go one other was (both_or_other (which_name one user) (which_name other group));
    profiles = λ c pattern was. ap (λ (p : Policy). is_defined p c pattern) h.1 ∙ was;
    entries = λ c pattern id when was. ap (λ (p : Policy). is_listed p c pattern id when) h.1 ∙ was;
  }
    where
      go : (one other : List ℕ) → is_connected old one other ≡ true → ((one ≡ user) × (other ≡ group))
          ⊎ IsOther one other user group → is_connected new one other ≡ true
      go one other was (inl same) = ap (λ u. is_connected new u other) same.0 ∙ ap (is_connected new user) same.1 ∙ h.0.here
      go one other was (inr apart) = h.0.others (one, other) (λ e. apart (ap (λ (c : List ℕ × List ℕ). c.0) e) (ap (λ (c : List ℕ × List ℕ). c.1) e)) ∙ was
  taken_keeps (rows.Console name auth mode) h = keeps_itself h
  taken_keeps (rows.Profile class pattern uacc owner warning) h =
      keeps_profiles h.1 (defined_still (record {
        class = class;
        pattern = pattern;
        owner = owner;
        uacc = uacc;
        warning = warning;
        entries = [];
      }) h.0) (listed_still (record { class = class; pattern = pattern; owner = owner; uacc = uacc; warning = warning; entries = [] }) h.0)
  taken_keeps (rows.Permit class pattern id level when) h =
      keeps_profiles h.1 (permitted_defined class pattern id when level h.0)
      (permitted_listed class pattern id when level h.0)

-- patterns stay patterns

all_replaced : {K : Type 0} (P : K → Type 0) (cmp : K → K → Ordering) (k : K) (xs : List K) → P k → AllByRecursion P xs
    → AllByRecursion P (replace_key cmp xs k)
all_replaced P cmp k [] here all = (here, tt)
all_replaced {K = K} P cmp k (x ∷ xs) here all = go (cmp k x) (all_replaced P cmp k xs here all.1)
  where
    go : (o : Ordering) → AllByRecursion P (replace_key cmp xs k) → AllByRecursion P (match_ordering o (k ∷ x ∷ xs) (k ∷ xs) (x ∷ replace_key cmp xs k))
    go Less later = (here, (all.0, all.1))
    go Equal later = (here, all.1)
    go Greater later = (all.0, later)

abbrev ArePatterns : Policy → Type 0
ArePatterns p = AllByRecursion HasPattern p.profiles

module _ (old new : Policy) (stored : ArePatterns old) where
  patterns_stay : (row : Row) → IsWritten row → after_row row old ≡ Ok new → ArePatterns new
  patterns_stay (rows.Class class on) written makes = row_so _ new ArePatterns stored makes
  patterns_stay (rows.Group name) written makes = subst ArePatterns (sym (rows_do (rows.Group name) old new stored written makes).1) stored
  patterns_stay (rows.User user) written makes = subst ArePatterns (sym (rows_do (rows.User user) old new stored written makes).1) stored
  patterns_stay (rows.Connect user group) written makes = subst ArePatterns (sym (rows_do (rows.Connect user group) old new stored written makes).1) stored
  patterns_stay (rows.Console name auth mode) written makes = row_so _ new ArePatterns stored makes
  patterns_stay (rows.Profile class pattern uacc owner warning) written makes =
      row_so _ new ArePatterns (all_replaced HasPattern profile_cmp _ old.profiles written stored) (needing_ok (has_user old owner) owner _ new makes)
  patterns_stay (rows.Permit class pattern id level when) written makes =
      row_so _ new ArePatterns (go (profile_of old.profiles class pattern) refl)
      (needing_ok (has_holder old id) id _ new
      (needing_ok (is_some (profile_of old.profiles class pattern)) pattern _ new makes))
    where
      go : (o : Option Profile) → profile_of old.profiles class pattern ≡ o → AllByRecursion HasPattern (listing (record {
        id = id;
        when = when;
        level = level;
      }) old.profiles o)
      go None at = stored
      go (Some q) at = all_replaced HasPattern profile_cmp _ old.profiles (all_found HasPattern (is_of class pattern) q old.profiles at stored) stored

-- all rows

keeps_on : (p q r : Policy) → KeepsAll p q → KeepsAll q r → KeepsAll p r
keeps_on p q r one other = record {
  users = λ id was. other.users id (one.users id was);
  groups = λ name was. other.groups name (one.groups name was);
  connects = λ user group was. other.connects user group (one.connects user group was);
  profiles = λ class pattern was. other.profiles class pattern (one.profiles class pattern was);
  entries = λ class pattern id when was. other.entries class pattern id when (one.entries class pattern id when was);
}

pub all_keep : (all : List Row) (old new : Policy) → ArePatterns old → AllByRecursion IsWritten all → AreTaken all old new → KeepsAll old new
all_keep [] old new stored written taken = keeps_itself old new taken
all_keep (row ∷ more) old new stored written (next, takes, later) =
    keeps_on old next new (taken_keeps old next row (rows_do row old next stored written.0 takes))
    (all_keep more next new (patterns_stay old next stored row written.0 takes) written.1 later)
