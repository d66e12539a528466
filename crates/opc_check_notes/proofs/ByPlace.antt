-- The groups that have an entry at a place give what is found first by all groups of a user.
use Rattle.std.proofs.Common.{
  ◌≡◌,
  ℕ,
  Bool,
  true,
  false,
  cond,
  ◌&&◌,
  ◌||◌,
  ◌⊎◌,
  inl,
  inr,
  List,
  [],
  ◌∷◌,
  Option,
  Some,
  None,
  filter,
  get_or,
  is_some,
  map,
  refl,
  sym,
  ap,
  ◌∙◌,
}
use Rattle.std.specs.Prelude.{filter_map, if◌then◌else◌}
use Rattle.std.specs.List.{AllByRecursion, cons_option, list_any}
use Rattle.std.specs.Option.{option_and_then, option_eq, option_map, option_or}
use Rattle.std.specs.Str.{bytes_eq}
use Rattle.std.proofs.lemmas.List.Elements.{recursion_from_All}
use Rattle.std.proofs.lemmas.List.Folds.{list_any_at}
use Rattle.std.proofs.lemmas.Slice.Eq.{bytes_eq-Decides}
use Rattle.opc_names.specs.Authority.{same_class}
use Rattle.opc_names.specs.declared.class.Class.{Class}
use Rattle.opc_names.specs.declared.level.Level.{Level}
use Rattle.opc_policy_members.specs.declared.row.Row.{Row}
use Rattle.opc_policy_members.specs.declared.row.Row.TheVariants as rows
use Rattle.opc_check_notes.specs.declared.connects.Side.TheVariants as side
use Rattle.opc_check_notes.specs.declared.effect.RowKey.TheVariants as key
use Rattle.opc_check_notes.specs.declared.entries.EntryPlace.{EntryPlace}
use Rattle.opc_check_notes.specs.declared.names.Given.TheVariants as given
use Rattle.opc_check_notes.specs.declared.numbered.NumberedRow.{NumberedRow}
use Rattle.opc_check_notes.specs.Connects.{pair, partners}
use Rattle.opc_check_notes.specs.Effect.{AreInOrder}
use Rattle.opc_check_notes.specs.Entries.{groups_at, placed, same_place}
use Rattle.opc_check_notes.specs.First.{first_of, paired}
use Rattle.opc_check_notes.specs.Levels.{entry_level, level_at, level_in}
use Rattle.opc_check_notes.specs.Named.{is_name, is_named, named}
use Rattle.opc_check_notes.specs.declared.groups.Ranked.{Ranked}
use Rattle.opc_check_notes.specs.declared.note.Finding.{Finding}
use Rattle.opc_check_notes.specs.Notes.{above, group_above}
use Rattle.opc_check_notes.specs.Ranked.{first_ranked, place_of}
use Rattle.opc_check_notes.proofs.Earliest.{at_connect, bytes_same, none_some, rank, ranked_first, within}

-- ---- a group whose entry has a level is among those at the place

left_of : (a b : Bool) → (a && b) ≡ true → a ≡ true
left_of true b h = refl
left_of false b h = absurd (cc)

right_of : (a b : Bool) → (a && b) ≡ true → b ≡ true
right_of true b h = h
right_of false b h = absurd (cc)

both_of : (a b : Bool) → a ≡ true → b ≡ true → (a && b) ≡ true
both_of a b one two = ap (λ x. x && b) one ∙ two

either_some : (a b : Option Level) → is_some (option_or a b) ≡ true → (is_some a ≡ true) ⊎ (is_some b ≡ true)
either_some None b h = inr h
either_some (Some x) b h = inl refl

abbrev at_place : EntryPlace → List (EntryPlace × List ℕ) → List (List ℕ)
at_place place found = map (λ (p : EntryPlace × List ℕ). p.1) (filter (λ (p : EntryPlace × List ℕ). same_place p.0 place) found)

abbrev has_group : List ℕ → List (List ℕ) → Bool
has_group group ids = list_any (λ (e : List ℕ). bytes_eq e group) ids

still_there : (place : EntryPlace) (group : List ℕ) (o : Option (EntryPlace × List ℕ)) (found : List (EntryPlace × List ℕ))
    → has_group group (at_place place found) ≡ true → has_group group (at_place place (cons_option o found)) ≡ true
still_there place group None found h = h
still_there place group (Some p) found h = go (same_place p.0 place)
  where
    or_true : (b : Bool) → (b || has_group group (at_place place found)) ≡ true
    or_true true = refl
    or_true false = h

    go : (b : Bool) → has_group group (map (λ (q : EntryPlace × List ℕ). q.1) (cond b (p ∷ filter (λ (q : EntryPlace × List ℕ). same_place q.0 place) found)
        (filter (λ (q : EntryPlace × List ℕ). same_place q.0 place) found))) ≡ true
    go true = or_true (bytes_eq p.1 group)
    go false = h

now_there : (place : EntryPlace) (group : List ℕ) (p : EntryPlace × List ℕ) (found : List (EntryPlace × List ℕ)) → same_place p.0 place ≡ true
    → bytes_eq p.1 group ≡ true → has_group group (at_place place (p ∷ found)) ≡ true
now_there place group p found same is =
    ap (λ b. has_group group (map (λ (q : EntryPlace × List ℕ). q.1) (cond b (p ∷ filter (λ (q : EntryPlace × List ℕ). same_place q.0 place) found)
    (filter (λ (q : EntryPlace × List ℕ). same_place q.0 place) found)))) same
    ∙ ap (λ b. b || has_group group (at_place place found)) is

module _ (list : List NumberedRow) (group : List ℕ) (member : is_named list given.ConnectedGroup group ≡ true)
    (class : Class) (pattern : List ℕ) (when : Option (List ℕ)) where
  abbrev here : EntryPlace
  here = record { class = class; pattern = pattern; when = when }

  some_if : (b : Bool) (level : Level) → is_some (if b then Some level else None) ≡ true → b ≡ true
  some_if true level h = refl
  some_if false level h = absurd (cc)

  this_row : (row : Row) (found : List (EntryPlace × List ℕ))
      → is_some (level_in (key.Permit group class pattern when) row (entry_level row)) ≡ true
      → has_group group (at_place here (cons_option (placed list row) found)) ≡ true
  this_row (rows.Permit c p i l w) found h =
      let same = some_if (same_class c class && (bytes_eq p pattern && (bytes_eq i group && option_eq bytes_eq w when))) l h in
      let in_class = left_of (same_class c class) (bytes_eq p pattern && (bytes_eq i group && option_eq bytes_eq w when)) same in
      let rest = right_of (same_class c class) (bytes_eq p pattern && (bytes_eq i group && option_eq bytes_eq w when)) same in
      let in_pattern = left_of (bytes_eq p pattern) (bytes_eq i group && option_eq bytes_eq w when) rest in
      let id_when = right_of (bytes_eq p pattern) (bytes_eq i group && option_eq bytes_eq w when) rest in
      let of_group = left_of (bytes_eq i group) (option_eq bytes_eq w when) id_when in
      let at_when = right_of (bytes_eq i group) (option_eq bytes_eq w when) id_when in
      let named_so : is_named list given.ConnectedGroup i ≡ true = ap (is_named list given.ConnectedGroup) (bytes_same i group of_group) ∙ member in
      ap (λ b. has_group group (at_place here (cons_option (if b then Some (record { class = c; pattern = p; when = w }, i) else None) found))) named_so
      ∙ now_there here group (record { class = c; pattern = p; when = w }, i) found
      (both_of (same_class c class) (bytes_eq p pattern && option_eq bytes_eq w when) in_class
      (both_of (bytes_eq p pattern) (option_eq bytes_eq w when) in_pattern at_when)) of_group
  this_row (rows.Class c active) found h = absurd (cc)
  this_row (rows.Group name) found h = absurd (cc)
  this_row (rows.User u) found h = absurd (cc)
  this_row (rows.Connect u g) found h = absurd (cc)
  this_row (rows.Console name auth mode) found h = absurd (cc)
  this_row (rows.Profile c p uacc owner warning) found h = absurd (cc)

  has_level : (xs : List NumberedRow) → is_some (level_at xs (key.Permit group class pattern when)) ≡ true
      → has_group group (at_place here (filter_map (λ (at : NumberedRow). placed list at.row) xs)) ≡ true
  has_level [] h = absurd (cc)
  has_level (x ∷ xs) h =
      go (has_level xs) (either_some (level_at xs (key.Permit group class pattern when))
      (level_in (key.Permit group class pattern when) x.row (entry_level x.row)) h)
    where
      go : (is_some (level_at xs (key.Permit group class pattern when)) ≡ true
          → has_group group (at_place here (filter_map (λ (at : NumberedRow). placed list at.row) xs)) ≡ true)
          → (is_some (level_at xs (key.Permit group class pattern when)) ≡ true)
          ⊎ (is_some (level_in (key.Permit group class pattern when) x.row (entry_level x.row)) ≡ true)
          → has_group group (at_place here (cons_option (placed list x.row) (filter_map (λ (at : NumberedRow). placed list at.row) xs))) ≡ true
      go more (inl before) = still_there here group (placed list x.row) _ (more before)
      go more (inr now) = this_row x.row _ now

  not_there : (level : Level) (user : List ℕ) → has_group group (groups_at list here) ≡ false
      → above pattern user level group (level_at list (key.Permit group class pattern when)) ≡ None
  not_there level user none = go (level_at list (key.Permit group class pattern when)) refl
    where
      go : (o : Option Level) → level_at list (key.Permit group class pattern when) ≡ o → above pattern user level group o ≡ None
      go None is = refl
      go (Some higher) is =
          let there : has_group group (groups_at list here) ≡ true = has_level list (ap is_some is) in absurd (cc)

-- ---- so what they give is the first of all groups of the user

abbrev Suffices : (List ℕ → Option Finding) → List ℕ → List (List ℕ) → NumberedRow → Type 0
Suffices f user groups at = (g : List ℕ) → paired user (pair side.User at.row) ≡ Some g → has_group g groups ≡ false → f g ≡ None

mapped_or : {A B : Type 0} (f : A → B) (a b : Option A) → option_map f (option_or a b) ≡ option_or (option_map f a) (option_map f b)
mapped_or f None b = refl
mapped_or f (Some a) b = refl

abbrev its_finding : Option Ranked → Option Finding
its_finding r = option_map (λ (x : Ranked). x.finding) r

at_partner : (f : List ℕ → Option Finding) (groups : List (List ℕ)) (n : ℕ) (o : Option (List ℕ))
    → ((g : List ℕ) → o ≡ Some g → has_group g groups ≡ false → f g ≡ None) → its_finding (within f groups n o) ≡ option_and_then f o
at_partner f groups n None suffices = refl
at_partner f groups n (Some g) suffices = go (has_group g groups) refl
  where
    unranked : (o : Option Finding) → its_finding (rank n o) ≡ o
    unranked None = refl
    unranked (Some x) = refl

    go : (b : Bool) → has_group g groups ≡ b → its_finding (if b then rank n (f g) else None) ≡ f g
    go true is = unranked (f g)
    go false is = sym (suffices g refl is)

of_partners : (f : List ℕ → Option Finding) (user : List ℕ) (groups : List (List ℕ)) (xs : List NumberedRow)
    → AllByRecursion (Suffices f user groups) xs
    → its_finding (first_of (at_connect f user groups) xs) ≡ first_of f (partners xs side.User user)
of_partners f user groups [] all = refl
of_partners f user groups (x ∷ xs) all =
    mapped_or (λ (r : Ranked). r.finding) (at_connect f user groups x) (first_of (at_connect f user groups) xs)
    ∙ ap (λ o. option_or o (its_finding (first_of (at_connect f user groups) xs)))
    (at_partner f groups x.number (paired user (pair side.User x.row)) all.0)
    ∙ ap (option_or (option_and_then f (paired user (pair side.User x.row)))) (of_partners f user groups xs all.1)
    ∙ go (paired user (pair side.User x.row))
  where
    go : (o : Option (List ℕ)) → option_or (option_and_then f o) (first_of f (partners xs side.User user))
        ≡ first_of f (cons_option o (partners xs side.User user))
    go None = refl
    go (Some g) = refl

member_there : (row : Row) (user g : List ℕ) → paired user (pair side.User row) ≡ Some g → is_name (named given.ConnectedGroup row) g ≡ true
member_there (rows.Connect u h) user g is = go (bytes_eq u user) is
  where
    same : (a b : List ℕ) → ◌≡◌ {A = Option (List ℕ)} (Some a) (Some b) → bytes_eq a b ≡ true
    same a b e = (bytes_eq-Decides a b).1 (cc)

    go : (b : Bool) → (if b then Some h else None) ≡ Some g → bytes_eq h g ≡ true
    go true e = same h g e
    go false e = absurd (none_some g e)
member_there (rows.Class class active) user g is = absurd (none_some g is)
member_there (rows.Group name) user g is = absurd (none_some g is)
member_there (rows.User u) user g is = absurd (none_some g is)
member_there (rows.Console name auth mode) user g is = absurd (none_some g is)
member_there (rows.Profile class pattern uacc owner warning) user g is = absurd (none_some g is)
member_there (rows.Permit class pattern id level when) user g is = absurd (none_some g is)

all_suffice : (list : List NumberedRow) (row : Row) (user : List ℕ) (place : EntryPlace) → place_of row ≡ Some place
    → AllByRecursion (Suffices (group_above list row) user (groups_at list place)) list
all_suffice list row user place is =
    recursion_from_All (Suffices (group_above list row) user (groups_at list place)) list
    (λ k d low g partner none. go row place is g
    (list_any_at (λ (at : NumberedRow). is_name (named given.ConnectedGroup at.row) g) list k d low
    (member_there (get_or list k d).row user g partner)) none)
  where
    same_places : (a b : EntryPlace) → ◌≡◌ {A = Option EntryPlace} (Some a) (Some b) → a ≡ b
    same_places a b e = cc

    no_place : (p : EntryPlace) → ◌≡◌ {A = Option EntryPlace} None (Some p) → ⊥
    no_place p e = cc

    go : (r : Row) (p : EntryPlace) → place_of r ≡ Some p → (g : List ℕ) → is_named list given.ConnectedGroup g ≡ true
        → has_group g (groups_at list p) ≡ false → group_above list r g ≡ None
    go (rows.Permit class pattern id level when) p e g member none =
        not_there list g member class pattern when level id
        (ap (λ (q : EntryPlace). has_group g (groups_at list q)) (same_places (record { class = class; pattern = pattern; when = when }) p e) ∙ none)
    go (rows.Class class active) p e g member none = absurd (no_place p e)
    go (rows.Group name) p e g member none = absurd (no_place p e)
    go (rows.User u) p e g member none = absurd (no_place p e)
    go (rows.Connect u h) p e g member none = absurd (no_place p e)
    go (rows.Console name auth mode) p e g member none = absurd (no_place p e)
    go (rows.Profile class pattern uacc owner warning) p e g member none = absurd (no_place p e)

pub first_by_place : (list : List NumberedRow) (row : Row) (user : List ℕ) (place : EntryPlace) → AreInOrder list → place_of row ≡ Some place
    → its_finding (first_ranked list row user (groups_at list place)) ≡ first_of (group_above list row) (partners list side.User user)
first_by_place list row user place order is =
    ap its_finding (ranked_first list row user order (groups_at list place))
    ∙ of_partners (group_above list row) user (groups_at list place) list (all_suffice list row user place is)
