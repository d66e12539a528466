-- Connects by their users and groups, and entries by their places.
use Rattle.std.proofs.Common.{◌≡◌, ℕ, Bool, true, false, cond, ◌&&◌, List, [], ◌∷◌, Option, Some, None, Ordering, map, refl, sym, ap, ◌∙◌}
use Rattle.std.specs.Prelude.{filter_map, if◌then◌else◌}
use Rattle.std.specs.declared.cmp.Ordering.TheVariants.{Less, Equal, Greater}
use Rattle.std.specs.Cmp.Lexicographic.{slice_cmp}
use Rattle.std.specs.List.{cons_option, list_any}
use Rattle.std.specs.Option.{option_cmp, option_map, option_or}
use Rattle.std.specs.Ordering.{is_eq, nat_cmp, ordering_then}
use Rattle.std.specs.Str.{bytes_eq}
use Rattle.std.proofs.lemmas.List.Elements.{filter_agree}
use Rattle.std.proofs.lemmas.Map.Text.{is_eq-slice_cmp}
use Rattle.opc_names.specs.contracts.class.ClassOrd.TheImpl.{ghosts as classes}
use Rattle.opc_names.specs.declared.class.Class.{Class}
use Rattle.opc_names.specs.declared.level.Level.{Level}
use Rattle.opc_policy_members.specs.Members.{name_cmp}
use Rattle.opc_policy_members.specs.declared.row.Row.{Row}
use Rattle.opc_policy_members.specs.declared.row.Row.TheVariants as rows
use Rattle.opc_check_notes.specs.contracts.entries.EntryPlaceOrd.TheImpl.{ghosts}
use Rattle.opc_check_notes.specs.declared.connects.Side.{Side}
use Rattle.opc_check_notes.specs.declared.effect.Kept.{Kept}
use Rattle.opc_check_notes.specs.declared.effect.RowKey.TheVariants as key
use Rattle.opc_check_notes.specs.declared.entries.EntryPlace.{EntryPlace}
use Rattle.opc_check_notes.specs.declared.names.Given.TheVariants as given
use Rattle.opc_check_notes.specs.declared.numbered.NumberedRow.{NumberedRow}
use Rattle.opc_check_notes.specs.Connects.{HasPartners, connects, number_at, pair, pairs}
use Rattle.opc_check_notes.specs.Entries.{HasPlaced, all_placed, placed, placed_by, same_place}
use Rattle.opc_check_notes.specs.First.{first_of, paired}
use Rattle.opc_check_notes.specs.Levels.{kept_at}
use Rattle.opc_check_notes.specs.SortedPairs.{at_key}
use Rattle.opc_check_notes.specs.Named.{HasNames}
use Rattle.opc_check_notes.proofs.Keys.{of_class, of_option}

-- ---- partners

picked : {A B : Type 0} (f : A → Option (List ℕ × B)) (id : List ℕ) (xs : List A)
    → map (λ (p : List ℕ × B). p.1) (at_key name_cmp id (filter_map f xs)) ≡ filter_map (λ x. paired id (f x)) xs
picked f id [] = refl
picked {A} {B} f id (x ∷ xs) = go (f x) (picked f id xs)
  where
    rest : List (List ℕ × B)
    rest = at_key name_cmp id (filter_map f xs)

    one : (p : List ℕ × B) (b : Bool) → map (λ (q : List ℕ × B). q.1) rest ≡ filter_map (λ y. paired id (f y)) xs
        → map (λ (q : List ℕ × B). q.1) (cond b (p ∷ rest) rest)
        ≡ cons_option (if b then Some p.1 else None) (filter_map (λ y. paired id (f y)) xs)
    one p true more = ap (λ l. p.1 ∷ l) more
    one p false more = more

    go : (o : Option (List ℕ × B)) → map (λ (q : List ℕ × B). q.1) rest ≡ filter_map (λ y. paired id (f y)) xs
        → map (λ (q : List ℕ × B). q.1) (at_key name_cmp id (cons_option o (filter_map f xs)))
        ≡ cons_option (paired id o) (filter_map (λ y. paired id (f y)) xs)
    go None more = more
    go (Some p) more =
        ap (λ b. map (λ (q : List ℕ × B). q.1) (cond b (p ∷ rest) rest)) (is_eq-slice_cmp p.0 id) ∙ one p (bytes_eq p.0 id) more

pub has_partners : (list : List NumberedRow) (side : Side) (found kept : List (List ℕ × List ℕ)) → found ≡ pairs list side
    → ((id : List ℕ) → at_key name_cmp id kept ≡ at_key name_cmp id found) → HasPartners list side kept
has_partners list side found kept is same id =
    ap (map (λ (p : List ℕ × List ℕ). p.1)) (same id ∙ ap (at_key name_cmp id) is)
    ∙ picked (λ (at : NumberedRow). pair side at.row) id list

-- ---- numbers

number_here : (user group : List ℕ) (at : NumberedRow) → option_map (λ (k : Kept). k.number) (kept_at (key.Connect user group) at)
    ≡ (if connects user group at.row then Some at.number else None)
number_here user group at = of_row at.row at.number
  where
    go : (b : Bool) (number : ℕ) (k : Kept) → k.number ≡ number
        → option_map (λ (j : Kept). j.number) (if b then Some k else None) ≡ (if b then Some number else None)
    go true number k is = ap Some is
    go false number k is = refl

    of_row : (row : Row) (number : ℕ)
        → option_map (λ (k : Kept). k.number) (kept_at (key.Connect user group) (record { number = number; row = row }))
        ≡ (if connects user group row then Some number else None)
    of_row (rows.Class class active) number = refl
    of_row (rows.Group name) number = refl
    of_row (rows.User u) number = refl
    of_row (rows.Connect of_user to_group) number = go (bytes_eq of_user user && bytes_eq to_group group) number _ refl
    of_row (rows.Console name auth mode) number = refl
    of_row (rows.Profile class pattern uacc owner warning) number = refl
    of_row (rows.Permit class pattern id level when) number = refl

mapped_or : {A B : Type 0} (f : A → B) (a b : Option A) → option_map f (option_or a b) ≡ option_or (option_map f a) (option_map f b)
mapped_or f None b = refl
mapped_or f (Some a) b = refl

pub number_so : (list : List NumberedRow) (user group : List ℕ) → option_map (λ (k : Kept). k.number) (first_of (kept_at (key.Connect user group)) list)
    ≡ number_at list user group
number_so [] user group = refl
number_so (x ∷ xs) user group =
    mapped_or (λ (k : Kept). k.number) (kept_at (key.Connect user group) x) (first_of (kept_at (key.Connect user group)) xs)
    ∙ ap (λ o. option_or o (option_map (λ (k : Kept). k.number) (first_of (kept_at (key.Connect user group)) xs))) (number_here user group x)
    ∙ ap (option_or (if connects user group x.row then Some x.number else None)) (number_so xs user group)

-- ---- places

three : (a b c : Ordering) → is_eq (ordering_then a (ordering_then b c)) ≡ (is_eq a && (is_eq b && is_eq c))
three Less b c = refl
three Greater b c = refl
three Equal Less c = refl
three Equal Greater c = refl
three Equal Equal c = refl

and_so : {a b c d : Bool} → a ≡ b → c ≡ d → (a && c) ≡ (b && d)
and_so {a} {b} {c} {d} one other = ap (λ x. x && c) one ∙ ap (λ x. b && x) other

places_so : (a b : EntryPlace) → is_eq (ghosts.cmp a b) ≡ same_place a b
places_so a b =
    three (classes.cmp a.class b.class) (slice_cmp nat_cmp a.pattern b.pattern) (option_cmp (slice_cmp nat_cmp) a.when b.when)
    ∙ and_so (of_class a.class b.class) (and_so (is_eq-slice_cmp a.pattern b.pattern) (of_option a.when b.when))

pub has_placed : (list : List NumberedRow) (found kept : List (EntryPlace × List ℕ)) → found ≡ all_placed list
    → ((place : EntryPlace) → at_key ghosts.cmp place kept ≡ at_key ghosts.cmp place found) → HasPlaced list kept
has_placed list found kept is same place =
    ap (map (λ (p : EntryPlace × List ℕ). p.1)) (same place ∙ ap (at_key ghosts.cmp place) is
    ∙ filter_agree _ _ (λ (p : EntryPlace × List ℕ). places_so p.0 place) (all_placed list))

one_placed : (list : List NumberedRow) (members : List (List ℕ)) → HasNames list given.ConnectedGroup members → (row : Row)
    → placed_by members row ≡ placed list row
one_placed list members has (rows.Permit class pattern id level when) =
    ap (λ b. if b then Some (record { class = class; pattern = pattern; when = when }, id) else None) (has id)
one_placed list members has (rows.Class class active) = refl
one_placed list members has (rows.Group name) = refl
one_placed list members has (rows.User user) = refl
one_placed list members has (rows.Connect user group) = refl
one_placed list members has (rows.Console name auth mode) = refl
one_placed list members has (rows.Profile class pattern uacc owner warning) = refl

pub placed_so : (list : List NumberedRow) (members : List (List ℕ)) → HasNames list given.ConnectedGroup members → (sub : List NumberedRow)
    → filter_map (λ (at : NumberedRow). placed_by members at.row) sub ≡ filter_map (λ (at : NumberedRow). placed list at.row) sub
placed_so list members has [] = refl
placed_so list members has (x ∷ xs) =
    ap (λ o. cons_option o (filter_map (λ (at : NumberedRow). placed_by members at.row) xs)) (one_placed list members has x.row)
    ∙ ap (cons_option (placed list x.row)) (placed_so list members has xs)

pub placed_as : (members : List (List ℕ)) (row : Row) (class : Class) (pattern id : List ℕ) (level : Level) (when : Option (List ℕ))
    (result : Option (EntryPlace × List ℕ)) → row ≡ rows.Permit class pattern id level when
    → result ≡ (if list_any (λ (n : List ℕ). bytes_eq n id) members
    then Some (record { class = class; pattern = pattern; when = when }, id) else None)
    → result ≡ placed_by members row
placed_as members row class pattern id level when result is next = next ∙ sym (ap (placed_by members) is)
