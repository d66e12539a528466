-- Rows at their places, taken one after another.
use Rattle.std.proofs.Common.{◌≡◌, ◌<◌, ◌+◌, ◌∙◌, ℕ, Bool, true, false, cond, List, [], ◌∷◌, ◌++◌, Option, Some, None, ap, ap₂, refl, sym, filter, map, take, get_or, length}
use Rattle.std.specs.Prelude.{if◌then◌else◌}
use Rattle.std.specs.BTreeMap.{BTreeMap, get, is_at}
use Rattle.std.specs.BTreeSet.{insert_key}
use Rattle.std.specs.Option.{option_or}
use Rattle.std.proofs.lemmas.List.{take_more}
use Rattle.opc_policy_members.specs.declared.row.Row.{Row}
use Rattle.opc_policy_members.specs.declared.row.Row.TheVariants as rows
use Rattle.opc_answers_diff.specs.declared.row_place.RowPlace.{RowPlace}
use Rattle.opc_answers_diff.specs.contracts.row_place.RowPlaceOrd.TheImpl.{ghosts}
use Rattle.opc_answers_diff.specs.declared.row_changes.RowChange.{RowChange}
use Rattle.opc_answers_diff.specs.RowChanges.{change_at, differs, place_of, places_with, row_at, row_change, row_changes, stands_at, with_classes}

places_steps : (one more : List Row) (places : List RowPlace) → places_with (one ++ more) places ≡ places_with more (places_with one places)
places_steps [] more places = refl
places_steps (row ∷ one) more places = places_steps one more (insert_key ghosts.cmp places (place_of row))

pub places_more : (all : List Row) (i : ℕ) (row : Row) (start places new : List RowPlace) → i < length all → row ≡ get_or all i row
    → places ≡ places_with (take i all) start → new ≡ insert_key ghosts.cmp places (place_of row) → new ≡ places_with (take (i + 1) all) start
places_more all i row start places new low is was next =
    next
    ∙ ap (λ x. insert_key ghosts.cmp x (place_of row)) was
    ∙ sym (ap (λ xs. places_with xs start) (take_more all i row low ∙ ap (λ x. take i all ++ x ∷ []) (sym is))
    ∙ places_steps (take i all) (row ∷ []) start)

-- ---- the row at a place

or_or : (a b c : Option Row) → option_or (option_or a b) c ≡ option_or a (option_or b c)
or_or None b c = refl
or_or (Some a) b c = refl

row_at_end : (rows : List Row) (row : Row) (q : RowPlace) (start : Option Row)
    → option_or (row_at (rows ++ row ∷ []) q) start
    ≡ (if stands_at q row then Some row else option_or (row_at rows q) start)
row_at_end [] row q start = go (stands_at q row)
  where
    go : (b : Bool) → option_or (if b then Some row else None) start ≡ (if b then Some row else start)
    go true = refl
    go false = refl
row_at_end (first ∷ rows) row q start =
    or_or (row_at (rows ++ row ∷ []) q) (if stands_at q first then Some first else None) start
    ∙ row_at_end rows row q (option_or (if stands_at q first then Some first else None) start)
    ∙ go (stands_at q row)
  where
    go : (b : Bool)
        → (if b then Some row else option_or (row_at rows q) (option_or (if stands_at q first then Some first else None) start))
        ≡ (if b then Some row else option_or (option_or (row_at rows q) (if stands_at q first then Some first else None)) start)
    go true = refl
    go false = sym (or_or (row_at rows q) (if stands_at q first then Some first else None) start)

pub row_put : (all : List Row) (i : ℕ) (row : Row) (q place : RowPlace) (start old new : RowPlace → Option Row) → i < length all
    → row ≡ get_or all i row → place ≡ place_of row → old q ≡ option_or (row_at (take i all) q) (start q)
    → new q ≡ cond (is_at (ghosts.cmp place) q) (Some row) (old q)
    → new q ≡ option_or (row_at (take (i + 1) all) q) (start q)
row_put all i row q place start old new low is at was next =
    next
    ∙ ap (λ x. cond (is_at (ghosts.cmp x) q) (Some row) (old q)) at
    ∙ ap (cond (stands_at q row) (Some row)) was
    ∙ sym (row_at_end (take i all) row q (start q))
    ∙ ap (λ xs. option_or (row_at xs q) (start q)) (sym (take_more all i row low ∙ ap (λ x. take i all ++ x ∷ []) (sym is)))

-- ---- what two maps have at the places of both

pub map_same : {A B : Type 0} (f g : A → B) (xs : List A) → ((x : A) → f x ≡ g x) → map f xs ≡ map g xs
map_same f g [] same = refl
map_same f g (x ∷ xs) same = ap₂ (λ y ys. y ∷ ys) (same x) (map_same f g xs same)

pub rows_so : (before after : List Row) (old new : BTreeMap RowPlace Row) (places : List RowPlace) (list : List RowChange)
    → ((q : RowPlace) → get ghosts.cmp old q ≡ row_at (with_classes before) q)
    → ((q : RowPlace) → get ghosts.cmp new q ≡ row_at (with_classes after) q)
    → places ≡ places_with (with_classes after) (places_with (with_classes before) [])
    → list ≡ filter differs (map (change_at old new) places) → list ≡ row_changes before after
rows_so before after old new places list was is at found =
    found
    ∙ ap (filter differs) (map_same (change_at old new) (row_change (with_classes before) (with_classes after)) places (λ q.
    ap₂ (λ (x y : Option Row). let change : RowChange = record { before = x; after = y } in change) (was q) (is q)))
    ∙ ap (λ l. filter differs (map (row_change (with_classes before) (with_classes after)) l)) at
