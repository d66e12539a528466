-- The rows in effect, from the last row to the first.
use Rattle.std.proofs.Common.{
  ◌≡◌,
  ◌<◌,
  ◌≤◌,
  ◌+◌,
  ◌-◌,
  ℕ,
  Bool,
  true,
  false,
  ◌||◌,
  List,
  [],
  ◌∷◌,
  ◌++◌,
  Option,
  Some,
  None,
  is_some,
  drop,
  get_or,
  length,
  reverse,
  refl,
  sym,
  subst,
  ap,
  ◌∙◌,
  arith,
}
use Rattle.std.specs.Prelude.{if◌then◌else◌}
use Rattle.std.specs.List.{AllByRecursion, list_any}
use Rattle.std.specs.Option.{option_and_then, option_or}
use Rattle.std.proofs.lemmas.List.{drop_more, reverse-append}
use Rattle.opc_policy_members.specs.declared.row.Row.{Row}
use Rattle.opc_check_notes.specs.declared.effect.RowKey.{RowKey}
use Rattle.opc_check_notes.specs.declared.numbered.NumberedRow.{NumberedRow}
use Rattle.opc_names.specs.declared.level.Level.{Level}
use Rattle.opc_check_notes.specs.First.{first_of}
use Rattle.opc_check_notes.specs.Levels.{entry_level, kept_at, level_at, level_in, kept as kept_of}
use Rattle.opc_check_notes.specs.declared.effect.Kept.{Kept}
use Rattle.opc_check_notes.proofs.Keys.{key_same}
use Rattle.opc_check_notes.specs.Effect.{AreInOrder, in_effect, is_replaced, key_of, same_key}

one_back : (rows : List Row) (at : ℕ) (d : Row) → 0 < at → at ≤ length rows → drop (at - 1) rows ≡ get_or rows (at - 1) d ∷ drop at rows
one_back rows at d some within =
    let e : at - 1 + 1 ≡ at = omega (arith, some) in
    drop_more rows (at - 1) d (omega (arith, some, within)) ∙ ap (λ n. get_or rows (at - 1) d ∷ drop n rows) e

pub seen_step : (rows : List Row) (at : ℕ) (d : Row) (q : RowKey) → 0 < at → at ≤ length rows
    → list_any (λ (row : Row). same_key (key_of row) q) (drop (at - 1) rows)
    ≡ (same_key (key_of (get_or rows (at - 1) d)) q || list_any (λ (row : Row). same_key (key_of row) q) (drop at rows))
seen_step rows at d q some within = ap (list_any (λ (row : Row). same_key (key_of row) q)) (one_back rows at d some within)

pub seen_more : (rows : List Row) (at : ℕ) (row : Row) (q : RowKey) (old new : Bool) → 0 < at → at ≤ length rows
    → row ≡ get_or rows (at - 1) row → old ≡ list_any (λ (other : Row). same_key (key_of other) q) (drop at rows)
    → new ≡ (same_key (key_of row) q || old) → new ≡ list_any (λ (other : Row). same_key (key_of other) q) (drop (at - 1) rows)
seen_more rows at row q old new some within is was next =
    next ∙ ap (λ b. same_key (key_of row) q || b) was
    ∙ ap (λ (r : Row). same_key (key_of r) q || list_any (λ (other : Row). same_key (key_of other) q) (drop at rows)) is
    ∙ sym (seen_step rows at row q some within)

kept : (b : Bool) (old new : List NumberedRow) (x : NumberedRow) → new ≡ (if b then old else (old ++ x ∷ []))
    → reverse new ≡ (if b then reverse old else (x ∷ reverse old))
kept true old new x is = ap reverse is
kept false old new x is = ap reverse is ∙ reverse-append old (x ∷ [])

pub list_step : (rows : List Row) (at : ℕ) (row d : Row) (old new : List NumberedRow) (b : Bool) → 0 < at → at ≤ length rows
    → row ≡ get_or rows (at - 1) d → b ≡ is_replaced row (drop at rows) → reverse old ≡ in_effect (at + 1) (drop at rows)
    → new ≡ (if b then old else (old ++ record { number = at; row = row } ∷ []))
    → reverse new ≡ in_effect (at - 1 + 1) (drop (at - 1) rows)
list_step rows at row d old new b some within is seen was next =
    let e : at - 1 + 1 ≡ at = omega (arith, some) in
    kept b old new (record { number = at; row = row }) next
    ∙ ap (λ l. if b then l else (record { number = at; row = row } ∷ l)) was
    ∙ ap (λ c. if c then in_effect (at + 1) (drop at rows) else (record { number = at; row = row } ∷ in_effect (at + 1) (drop at rows))) seen
    ∙ sym (ap (λ n. in_effect n (drop (at - 1) rows)) e
    ∙ ap (in_effect at) (one_back rows at d some within ∙ ap (λ r. r ∷ drop at rows) (sym is)))

abbrev grown : Bool → NumberedRow → List NumberedRow → List NumberedRow
grown b x list = if b then list else (x ∷ list)

pub rows_step : (old new : List NumberedRow) (x : NumberedRow) (b : Bool) (q : RowKey) (had has : Option Kept)
    → new ≡ (if b then old else (old ++ x ∷ [])) → had ≡ first_of (kept_at q) (reverse old)
    → has ≡ (if b then had else (if same_key (key_of x.row) q then Some (kept_of x) else had)) → has ≡ first_of (kept_at q) (reverse new)
rows_step old new x b q had has is was next =
    next ∙ ap (λ o. if b then o else (if same_key (key_of x.row) q then Some (kept_of x) else o)) was
    ∙ go b (same_key (key_of x.row) q) refl ∙ sym (ap (first_of (kept_at q)) (kept b old new x is))
  where
    go : (c s : Bool) → same_key (key_of x.row) q ≡ s
        → (if c then first_of (kept_at q) (reverse old) else (if s then Some (kept_of x) else first_of (kept_at q) (reverse old)))
        ≡ first_of (kept_at q) (grown c x (reverse old))
    go true s same = refl
    go false true same = sym (ap (λ t. option_or (if t then Some (kept_of x) else None) (first_of (kept_at q) (reverse old))) same)
    go false false same = sym (ap (λ t. option_or (if t then Some (kept_of x) else None) (first_of (kept_at q) (reverse old))) same)

abbrev level_if : Bool → Option Level → Option Level
level_if b None = None
level_if b (Some level) = if b then Some level else None

level_in_so : (q : RowKey) (row : Row) (level : Option Level) → level_in q row level ≡ level_if (same_key (key_of row) q) level
level_in_so q row None = refl
level_in_so q row (Some level) = refl

if_true : (level : Option Level) → level_if true level ≡ level
if_true None = refl
if_true (Some level) = refl

if_false : (level : Option Level) → level_if false level ≡ None
if_false None = refl
if_false (Some level) = refl

or_nothing : (o : Option Level) → option_or o None ≡ o
or_nothing None = refl
or_nothing (Some level) = refl

none_of : (o : Option Kept) → is_some o ≡ false → o ≡ None
none_of None h = refl
none_of (Some k) h = absurd (cc)

abbrev its_level : Option Kept → Option Level
its_level o = option_and_then (λ (k : Kept). k.level) o

pub level_step : (old new : List NumberedRow) (x : NumberedRow) (q : RowKey) (had : RowKey → Option Kept) (has : Option Kept)
    → new ≡ (if is_some (had (key_of x.row)) then old else (old ++ x ∷ [])) → its_level (had q) ≡ level_at (reverse old) q
    → has ≡ (if is_some (had (key_of x.row)) then had q else (if same_key (key_of x.row) q then Some (kept_of x) else had q))
    → its_level has ≡ level_at (reverse new) q
level_step old new x q had has is was next =
    ap its_level next ∙ go (is_some (had (key_of x.row))) (same_key (key_of x.row) q) refl refl
    ∙ sym (ap (λ l. level_at l q) (kept (is_some (had (key_of x.row))) old new x is))
  where
    one : (s : Bool) → same_key (key_of x.row) q ≡ s → level_at (x ∷ reverse old) q ≡ option_or (its_level (had q)) (level_if s (entry_level x.row))
    one s same =
        ap (λ o. option_or o (level_in q x.row (entry_level x.row))) (sym was)
        ∙ ap (option_or (its_level (had q))) (level_in_so q x.row (entry_level x.row) ∙ ap (λ t. level_if t (entry_level x.row)) same)

    go : (c s : Bool) → is_some (had (key_of x.row)) ≡ c → same_key (key_of x.row) q ≡ s
        → its_level (if c then had q else (if s then Some (kept_of x) else had q)) ≡ level_at (grown c x (reverse old)) q
    go true s seen same = was
    go false true seen same =
        let new_key : had q ≡ None = sym (ap had (key_same (key_of x.row) q same)) ∙ none_of (had (key_of x.row)) seen in
        sym (one true same ∙ ap (λ o. option_or (its_level o) (level_if true (entry_level x.row))) new_key ∙ if_true (entry_level x.row))
    go false false seen same =
        sym (one false same ∙ ap (option_or (its_level (had q))) (if_false (entry_level x.row)) ∙ or_nothing (its_level (had q)))

-- ---- the numbers rise

abbrev AreFrom : ℕ → List NumberedRow → Type 0
AreFrom n list = AllByRecursion (λ (at : NumberedRow). n ≤ at.number) list

later_still : (n m : ℕ) (list : List NumberedRow) → n ≤ m → AreFrom m list → AreFrom n list
later_still n m [] low all = tt
later_still n m (x ∷ xs) low all = (omega (arith, low, all.0), later_still n m xs low all.1)

after_one : (n : ℕ) (list : List NumberedRow) → AreFrom (n + 1) list → AllByRecursion (λ (at : NumberedRow). n < at.number) list
after_one n [] all = tt
after_one n (x ∷ xs) all = (omega (arith, all.0), after_one n xs all.1)

from_number : (n : ℕ) (rows : List Row) → AreFrom n (in_effect n rows)
from_number n [] = tt
from_number n (row ∷ more) =
    go (is_replaced row more) (later_still n (n + 1) (in_effect (n + 1) more) (omega arith) (from_number (n + 1) more))
  where
    go : (b : Bool) → AreFrom n (in_effect (n + 1) more)
        → AreFrom n (if b then in_effect (n + 1) more else (record { number = n; row = row } ∷ in_effect (n + 1) more))
    go true from = from
    go false from = (omega arith, from)

in_order : (n : ℕ) (rows : List Row) → AreInOrder (in_effect n rows)
in_order n [] = tt
in_order n (row ∷ more) = go (is_replaced row more) (in_order (n + 1) more)
  where
    go : (b : Bool) → AreInOrder (in_effect (n + 1) more)
        → AreInOrder (if b then in_effect (n + 1) more else (record { number = n; row = row } ∷ in_effect (n + 1) more))
    go true order = order
    go false order = (after_one n (in_effect (n + 1) more) (from_number (n + 1) more), order)

pub effect_in_order : (list : List NumberedRow) (rows : List Row) → list ≡ in_effect 1 rows → AreInOrder list
effect_in_order list rows is = subst AreInOrder (sym is) (in_order 1 rows)
