-- What the query on the account reads: a page past a number.
use Rattle.std.proofs.Common.{
  ◌≡◌,
  ℕ,
  ℤ,
  zero,
  suc,
  ◌+◌,
  ◌-◌,
  ◌<◌,
  ◌≤◌,
  pos,
  min,
  length,
  List,
  [],
  ◌∷◌,
  map,
  filter,
  drop,
  take,
  codes,
  Bool,
  true,
  false,
  nat_lt,
  nat_le,
  refl,
  sym,
  ap,
  subst,
  ◌∙◌,
  arith,
}
use Rattle.std.specs.List.{enumerate_from}
use Rattle.std.proofs.lemmas.List.{drop-map, take-map}
use Rattle.std.proofs.lemmas.Bool.Decides.{nat_tests}
use Rattle.sqlite.specs.Order.{Row}
use Rattle.sqlite.specs.declared.types.Value.TheVariants.{Int}
use Rattle.sqlite.specs.Term.{col, op2}
use Rattle.sqlite.specs.Listing.{understood}
use Rattle.sqlite.specs.State.{State as SqlState, Shown}
use Rattle.sqlite_sql.specs.declared.ops.BinaryOp.TheVariants.{Compare}
use Rattle.sqlite_sql.specs.declared.ops.CompareOp.TheVariants.{Gt}
use Rattle.sqlite_value.specs.declared.keys.Collation.TheVariants.{Binary}
use Rattle.sqlite_tied.specs.Compute.{everything}
use Rattle.opc_store_sql.proofs.Asked.{Asked, IsPaged, by_columns, columns, numbers_listed, pages}
use Rattle.opc_store_sql.proofs.Numbered.{number_cmp}
use Rattle.opc_store_sql.proofs.Places.{placed, place_cmp, placed_row, placed_rows, placed_rises, placed_after}
use Rattle.opc_store_sql.proofs.Values.{number_past, and_true}
use Rattle.opc_state.specs.declared.account.AccountRow.{AccountRow}
use Rattle.opc_state.specs.Loads.{asked_for, numbered}
use Rattle.opc_state.specs.State.{State}
use Rattle.opc_store_schema.specs.Placed.{account_at}
use Rattle.opc_store_schema.specs.Tables.{the_schema}
use Rattle.opc_store_schema.specs.Represented.{Represents, account_values}
use Rattle.opc_store_history.specs.Loads.{account_page, numbered_shown}

-- past the first parameter; as many as the second
abbrev pub account : Asked
account = record {
  schema = the_schema;
  text = codes "SELECT number, moment, console, usr, code, rule FROM account WHERE number > ?1 ORDER BY number LIMIT ?2";
  tree = account_at.tree;
  tests = op2 (Compare Gt Binary) (col 1 0) (col 0 0) ∷ [];
  project = col 1 0 ∷ columns 2 5;
  order = by_columns 0 1;
}

pub account_asked : IsPaged account (col 0 1)
unfolding understood everything
account_asked = record { selects = refl; unlisted = refl; plain = (refl, refl); shows = λ schema base. refl }

abbrev page_params : ℕ → ℕ → Row
page_params last count = Int (pos last) ∷ Int (pos count) ∷ []

past_end : {X : Type 0} (n : ℕ) (xs : List X) → length xs ≤ n → (let none : List X = [] in drop n xs ≡ none)
past_end zero [] h = refl
past_end zero (x ∷ xs) h = absurd (omega arith)
past_end (suc n) [] h = refl
past_end (suc n) (x ∷ xs) h = past_end n xs (omega arith)

-- no row is at a number that no table can hold
pub within_table : {X : Type 0} (a top : ℕ) (xs : List X) → length xs ≤ top → drop (min a top) xs ≡ drop a xs
within_table {X} a top xs short = go (nat_le a top) refl
  where
    go : (b : Bool) → nat_le a top ≡ b → drop (min a top) xs ≡ drop a xs
    go true e =
        let low : a ≤ top = grind (arith, nat_tests, e) in
        let same : min a top ≡ a = omega arith in
        ap (λ (n : ℕ). drop n xs) same
    go false e =
        let high : top < a = grind (arith, nat_tests, e) in
        let same : min a top ≡ top = omega arith in
        ap (λ (n : ℕ). drop n xs) same ∙ (past_end top xs short ∙ sym (past_end a xs (omega arith)))

pub account_params : (old new : SqlState) (given : ℤ) (last count : ℕ) (rows : List Row) → given ≡ pos last
    → Shown account.text (Int given ∷ Int (pos count) ∷ []) old new rows
    → Shown account.text (page_params last count) old new rows
account_params old new given last count rows same = subst (λ (n : ℤ). Shown account.text (Int n ∷ Int (pos count) ∷ []) old new rows) same

placed_numbered : (n : ℕ) (xs : List AccountRow) → placed n xs ≡ enumerate_from n xs
placed_numbered n [] = refl
placed_numbered n (x ∷ xs) = ap (λ (l : List (ℕ × AccountRow)). (n, x) ∷ l) (placed_numbered (n + 1) xs)

pub numbered_long : (n : ℕ) (xs : List AccountRow) → length (enumerate_from n xs) ≡ length xs
numbered_long n [] = refl
numbered_long n (x ∷ xs) = ap suc (numbered_long (n + 1) xs)

pub account_returned : (old new : SqlState) (s : State) → Represents old.now s → (last count : ℕ) (rows : List Row)
    → Shown account.text (page_params last count) old new rows
    → rows ≡ map numbered_shown (take count (drop last (numbered s.account)))
account_returned old new s was last count rows h =
    let params = page_params last count in
    let xs = s.account in
    let it = pages account params (col 0 1) account_asked old new was.rows.schema rows h in
    let found : it.all ≡ map numbered_shown (filter (λ (p : ℕ × AccountRow). nat_lt last p.0) (placed 1 xs)) =
    numbers_listed account params (placed_row account_values) place_cmp (λ p q less. rw (number_cmp p.0 q.0, less))
    (λ p. nat_lt last p.0) (λ p. and_true _ ∙ number_past p.0 last) old.now.trees (placed 1 xs) (placed_rises 1 xs)
    (was.rows.holds.account ∙ placed_rows account_values 1 xs) it.all it.lists in
    let after : suc last - 1 ≡ last = omega arith in
    let past : filter (λ (p : ℕ × AccountRow). nat_lt last p.0) (placed 1 xs) ≡ drop last (numbered xs) =
    placed_after last 1 xs ∙ (ap (λ (n : ℕ). drop n (placed 1 xs)) after ∙ ap (drop last) (placed_numbered 1 xs)) in
    it.are ∙ (ap (take count) (found ∙ ap (map numbered_shown) past) ∙ take-map numbered_shown count (drop last (numbered xs)))

-- a page without its numbers
members : (n : ℕ) (xs : List AccountRow) → map (λ (p : ℕ × AccountRow). p.1) (enumerate_from n xs) ≡ xs
members n [] = refl
members n (x ∷ xs) = ap (λ (l : List AccountRow). x ∷ l) (members (n + 1) xs)

pub page_members : (from count : ℕ) (xs : List AccountRow) → map (λ (p : ℕ × AccountRow). p.1) (asked_for from count xs) ≡ account_page from count xs
page_members from count xs =
    let row = λ (p : ℕ × AccountRow). p.1 in
    sym (take-map row count (drop (from - 1) (numbered xs)))
    ∙ ap (take count) (sym (drop-map row (from - 1) (numbered xs)) ∙ ap (drop (from - 1)) (members 1 xs))
