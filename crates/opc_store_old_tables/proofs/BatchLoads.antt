-- What the query on the stored batches of an older version reads.
use Rattle.std.proofs.Common.{
  ◌≡◌,
  ℕ,
  zero,
  suc,
  ◌+◌,
  ◌<◌,
  List,
  [],
  ◌∷◌,
  ◌++◌,
  map,
  take,
  length,
  get_or,
  codes,
  refl,
  sym,
  ap,
  ap₂,
  subst,
  ◌∙◌,
  arith,
  add-one,
}
use Rattle.std.specs.List.{AllByRecursion}
use Rattle.sqlite.specs.Order.{Row}
use Rattle.sqlite.specs.Listing.{understood}
use Rattle.sqlite.specs.State.{State as SqlState, Shown}
use Rattle.sqlite_tied.specs.Compute.{everything}
use Rattle.opc_store_sql.proofs.Asked.{Asked, IsAsked, by_columns, columns, returned_all_numbers}
use Rattle.opc_store_sql.proofs.Numbered.{number_cmp}
use Rattle.opc_state.specs.Members.{batch_cmp}
use Rattle.opc_state.specs.State.{State}
use Rattle.opc_store_old_tables.specs.Tables.{Older, First, Second, old_schema, old_at}
use Rattle.opc_store_old_tables.specs.Old.{RepresentsOld, old_batch_row}
use Rattle.opc_store_old_tables.specs.Read.{batch_shown}
use Rattle.opc_store_old_tables.proofs.Held.{held}

abbrev pub batches : Older → Asked
batches version = record {
  schema = old_schema version;
  text = codes "SELECT number, rows FROM batches ORDER BY number";
  tree = (old_at version 11).tree;
  tests = [];
  project = columns 0 1 ++ columns 2 1;
  order = by_columns 0 1;
}

pub batches_asked : (version : Older) → IsAsked (batches version)
unfolding understood everything
batches_asked First = record { selects = refl; unlisted = refl; plain = (refl, refl); shows = λ schema base. refl }
batches_asked Second = record { selects = refl; unlisted = refl; plain = (refl, refl); shows = λ schema base. refl }

pub batches_returned : (version : Older) (old new : SqlState) (s : State) (was : RepresentsOld version old.now s)
    → (rows : List Row) → Shown (batches version).text [] old new rows → rows ≡ map (batch_shown was.text_of) s.batches
batches_returned version old new s was rows h =
    let has = held version old.now s was in
    returned_all_numbers (batches version) [] (old_batch_row was.text_of) batch_cmp
    (λ x y h. rw (number_cmp x.number y.number, h)) (λ _. refl) (batches_asked version) old new has.schema s.batches
    was.state.batches has.batches rows h

-- what was read of the rows so far is that of members with P, up to here
module _ {X Y V : Type 0} (P : X → Type 0) (row : X → Y) (of : X → V) where
  record IsHere (xs : List X) (i : ℕ) (y : Y) : Type 0 where
    x : X
    is : y ≡ row x
    holds : P x
    more : take (suc i) (map of xs) ≡ take i (map of xs) ++ of x ∷ []

  here : (xs : List X) → AllByRecursion P xs → (i : ℕ) (d : Y) → i < length (map row xs) → IsHere xs i (get_or (map row xs) i d)
  here [] all i d low = absurd (omega arith)
  here (x ∷ xs) all zero d low = record { x = x; is = refl; holds = all.0; more = refl }
  here (x ∷ xs) all (suc i) d low = let it = here xs all.1 i d (omega arith) in record {
    x = it.x;
    is = it.is;
    holds = it.holds;
    more = ap (λ (l : List V). of x ∷ l) it.more;
  }

  pub more_of : (xs : List X) → AllByRecursion P xs → (rows : List Y) (vs : List V) (i : ℕ) (y : Y) (v : V)
      → rows ≡ map row xs → i < length rows → y ≡ get_or rows i y
      → ((x : X) → y ≡ row x → P x → v ≡ of x) → vs ≡ take i (map of xs) → vs ++ v ∷ [] ≡ take (i + 1) (map of xs)
  more_of xs all rows vs i y v are low is reads so_far =
      let it = here xs all i y (subst (λ (l : List Y). i < length l) are low) in
      let row_is : y ≡ row it.x = is ∙ (ap (λ (l : List Y). get_or l i y) are ∙ it.is) in
      ap₂ (λ (a : List V) (b : V). a ++ b ∷ []) so_far (reads it.x row_is it.holds) ∙ (sym it.more ∙ ap (λ k. take k (map of xs)) (sym (add-one i)))
