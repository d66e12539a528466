-- What the query on the version reads.
use Rattle.std.proofs.Common.{◌≡◌, ℕ, pos, List, [], ◌∷◌, drop, codes, true, false, refl, Ordering, Less}
use Rattle.sqlite.specs.Order.{Row, column, value_cmp}
use Rattle.sqlite.specs.declared.types.Value.TheVariants.{Int}
use Rattle.sqlite.specs.Term.{Term, col}
use Rattle.sqlite.specs.Command.TheVariants.{Select}
use Rattle.sqlite.specs.Query.{Output, output_cmp}
use Rattle.sqlite_value.specs.declared.keys.Collation.TheVariants.{Binary}
use Rattle.sqlite_value.specs.declared.keys.Key.{Key}
use Rattle.sqlite_value.specs.Keys.{ascending}
use Rattle.sqlite_tied.specs.Compute.{everything}
use Rattle.sqlite.specs.Listing.{understood, reads_listing}
use Rattle.sqlite.specs.State.{State as SqlState, Shown}
use Rattle.sqlite.specs.Tree.{Trees}
use Rattle.sqlite.proofs.Callers.{IsPlain, command_of, reads_as}
use Rattle.opc_store_sql.specs.Steps.{NeverWrites}
use Rattle.opc_store_sql.proofs.Queries.{selecting, alone, answered, shown}
use Rattle.opc_store_sql.proofs.Quiet.{ShowsNothing, understood_quiet}
use Rattle.opc_store_sql.proofs.Listed.{listed}
use Rattle.sqlite_resolve.specs.Compile.{first}
use Rattle.opc_store_schema.specs.Placed.{meta_at}
use Rattle.opc_store_schema.specs.Tables.{the_schema}
use Rattle.opc_state.specs.State.{State}
use Rattle.opc_store_schema.specs.Represented.{Tabulates, version_row}

abbrev by_first : List (Term × Key)
by_first = (col 1 1, ascending Binary) ∷ []

abbrev pub select_version : List ℕ
select_version = codes "SELECT version FROM meta ORDER BY version"

abbrev version_columns : List Term
version_columns = col 1 1 ∷ []

version_is : (command_of (understood the_schema select_version) ≡ Select
    (alone (selecting meta_at.tree [] version_columns by_first)) (codes "version" ∷ []))
    × (reads_listing the_schema select_version ≡ false)
unfolding understood everything
version_is = (refl, refl)

version_plain : IsPlain (understood the_schema select_version)
unfolding understood everything
version_plain = (refl, refl)

version_shows : ShowsNothing (first select_version)
unfolding everything
version_shows schema base = refl

pub version_quiet : NeverWrites select_version
version_quiet = understood_quiet select_version version_shows

abbrev version_out : Row → Output
version_out v = (column v 0 ∷ [], column v 0 ∷ [])

version_below : (db : Trees) (r : Row) → shown meta_at.tree [] version_columns by_first db [] r ≡ version_out (drop 1 r)
version_below db [] = refl
version_below db (v ∷ r) = refl

abbrev number_cmp : ℕ → ℕ → Ordering
number_cmp m n = value_cmp (Int (pos m)) (Int (pos n))

version_less : (x y : ℕ) → number_cmp x y ≡ Less
    → output_cmp (selecting meta_at.tree [] version_columns by_first) (version_out (version_row x))
    (version_out (version_row y)) ≡ Less
version_less x y h = rw h

module _ (old new : SqlState) (s : State) (was : Tabulates old.now s) (rows : List Row) where
  pub shows_version : Shown select_version [] old new rows → rows ≡ version_row 3 ∷ []
  shows_version h =
      let read = reads_as select_version [] old new the_schema was.schema
      (Select (alone (selecting meta_at.tree [] version_columns by_first)) (codes "version" ∷ [])) version_is.0
      version_plain version_is.1 rows h in
      let lists = answered 0 [] version_columns by_first old.now.trees [] old.now.schema rows read in
      listed version_row version_row number_cmp meta_at.tree [] version_columns by_first [] (λ _. true) version_out
      (λ _. true) old.now.trees (λ _. refl) (version_below old.now.trees) (λ _. refl) (λ _. refl) version_less
      (3 ∷ []) rows (tt, tt) was.holds.meta lists
