-- Older tables name their own version.
use Rattle.std.proofs.Common.{◌≡◌, ℕ, pos, [], ◌∷◌, refl, sym, ap, ◌∙◌, Ordering}
use Rattle.sqlite.specs.Order.{value_cmp}
use Rattle.sqlite.specs.declared.types.Value.TheVariants.{Int}
use Rattle.sqlite.specs.Listing.{understood}
use Rattle.sqlite.specs.State.{State as SqlState}
use Rattle.sqlite_tied.specs.Compute.{everything}
use Rattle.opc_state.specs.State.{State}
use Rattle.opc_store_sql.proofs.Asked.{Asked, IsAsked, by_columns, columns, returned_all}
use Rattle.opc_store_schema.specs.Ours.{NamesVersion, version_of, version_query}
use Rattle.opc_store_schema.specs.Represented.{version_row}
use Rattle.opc_store_old_tables.specs.Tables.{Older, First, Second, version_number, old_schema, old_at}
use Rattle.opc_store_old_tables.specs.Old.{RepresentsOld}
use Rattle.opc_store_old_tables.proofs.Held.{held}

abbrev version : Older → Asked
version v = record { schema = old_schema v; text = version_query; tree = (old_at v 0).tree; tests = []; project = columns 1 1; order = by_columns 1 1 }

version_asked : (v : Older) → IsAsked (version v)
unfolding understood everything
version_asked First = record { selects = refl; unlisted = refl; plain = (refl, refl); shows = λ schema base. refl }
version_asked Second = record { selects = refl; unlisted = refl; plain = (refl, refl); shows = λ schema base. refl }

abbrev number_cmp : ℕ → ℕ → Ordering
number_cmp m n = value_cmp (Int (pos m)) (Int (pos n))

pub names_own : (v : Older) (old new : SqlState) (s : State) → RepresentsOld v old.now s → (n : ℕ) → NamesVersion n old new → n ≡ version_number v
names_own v old new s was n named =
    let has = held v old.now s was in
    let are = returned_all (version v) [] refl version_row number_cmp (λ _. refl) (λ x y h. rw h) (λ _. refl)
    (version_asked v) old new has.schema (version_number v ∷ []) (tt, tt) has.meta named.0 named.1 in
    sym named.2 ∙ ap version_of are
