-- The version is set, and the batches are removed.
use Rattle.std.proofs.Common.{◌≡◌, ℕ, List, [], ◌∷◌, map, filter, not, codes, true, false, Ok, refl, sym, subst, ◌∙◌}
use Rattle.sqlite.specs.Order.{Row}
use Rattle.sqlite.specs.Term.{col}
use Rattle.sqlite.specs.Command.TheVariants.{Delete}
use Rattle.sqlite.specs.Listing.{understood}
use Rattle.sqlite.specs.State.{State as SqlState, Executes}
use Rattle.sqlite.proofs.Callers.{IsPlain, command_of}
use Rattle.sqlite_keyed.proofs.ListLemmas.{all_of, filter_none}
use Rattle.sqlite_schema.specs.Names.{same_name}
use Rattle.sqlite_value.specs.Keys.{joined}
use Rattle.sqlite_tied.specs.Compute.{everything}
use Rattle.opc_state.specs.declared.change.Batch.{Batch}
use Rattle.opc_state.specs.State.{State}
use Rattle.opc_store_sql.specs.Rows.{IsKept}
use Rattle.opc_store_sql.proofs.Keyed.{is_idle, nothing_acts}
use Rattle.opc_store_sql.proofs.Numbered.{rising_kept}
use Rattle.opc_store_sql.proofs.Queries.{selecting, alone}
use Rattle.opc_store_sql.proofs.Written.{takes, takes_numbers}
use Rattle.opc_store_schema.specs.Contents.{Contents}
use Rattle.opc_store_schema.specs.Made.{IsMade}
use Rattle.opc_store_schema.specs.Making.{insert_version}
use Rattle.opc_store_schema.specs.Placed.{meta_at, batches_at}
use Rattle.opc_store_schema.specs.Represented.{Represents, version_row}
use Rattle.opc_store_schema.specs.State.{IsOrdered}
use Rattle.opc_store_schema.specs.Tables.{the_schema}
use Rattle.opc_store_schema.proofs.Filled.{adds_version}
use Rattle.opc_store_schema.proofs.OtherTables.{with_meta, with_batches as spares_batches}
use Rattle.opc_store_old_tables.specs.Tables.{Older}
use Rattle.opc_store_old_tables.specs.Old.{IsOldState, old_batch_row, old_batch_values}
use Rattle.opc_store_migration.specs.Between.{between, emptied}

abbrev pub delete_meta : List ℕ
delete_meta = codes "DELETE FROM meta"

abbrev pub delete_batches : List ℕ
delete_batches = codes "DELETE FROM batches"

meta_goes : command_of (understood the_schema delete_meta) ≡ Delete 0 (alone (selecting meta_at.tree [] (col 1 0 ∷ []) []))
unfolding understood everything
meta_goes = refl

meta_plain : IsPlain (understood the_schema delete_meta)
unfolding understood everything
meta_plain = (refl, refl)

batches_go : command_of (understood the_schema delete_batches) ≡ Delete 11 (alone (selecting batches_at.tree [] (col 1 0 ∷ []) []))
unfolding understood everything
batches_go = refl

batches_plain : IsPlain (understood the_schema delete_batches)
unfolding understood everything
batches_plain = (refl, refl)

meta_idle : (is_idle the_schema meta_at.tree true ≡ true) × (is_idle the_schema meta_at.tree false ≡ true)
unfolding same_name joined
meta_idle = (refl, refl)

batches_idle : (is_idle the_schema batches_at.tree true ≡ true) × (is_idle the_schema batches_at.tree false ≡ true)
unfolding same_name joined
batches_idle = (refl, refl)

module _ (old new : SqlState) (count : ℕ) (c : Contents) (was : IsMade c old.now) where
  -- every row passes
  pub without_meta : Executes delete_meta [] old new (Ok count) → IsMade (record c { meta = [] }) new.now
  without_meta h =
      let it = takes the_schema delete_meta 0 meta_at [] meta_plain refl old new was.schema count [] (λ _. true)
      meta_goes (λ _. refl) (λ rows. nothing_acts the_schema meta_at.tree meta_idle.0 meta_idle.1 _ []) h in
      let none : filter (λ (v : Row). not true) c.meta ≡ [] = filter_none _ c.meta (all_of (λ (v : Row). not true ≡ false) (λ _. refl) c.meta) in
      subst (λ (l : List Row). IsMade (record c { meta = l }) new.now) none (with_meta c old.now new.now was it.spares _ (it.rows c.meta was.holds.meta))

  pub without_batches : (kept : IsKept c.batches) → Executes delete_batches [] old new (Ok count) → IsMade (record c { batches = [] }) new.now
  without_batches kept h =
      let it = takes_numbers the_schema delete_batches 11 batches_at [] batches_plain refl old new was.schema count []
      batches_go (λ rows. nothing_acts the_schema batches_at.tree batches_idle.0 batches_idle.1 _ []) h in
      let stored : IsKept (old.now.trees batches_at.tree) = subst IsKept (sym was.holds.batches) kept in
      let none : filter (λ (r : Row). not true) (old.now.trees batches_at.tree) ≡ [] =
      filter_none _ (old.now.trees batches_at.tree)
      (all_of (λ (r : Row). not true ≡ false) (λ _. refl) (old.now.trees batches_at.tree)) in
      spares_batches c old.now new.now was it.spares [] (it.rows stored ∙ none)

pub batches_kept : (text_of : Batch → List ℕ) (s : State) → IsOldState text_of s → IsKept (map (old_batch_row text_of) s.batches)
batches_kept text_of s is = rising_kept (old_batch_values text_of) (λ (b : Batch). b.number) s.batches is.batches

pub emptied_ordered : (text_of : Batch → List ℕ) (s : State) → IsOldState text_of s → IsOrdered (emptied s)
emptied_ordered text_of s is = record {
  groups = is.ordered.groups;
  users = tt;
  connects = tt;
  profiles = tt;
  patterns = tt;
  entries = tt;
  units = is.ordered.units;
  devices = is.ordered.devices;
  consoles = is.ordered.consoles;
  replies = is.ordered.replies;
  batches = tt;
  read_back = tt;
  numbered = is.ordered.numbered;
}

-- the three steps, one after another
pub renewed : (version : Older) (text_of : Batch → List ℕ) (s : State) → IsOldState text_of s
    → (a b c d : SqlState) (m n k : ℕ) → IsMade (between version text_of s) a.now
    → Executes delete_meta [] a b (Ok m) → Executes insert_version (version_row 3) b c (Ok n)
    → Executes delete_batches [] c d (Ok k) → Represents d.now (emptied s)
renewed version text_of s is a b c d m n k was first second third =
    let start = between version text_of s in
    let bare = without_meta a b m start was first in
    let set = adds_version b c n (record start { meta = [] }) bare 3 second in
    let end = without_batches c d k (record start { meta = version_row 3 ∷ [] }) set (batches_kept text_of s is) third in
    record { ordered = emptied_ordered text_of s is; rows = end }
