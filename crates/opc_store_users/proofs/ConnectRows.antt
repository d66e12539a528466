-- The table of connects, and what its statements make of a state.
use Rattle.std.proofs.Common.{◌≡◌, ℕ, List, true, false, not, ◌&&◌, codes, Ok, refl, sym, ap, ap₂, subst, ◌∙◌}
use Rattle.std.proofs.lemmas.Map.Text.{is_eq-slice_cmp}
use Rattle.sqlite.specs.Held.{Held, state}
use Rattle.sqlite.specs.Listing.{understood}
use Rattle.sqlite.specs.State.{State as SqlState, Executes}
use Rattle.sqlite_keyed.proofs.ListLemmas.{filter_same}
use Rattle.sqlite_schema.specs.Names.{same_name as same_table}
use Rattle.sqlite_tied.specs.Compute.{everything}
use Rattle.sqlite_trees.specs.declared.store.Store.{Ghosts}
use Rattle.sqlite_value.specs.Keys.{joined}
use Rattle.opc_store_sql.specs.Order.{text_cmp}
use Rattle.opc_store_sql.specs.Steps.{Puts}
use Rattle.opc_store_sql.proofs.Keyed.{Keyed, IsKeyed, AreUnderstood, is_idle, removes, puts}
use Rattle.opc_store_sql.proofs.Sets.{inserted_same, then_eq}
use Rattle.opc_store_sql.proofs.Values.{equal_texts, and_true}
use Rattle.opc_policy_members.specs.declared.connect.Connect.{Connect}
use Rattle.opc_policy_members.specs.Members.{connect_cmp, name_cmp, with_connect}
use Rattle.opc_state.specs.State.{State}
use Rattle.opc_state.specs.Changes.{with_connects}
use Rattle.opc_state.specs.Members.{without_connect}
use Rattle.opc_store_schema.specs.Tables.{the_schema}
use Rattle.opc_store_schema.specs.Placed.{connects_at}
use Rattle.opc_store_schema.specs.Represented.{Represents, Tabulates, connect_row}
use Rattle.opc_store_schema.proofs.Keys.{connect_total, same_connect}
use Rattle.opc_store_schema.proofs.Ordered.{with_connect_ordered, without_connect_ordered}
use Rattle.opc_store_schema.proofs.OtherTables.{with_connects as spares_connects}

abbrev pub connects : Keyed Connect
connects = record {
  schema = the_schema;
  place = 14;
  table = connects_at;
  width = 2;
  insert = codes "INSERT INTO connects VALUES (?1, ?2)";
  update = codes "UPDATE connects SET usr = ?1, grp = ?2 WHERE usr = ?1 AND grp = ?2";
  delete = codes "DELETE FROM connects WHERE usr = ?1 AND grp = ?2";
  row = connect_row;
  cmp = connect_cmp;
}

texts : AreUnderstood connects
unfolding understood everything
texts = record { insert_is = refl; update_is = refl; delete_is = refl; insert_plain = (refl, refl); update_plain = (refl, refl); delete_plain = (refl, refl) }

idle : (is_idle the_schema connects_at.tree true ≡ true) × (is_idle the_schema connects_at.tree false ≡ true)
unfolding same_table joined
idle = (refl, refl)

keyed : IsKeyed connects
keyed = record {
  texts = texts;
  found = refl;
  simple = record { uncounted = refl; stampless = refl };
  idle = idle;
  stores = λ x. (refl, (refl, tt));
  values = λ x rest. refl;
  gives = λ x. refl;
  tested = λ x rest. refl;
  total = connect_total;
  picks = λ x y. ap₂ (λ a b. a && b) (equal_texts y.user x.user) (and_true _ ∙ equal_texts y.group x.group)
      ∙ sym (then_eq (text_cmp y.user x.user) (text_cmp y.group x.group));
}

pub connect_put : {S : Type 0} (g : Ghosts S) (old new : Held S) (s : State) → Represents (state g old).now s
    → (connect : Connect) → Puts g connects.update connects.insert (connect_row connect) old new
    → Represents (state g new).now (with_connects (with_connect connect s.policy.connects) s)
connect_put g old new s was connect h =
    let it = puts g connects keyed old new was.rows.schema s.policy.connects was.ordered.connects was.rows.holds.connects connect h in
    record {
      ordered = with_connect_ordered s was.ordered connect;
      rows = subst (λ (l : List Connect). Tabulates (state g new).now (with_connects l s))
          (sym (inserted_same connect_cmp same_connect connect s.policy.connects))
          (spares_connects _ _ _ was.rows it.spares _ it.rows);
    }

pub connect_removed : (old new : SqlState) (count : ℕ) (s : State) → Represents old.now s → (connect : Connect)
    → Executes connects.delete (connect_row connect) old new (Ok count)
    → Represents new.now (with_connects (without_connect connect s.policy.connects) s)
connect_removed old new count s was connect h =
    let it = removes connects keyed connect old new count was.rows.schema s.policy.connects was.ordered.connects was.rows.holds.connects h in
    let same = filter_same _ _ (λ d. ap not (then_eq (name_cmp d.user connect.user) (name_cmp d.group connect.group)
    ∙ ap₂ (λ a b. a && b) (is_eq-slice_cmp d.user connect.user) (is_eq-slice_cmp d.group connect.group)))
    s.policy.connects in
    record {
      ordered = without_connect_ordered s was.ordered connect;
      rows = subst (λ (l : List Connect). Tabulates new.now (with_connects l s)) same (spares_connects _ _ _ was.rows it.spares _ it.rows);
    }
