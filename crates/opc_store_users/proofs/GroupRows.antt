-- The table of groups, and what its statements make of a state.
use Rattle.std.proofs.Common.{◌≡◌, ℕ, List, [], ◌∷◌, true, false, not, codes, Ok, refl, sym, ap, subst, ◌∙◌}
use Rattle.std.proofs.lemmas.Map.Text.{is_eq-slice_cmp}
use Rattle.sqlite.specs.declared.types.Value.TheVariants.{Text}
use Rattle.sqlite.specs.Held.{Held, state}
use Rattle.sqlite.specs.Listing.{understood}
use Rattle.sqlite.specs.State.{State as SqlState, Executes}
use Rattle.sqlite_keyed.proofs.ListLemmas.{filter_same}
use Rattle.sqlite_schema.specs.Names.{same_name as same_table}
use Rattle.sqlite_tied.specs.Compute.{everything}
use Rattle.sqlite_trees.specs.declared.store.Store.{Ghosts}
use Rattle.sqlite_value.specs.Keys.{joined}
use Rattle.opc_store_sql.specs.Steps.{Puts}
use Rattle.opc_store_sql.proofs.Keyed.{Keyed, IsKeyed, AreUnderstood, is_idle, removes, puts}
use Rattle.opc_store_sql.proofs.Sets.{inserted_same}
use Rattle.opc_store_sql.proofs.Values.{equal_texts, and_true}
use Rattle.opc_policy_members.specs.Members.{name_cmp, with_group}
use Rattle.opc_state.specs.State.{State}
use Rattle.opc_state.specs.Changes.{with_groups}
use Rattle.opc_state.specs.Members.{without_group}
use Rattle.opc_store_schema.specs.Tables.{the_schema}
use Rattle.opc_store_schema.specs.Placed.{grp_at}
use Rattle.opc_store_schema.specs.Represented.{Represents, Tabulates, group_row}
use Rattle.opc_store_schema.proofs.Keys.{group_total, same_name}
use Rattle.opc_store_schema.proofs.Ordered.{with_group_ordered, without_group_ordered}
use Rattle.opc_store_schema.proofs.OtherTables.{with_grp}

abbrev pub groups : Keyed (List ℕ)
groups = record {
  schema = the_schema;
  place = 12;
  table = grp_at;
  width = 1;
  insert = codes "INSERT INTO grp VALUES (?1)";
  update = codes "UPDATE grp SET name = ?1 WHERE name = ?1";
  delete = codes "DELETE FROM grp WHERE name = ?1";
  row = group_row;
  cmp = name_cmp;
}

texts : AreUnderstood groups
unfolding understood everything
texts = record { insert_is = refl; update_is = refl; delete_is = refl; insert_plain = (refl, refl); update_plain = (refl, refl); delete_plain = (refl, refl) }

idle : (is_idle the_schema grp_at.tree true ≡ true) × (is_idle the_schema grp_at.tree false ≡ true)
unfolding same_table joined
idle = (refl, refl)

keyed : IsKeyed groups
keyed = record {
  texts = texts;
  found = refl;
  simple = record { uncounted = refl; stampless = refl };
  idle = idle;
  stores = λ x. (refl, tt);
  values = λ x rest. refl;
  gives = λ x. refl;
  tested = λ x rest. refl;
  total = group_total;
  picks = λ x y. and_true _ ∙ equal_texts y x;
}

pub group_put : {S : Type 0} (g : Ghosts S) (old new : Held S) (s : State) → Represents (state g old).now s
    → (name : List ℕ) → Puts g groups.update groups.insert (group_row name) old new
    → Represents (state g new).now (with_groups (with_group name s.policy.groups) s)
group_put g old new s was name h =
    let it = puts g groups keyed old new was.rows.schema s.policy.groups was.ordered.groups was.rows.holds.grp name h in
    record {
      ordered = with_group_ordered s was.ordered name;
      rows = subst (λ (l : List (List ℕ)). Tabulates (state g new).now (with_groups l s))
          (sym (inserted_same name_cmp same_name name s.policy.groups)) (with_grp _ _ _ was.rows it.spares _ it.rows);
    }

pub group_removed : (old new : SqlState) (count : ℕ) (s : State) → Represents old.now s → (name : List ℕ)
    → Executes groups.delete (Text name ∷ []) old new (Ok count)
    → Represents new.now (with_groups (without_group name s.policy.groups) s)
group_removed old new count s was name h =
    let it = removes groups keyed name old new count was.rows.schema s.policy.groups was.ordered.groups was.rows.holds.grp h in
    record {
      ordered = without_group_ordered s was.ordered name;
      rows = subst (λ (l : List (List ℕ)). Tabulates new.now (with_groups l s))
          (filter_same _ _ (λ x. ap not (is_eq-slice_cmp x name)) s.policy.groups)
          (with_grp _ _ _ was.rows it.spares _ it.rows);
    }
