-- What the queries on groups read.
use Rattle.std.proofs.Common.{◌≡◌, ◌==◌, ℕ, List, [], ◌∷◌, map, length, not, codes, refl, ◌∙◌}
use Rattle.std.specs.Str.{bytes_eq}
use Rattle.sqlite.specs.Order.{Row}
use Rattle.sqlite.specs.declared.types.Value.TheVariants.{Text}
use Rattle.sqlite.specs.Listing.{understood}
use Rattle.sqlite.specs.State.{State as SqlState, Shown}
use Rattle.sqlite_tied.specs.Compute.{everything}
use Rattle.sqlite_value.proofs.OrderLemmas.{value_cmp-Text}
use Rattle.opc_store_sql.proofs.Asked.{Asked, IsAsked, IsPaged, by_columns, columns, returned_all}
use Rattle.opc_store_sql.proofs.Keyed.{same_columns}
use Rattle.opc_store_sql.proofs.Limited.{any_map, one_row, returned_any}
use Rattle.opc_store_sql.proofs.Values.{equal_texts, and_true}
use Rattle.opc_policy_members.specs.Members.{name_cmp}
use Rattle.opc_policy_members.specs.Taken.{has_group}
use Rattle.opc_state.specs.State.{State}
use Rattle.opc_store_schema.specs.Placed.{grp_at}
use Rattle.opc_store_schema.specs.Tables.{the_schema}
use Rattle.opc_store_schema.specs.Represented.{Represents, group_row}
use Rattle.opc_store_users.proofs.UserLoads.{eq_back}

-- ---- all of them

abbrev pub groups : Asked
groups = record {
  schema = the_schema;
  text = codes "SELECT name FROM grp ORDER BY name";
  tree = grp_at.tree;
  tests = [];
  project = columns 1 1;
  order = by_columns 1 1;
}

pub groups_asked : IsAsked groups
unfolding understood everything
groups_asked = record { selects = refl; unlisted = refl; plain = (refl, refl); shows = λ schema base. refl }

pub groups_returned : (old new : SqlState) (s : State) → Represents old.now s → (rows : List Row)
    → Shown groups.text [] old new rows → rows ≡ map group_row s.policy.groups
groups_returned old new s was =
    returned_all groups [] refl group_row name_cmp (λ _. refl) (λ x y h. rw (value_cmp-Text x y, h)) (λ _. refl)
    groups_asked old new was.rows.schema s.policy.groups was.ordered.groups was.rows.holds.grp

-- ---- whether a name is one of a group

abbrev pub named_group : Asked
named_group = record groups { text = codes "SELECT name FROM grp WHERE name = ?1 LIMIT 1"; tests = same_columns 0 1; order = [] }

pub named_group_asked : IsPaged named_group one_row
unfolding understood everything
named_group_asked = record { selects = refl; unlisted = refl; plain = (refl, refl); shows = λ schema base. refl }

pub named_group_returned : (old new : SqlState) (s : State) → Represents old.now s → (name : List ℕ) (rows : List Row)
    → Shown named_group.text (Text name ∷ []) old new rows → not (length rows == 0) ≡ has_group s.policy name
named_group_returned old new s was name rows h =
    returned_any named_group (Text name ∷ []) refl named_group_asked old new was.rows.schema (map group_row s.policy.groups) was.rows.holds.grp rows h
    ∙ any_map _ group_row (bytes_eq name) (λ (x : List ℕ). and_true _ ∙ (equal_texts x name ∙ eq_back x name)) s.policy.groups
