-- What the queries on connects read.
use Rattle.std.proofs.Common.{◌≡◌, ◌==◌, ℕ, pos, List, [], ◌∷◌, map, filter, take, length, not, codes, refl, ap, ap₂, ◌&&◌, ◌∙◌}
use Rattle.std.specs.List.{list_any}
use Rattle.std.specs.Str.{bytes_eq}
use Rattle.std.proofs.lemmas.List.{take-map}
use Rattle.sqlite.specs.Order.{Row}
use Rattle.sqlite.specs.declared.types.Value.TheVariants.{Int, Text}
use Rattle.sqlite.specs.Term.{col}
use Rattle.sqlite.specs.Listing.{understood}
use Rattle.sqlite.specs.State.{State as SqlState, Shown}
use Rattle.sqlite_tied.specs.Compute.{everything}
use Rattle.sqlite_value.proofs.OrderLemmas.{value_cmp-Text}
use Rattle.sqlite_keyed.proofs.ListLemmas.{filter-map, filter_same, ascending-filter}
use Rattle.opc_store_sql.proofs.Asked.{Asked, IsAsked, IsPaged, by_columns, columns, then_less, returned_all}
use Rattle.opc_store_sql.proofs.Keyed.{same_columns}
use Rattle.opc_store_sql.proofs.Limited.{any_map, one_row, part_first, returned_any}
use Rattle.opc_store_sql.proofs.Values.{and_true, same_texts}
use Rattle.opc_policy_members.specs.declared.connect.Connect.{Connect}
use Rattle.opc_policy_members.specs.Members.{name_cmp, connect_cmp}
use Rattle.opc_state.specs.Loads.{is_connected}
use Rattle.opc_state.specs.State.{State}
use Rattle.opc_store_schema.specs.Placed.{connects_at}
use Rattle.opc_store_schema.specs.Tables.{the_schema}
use Rattle.opc_store_schema.specs.Represented.{Represents, connect_row}

-- ---- all of them

abbrev pub connects : Asked
connects = record {
  schema = the_schema;
  text = codes "SELECT usr, grp FROM connects ORDER BY usr, grp";
  tree = connects_at.tree;
  tests = [];
  project = columns 1 2;
  order = by_columns 1 2;
}

pub connects_asked : IsAsked connects
unfolding understood everything
connects_asked = record { selects = refl; unlisted = refl; plain = (refl, refl); shows = λ schema base. refl }

pub connects_returned : (old new : SqlState) (s : State) → Represents old.now s → (rows : List Row)
    → Shown connects.text [] old new rows → rows ≡ map connect_row s.policy.connects
connects_returned old new s was =
    returned_all connects [] refl connect_row connect_cmp (λ _. refl)
    (λ x y h. rw (value_cmp-Text x.user y.user, value_cmp-Text x.group y.group)
    (then_less (name_cmp x.user y.user) (name_cmp x.group y.group) h)) (λ _. refl)
    connects_asked old new was.rows.schema s.policy.connects was.ordered.connects was.rows.holds.connects

-- ---- those of a user, at most this many

abbrev pub of_user : Asked
of_user = record connects { text = codes "SELECT usr, grp FROM connects WHERE usr = ?1 ORDER BY usr, grp LIMIT ?2"; tests = same_columns 0 1 }

pub of_user_asked : IsPaged of_user (col 0 1)
unfolding understood everything
of_user_asked = record { selects = refl; unlisted = refl; plain = (refl, refl); shows = λ schema base. refl }

pub of_user_returned : (old new : SqlState) (s : State) → Represents old.now s → (id : List ℕ) (most : ℕ) (rows : List Row)
    → Shown of_user.text (Text id ∷ Int (pos most) ∷ []) old new rows
    → rows ≡ map connect_row (take most (filter (λ (c : Connect). bytes_eq c.user id) s.policy.connects))
of_user_returned old new s was id most rows h =
    let mine = λ (c : Connect). bytes_eq c.user id in
    part_first of_user (Text id ∷ Int (pos most) ∷ []) refl connect_row connect_cmp (λ _. refl)
    (λ x y less. rw (value_cmp-Text x.user y.user, value_cmp-Text x.group y.group)
    (then_less (name_cmp x.user y.user) (name_cmp x.group y.group) less))
    (col 0 1) of_user_asked old new was.rows.schema (map connect_row s.policy.connects) (filter mine s.policy.connects)
    (ascending-filter _ mine s.policy.connects was.ordered.connects)
    (filter-map _ connect_row s.policy.connects
    ∙ ap (map connect_row) (filter_same _ _ (λ c. and_true _ ∙ same_texts c.user id) s.policy.connects))
    was.rows.holds.connects rows h
    ∙ take-map connect_row most (filter mine s.policy.connects)

-- ---- whether a user has one, and whether a user is connected to a group

abbrev pub any_of_user : Asked
any_of_user = record of_user { text = codes "SELECT usr FROM connects WHERE usr = ?1 LIMIT 1"; project = columns 1 1; order = [] }

pub any_of_user_asked : IsPaged any_of_user one_row
unfolding understood everything
any_of_user_asked = record { selects = refl; unlisted = refl; plain = (refl, refl); shows = λ schema base. refl }

pub any_of_user_returned : (old new : SqlState) (s : State) → Represents old.now s → (id : List ℕ) (rows : List Row)
    → Shown any_of_user.text (Text id ∷ []) old new rows
    → not (length rows == 0) ≡ list_any (λ (c : Connect). bytes_eq c.user id) s.policy.connects
any_of_user_returned old new s was id rows h =
    returned_any any_of_user (Text id ∷ []) refl any_of_user_asked old new was.rows.schema (map connect_row s.policy.connects) was.rows.holds.connects rows h
    ∙ any_map _ connect_row _ (λ (c : Connect). and_true _ ∙ same_texts c.user id) s.policy.connects

abbrev pub connect : Asked
connect = record any_of_user { text = codes "SELECT usr FROM connects WHERE usr = ?1 AND grp = ?2 LIMIT 1"; tests = same_columns 0 2 }

pub connect_asked : IsPaged connect one_row
unfolding understood everything
connect_asked = record { selects = refl; unlisted = refl; plain = (refl, refl); shows = λ schema base. refl }

pub connect_returned : (old new : SqlState) (s : State) → Represents old.now s → (user group : List ℕ) (rows : List Row)
    → Shown connect.text (Text user ∷ Text group ∷ []) old new rows
    → not (length rows == 0) ≡ is_connected s.policy user group
connect_returned old new s was user group rows h =
    returned_any connect (Text user ∷ Text group ∷ []) refl connect_asked
    old new was.rows.schema (map connect_row s.policy.connects) was.rows.holds.connects rows h
    ∙ any_map _ connect_row _ (λ (c : Connect). ap₂ (λ a b. a && b) (same_texts c.user user) (and_true _ ∙ same_texts c.group group)) s.policy.connects
