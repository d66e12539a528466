-- What the queries on users read.
use Rattle.std.proofs.Common.{◌≡◌, ℕ, List, [], ◌∷◌, map, filter, length, codes, not, ◌==◌, true, refl, ap, ◌∙◌, Ordering, Less, Equal, Greater, is_eq}
use Rattle.std.specs.List.{list_any}
use Rattle.std.specs.Ordering.{ordering_reverse}
use Rattle.std.specs.Str.{bytes_eq}
use Rattle.std.proofs.lemmas.Map.Text.{is_eq-slice_cmp}
use Rattle.sqlite.specs.Order.{Row}
use Rattle.sqlite.specs.declared.types.Value.TheVariants.{Text}
use Rattle.sqlite.specs.Listing.{understood}
use Rattle.sqlite.specs.State.{State as SqlState, Shown}
use Rattle.sqlite_tied.specs.Compute.{everything}
use Rattle.sqlite_value.proofs.OrderLemmas.{value_cmp-Text}
use Rattle.opc_store_sql.specs.Order.{text_cmp}
use Rattle.opc_store_sql.proofs.Asked.{Asked, IsAsked, IsPaged, by_columns, columns, returned, returned_all}
use Rattle.opc_store_sql.proofs.Keyed.{same_columns}
use Rattle.opc_store_sql.proofs.Limited.{any_found, any_map, one_row, returned_any}
use Rattle.opc_store_sql.proofs.Sets.{text_total}
use Rattle.opc_store_sql.proofs.Values.{equal_texts, and_true}
use Rattle.opc_policy_members.specs.declared.user.User.{User}
use Rattle.opc_policy_members.specs.Members.{user_cmp}
use Rattle.opc_policy_members.specs.Taken.{has_user}
use Rattle.opc_state.specs.State.{State, has_users, is_some_user}
use Rattle.opc_store_schema.specs.Placed.{usr_at}
use Rattle.opc_store_schema.specs.Tables.{the_schema}
use Rattle.opc_store_schema.specs.Represented.{Represents, user_row}

-- ---- all of them

abbrev pub users : Asked
users = record {
  schema = the_schema;
  text = codes "SELECT id, special, auditor, revoked, digest, restricted FROM usr ORDER BY id";
  tree = usr_at.tree;
  tests = [];
  project = columns 1 6;
  order = by_columns 1 1;
}

pub users_asked : IsAsked users
unfolding understood everything
users_asked = record { selects = refl; unlisted = refl; plain = (refl, refl); shows = λ schema base. refl }

pub users_returned : (old new : SqlState) (s : State) → Represents old.now s → (rows : List Row)
    → Shown users.text [] old new rows → rows ≡ map user_row s.policy.users
users_returned old new s was =
    returned_all users [] refl user_row user_cmp (λ _. refl) (λ x y h. rw (value_cmp-Text x.id y.id, h)) (λ _. refl)
    users_asked old new was.rows.schema s.policy.users was.ordered.users was.rows.holds.usr

-- ---- that of an id

abbrev pub user : Asked
user = record users { text = codes "SELECT id, special, auditor, revoked, digest, restricted FROM usr WHERE id = ?1 ORDER BY id"; tests = same_columns 0 1 }

pub user_asked : IsAsked user
unfolding understood everything
user_asked = record { selects = refl; unlisted = refl; plain = (refl, refl); shows = λ schema base. refl }

pub eq_back : (a b : List ℕ) → is_eq (text_cmp a b) ≡ bytes_eq b a
eq_back a b = ap is_eq (text_total.antisymm a b) ∙ (turned (text_cmp b a) ∙ is_eq-slice_cmp b a)
  where
    turned : (o : Ordering) → is_eq (ordering_reverse o) ≡ is_eq o
    turned Less = refl
    turned Equal = refl
    turned Greater = refl

pub user_returned : (old new : SqlState) (s : State) → Represents old.now s → (id : List ℕ) (rows : List Row)
    → Shown user.text (Text id ∷ []) old new rows
    → rows ≡ map user_row (filter (λ (u : User). bytes_eq id u.id) s.policy.users)
user_returned old new s was id =
    returned user (Text id ∷ []) refl user_row user_cmp (λ _. refl) (λ x y h. rw (value_cmp-Text x.id y.id, h))
    (λ u. bytes_eq id u.id) (λ u. and_true _ ∙ (equal_texts u.id id ∙ eq_back u.id id)) user_asked old new
    was.rows.schema s.policy.users was.ordered.users was.rows.holds.usr

-- ---- whether an id is one of a user

abbrev pub named_user : Asked
named_user = record user { text = codes "SELECT id FROM usr WHERE id = ?1 LIMIT 1"; project = columns 1 1; order = [] }

pub named_user_asked : IsPaged named_user one_row
unfolding understood everything
named_user_asked = record { selects = refl; unlisted = refl; plain = (refl, refl); shows = λ schema base. refl }

pub named_user_returned : (old new : SqlState) (s : State) → Represents old.now s → (name : List ℕ) (rows : List Row)
    → Shown named_user.text (Text name ∷ []) old new rows → not (length rows == 0) ≡ has_user s.policy name
named_user_returned old new s was name rows h =
    let mine = λ (u : User). bytes_eq name u.id in
    returned_any named_user (Text name ∷ []) refl named_user_asked old new was.rows.schema (map user_row s.policy.users) was.rows.holds.usr rows h
    ∙ (any_map _ user_row mine (λ (u : User). and_true _ ∙ (equal_texts u.id name ∙ eq_back u.id name)) s.policy.users ∙ any_found mine s.policy.users)

-- ---- whether there is a user

abbrev pub any_user : Asked
any_user = record named_user { text = codes "SELECT id FROM usr LIMIT 1"; tests = [] }

pub any_user_asked : IsPaged any_user one_row
unfolding understood everything
any_user_asked = record { selects = refl; unlisted = refl; plain = (refl, refl); shows = λ schema base. refl }

some_user : (users : List User) → list_any (λ (r : Row). true) (map user_row users) ≡ is_some_user users
some_user [] = refl
some_user (u ∷ us) = refl

pub any_user_returned : (old new : SqlState) (s : State) → Represents old.now s → (rows : List Row)
    → Shown any_user.text [] old new rows → not (length rows == 0) ≡ has_users s.policy
any_user_returned old new s was rows h = returned_any any_user [] refl any_user_asked old new was.rows.schema
    (map user_row s.policy.users) was.rows.holds.usr rows h ∙ some_user s.policy.users
