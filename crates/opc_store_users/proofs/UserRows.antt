-- The table of users, and what its statements make of a state.
use Rattle.std.proofs.Common.{◌≡◌, ℕ, List, [], ◌∷◌, true, false, Option, Some, None, not, codes, Ok, refl, ap, subst, ◌∙◌}
use Rattle.std.specs.Borrow.{Bor}
use Rattle.std.specs.Option.{option_copied}
use Rattle.std.proofs.lemmas.Map.Text.{is_eq-slice_cmp}
use Rattle.sqlite.specs.declared.types.Value.{Value}
use Rattle.sqlite.specs.declared.types.Value.TheVariants.{Text, Blob}
use Rattle.sqlite.specs.Held.{Held, state}
use Rattle.sqlite.specs.Listing.{understood}
use Rattle.sqlite.specs.State.{State as SqlState, Executes}
use Rattle.sqlite.specs.Values as values
use Rattle.sqlite_keyed.proofs.ListLemmas.{filter_same}
use Rattle.sqlite_schema.specs.Names.{same_name}
use Rattle.sqlite_tied.specs.Compute.{everything}
use Rattle.sqlite_trees.specs.declared.store.Store.{Ghosts}
use Rattle.sqlite_value.specs.Keys.{joined}
use Rattle.opc_store_sql.specs.Steps.{Puts}
use Rattle.opc_store_sql.proofs.Keyed.{Keyed, IsKeyed, AreUnderstood, is_idle, removes, puts}
use Rattle.opc_store_sql.proofs.Steps.{cast_int}
use Rattle.opc_store_sql.proofs.Values.{equal_texts, and_true}
use Rattle.opc_policy_members.specs.declared.user.User.{User}
use Rattle.opc_policy_members.specs.Members.{user_cmp, with_user}
use Rattle.opc_state.specs.State.{State}
use Rattle.opc_state.specs.Changes.{with_users}
use Rattle.opc_state.specs.Members.{without_user}
use Rattle.opc_store_schema.specs.Tables.{the_schema}
use Rattle.opc_store_schema.specs.Placed.{usr_at}
use Rattle.opc_store_schema.specs.Represented.{Represents, Tabulates, or_null, user_row}
use Rattle.opc_store_schema.proofs.Keys.{user_total}
use Rattle.opc_store_schema.proofs.Ordered.{with_user_ordered, without_user_ordered}
use Rattle.opc_store_schema.proofs.OtherTables.{with_usr}

abbrev pub users : Keyed User
users = record {
  schema = the_schema;
  place = 13;
  table = usr_at;
  width = 1;
  insert = codes "INSERT INTO usr VALUES (?1, ?2, ?3, ?4, ?5, ?6)";
  update = codes "UPDATE usr SET id = ?1, special = ?2, auditor = ?3, revoked = ?4, digest = ?5, restricted = ?6 WHERE id = ?1";
  delete = codes "DELETE FROM usr WHERE id = ?1";
  row = user_row;
  cmp = user_cmp;
}

texts : AreUnderstood users
unfolding understood everything
texts = record { insert_is = refl; update_is = refl; delete_is = refl; insert_plain = (refl, refl); update_plain = (refl, refl); delete_plain = (refl, refl) }

idle : (is_idle the_schema usr_at.tree true ≡ true) × (is_idle the_schema usr_at.tree false ≡ true)
unfolding same_name joined
idle = (refl, refl)

keyed : IsKeyed users
keyed = record {
  texts = texts;
  found = refl;
  simple = record { uncounted = refl; stampless = refl };
  idle = idle;
  stores = λ x. (refl, (cast_int _, (cast_int _, (cast_int _, (refl, (cast_int _, tt))))));
  values = λ x rest. refl;
  gives = λ x. refl;
  tested = λ x rest. refl;
  total = user_total;
  picks = λ x y. and_true _ ∙ equal_texts y.id x.id;
}

abbrev digest_value : Option (Bor (List ℕ)) → Value
digest_value digest = values.bound_value (values.or_null (λ (b : Bor (List ℕ)). Blob b.now) digest)

pub digest_is : (d : Option (Bor (List ℕ))) → digest_value d ≡ or_null (option_copied d)
digest_is None = refl
digest_is (Some b) = refl

pub user_put : {S : Type 0} (g : Ghosts S) (old new : Held S) (s : State) → Represents (state g old).now s
    → (user : User) → Puts g users.update users.insert (user_row user) old new
    → Represents (state g new).now (with_users (with_user user s.policy.users) s)
user_put g old new s was user h =
    let it = puts g users keyed old new was.rows.schema s.policy.users was.ordered.users was.rows.holds.usr user h in
    record { ordered = with_user_ordered s was.ordered user; rows = with_usr _ _ _ was.rows it.spares _ it.rows }

pub user_removed : (old new : SqlState) (count : ℕ) (s : State) → Represents old.now s → (id : List ℕ)
    → Executes users.delete (Text id ∷ []) old new (Ok count)
    → Represents new.now (with_users (without_user id s.policy.users) s)
user_removed old new count s was id h =
    let user : User = record { id = id; special = false; auditor = false; revoked = false; digest = None; restricted = false } in
    let it = removes users keyed user old new count was.rows.schema s.policy.users was.ordered.users was.rows.holds.usr h in
    record {
      ordered = without_user_ordered s was.ordered id;
      rows = subst (λ (l : List User). Tabulates new.now (with_users l s))
          (filter_same _ _ (λ x. ap not (is_eq-slice_cmp x.id id)) s.policy.users)
          (with_usr _ _ _ was.rows it.spares _ it.rows);
    }
