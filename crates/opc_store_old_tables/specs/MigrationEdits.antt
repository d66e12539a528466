-- The upserts that bring a state's policy and its batches into empty tables.
use Rattle.std.specs.Prelude.{◌≡◌}
use Rattle.opc_state.specs.State.{State}
use Rattle.opc_store_old_tables.specs.declared.edits.MigrationEdits.{MigrationEdits}
use Rattle.opc_store_old_tables.specs.Read.{by_text, user_puts, connect_puts, profile_puts, batch_puts}

pub record AreMigrationEditsOf (s : State) (puts : MigrationEdits) : Type 0 where
  pub users : puts.users.items ≡ user_puts s.policy.users
  pub connects : puts.connects.items ≡ connect_puts s.policy.connects
  pub profiles : puts.profiles.items ≡ profile_puts (by_text s.policy.profiles)
  pub batches : puts.batches.items ≡ batch_puts s.batches
