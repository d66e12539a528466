use Rattle.std.proofs.Common.{Err, refl, arith}
use Rattle.sqlite.specs.Held.{state}
use Rattle.sqlite.specs.State.{HasCleanDisk}
use Rattle.opc_store_sql.proofs.Sets.{pairs_rise}
use Rattle.opc_policy_members.specs.Access.{entry_cmp}
use Rattle.opc_store_schema.proofs.Ordered.{definition_ordered}
use Rattle.opc_store_profiles.proofs.ProfileRows.{profile_comes}
use Rattle.std.proofs.lemmas.Result.{err_from_is_err_and}
use Rattle.sqlite.specs.declared.error.Error.{Error}
use Rattle.opc_store_sql.proofs.StepsInOrder.{stays_then}
use Rattle.opc_store_schema.proofs.Kept.{stays_off}
use Rattle.opc_store_profiles.proofs.profiles.put_profile.Goals as goal

pub returns-in_ok-insert_entries-clause-done : goal.returns-in_ok-insert_entries-clause-done
returns-in_ok-insert_entries-clause-done g c clean s was =
    let profile = c.args.profile.now in
    let second : HasCleanDisk (state g.S.Store c.insert_profile.new.tx.conn.now) = omega (arith, c.in_ok-insert_entries.ensures.stays.survives.clean) in
    let first : HasCleanDisk (state g.S.Store c.update_profile.new.tx.conn.now) = omega (arith, c.in_ok-insert_profile.ensures.stays.survives.clean) in
    let missed = c.in_ok-found.ensures.missed first c.if-found-eq0.true s was in
    let added = c.in_ok-insert_profile.ensures.added second s missed.1 in
    let valid = c.in_ok-found.ensures.valid in
    let rows = rw c.as_slice-entries.ensures.value at (c.in_ok-insert_entries.ensures.added clean _ added) in
    record {
      ordered = definition_ordered s was.ordered profile valid (
        pairs_rise entry_cmp profile.entries c.as_slice-entries.ensures.in_order,
        rw c.as_slice-entries.ensures.value at c.in_ok-insert_entries.ensures.named,
      );
      rows = profile_comes _ s profile c.keys_order_patterns.ensures.differ valid was.ordered.patterns was.ordered.profiles missed.0 rows;
    }

pub returns-in_ok-insert_entries-clause-stays : goal.returns-in_ok-insert_entries-clause-stays
returns-in_ok-insert_entries-clause-stays g c =
    let added = stays_then g.S.Store _ _ Error Error _ tt _ c.update_profile.new.tx.conn.now
    c.insert_profile.new.tx.conn.now c.in_ok-found.ensures.stays c.in_ok-insert_profile.ensures.stays in
    stays_then g.S.Store _ _ Error Error tt tt _ c.insert_profile.new.tx.conn.now c.insert_entries.new.tx.conn.now added c.in_ok-insert_entries.ensures.stays

pub returns-in_err-insert_profile-clause-stays : goal.returns-in_err-insert_profile-clause-stays
returns-in_err-insert_profile-clause-stays g c =
    let err = err_from_is_err_and c.from_residual-in_err-insert_profile.result c.from_residual-in_err-insert_profile.ensures.1 in
    rw err.1 (stays_off g.S.Store _ _ (Err err.0) refl _ c.update_profile.new.tx.conn.now
    c.insert_profile.new.tx.conn.now c.in_ok-found.ensures.stays c.in_err-insert_profile.ensures.stays)

pub returns-in_err-insert_entries-clause-stays : goal.returns-in_err-insert_entries-clause-stays
returns-in_err-insert_entries-clause-stays g c =
    let err = err_from_is_err_and c.from_residual-in_err-insert_entries.result c.from_residual-in_err-insert_entries.ensures.1 in
    let added = stays_then g.S.Store _ _ Error Error _ tt _ c.update_profile.new.tx.conn.now
    c.insert_profile.new.tx.conn.now c.in_ok-found.ensures.stays c.in_ok-insert_profile.ensures.stays in
    rw err.1 (stays_off g.S.Store _ _ (Err err.0) refl _ c.insert_profile.new.tx.conn.now
    c.insert_entries.new.tx.conn.now added c.in_err-insert_entries.ensures.stays)

pub returns-else-found-eq0-clause-done : goal.returns-else-found-eq0-clause-done
returns-else-found-eq0-clause-done g c clean = c.in_ok-found.ensures.set clean c.if-found-eq0.false
