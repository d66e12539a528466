use Rattle.std.proofs.Common.{◌≡◌, List, map, take, Ok, Result, IsTrue, false}
use Rattle.sqlite.specs.declared.error.Error.{Error}
use Rattle.sqlite.specs.Held.{state}
use Rattle.sqlite.specs.State.{HasCleanDisk}
use Rattle.opc_store_sql.specs.Steps.{Looks}
use Rattle.opc_policy_members.specs.declared.profile.Profile.{Profile}
use Rattle.opc_store_schema.specs.Represented.{definition_row}
use Rattle.opc_store_old_tables.specs.Old.{RepresentsOld}
use Rattle.opc_store_old_tables.specs.Read.{AreAmong, profile_puts}
use Rattle.opc_store_old_tables.proofs.profiles.profiles_in.Given as goal

abbrev pub invariant-loop-row : goal.invariant-loop-row
invariant-loop-row g l =
    let old = l.fn.conn in
    let now = l.conn in
    let ok : Result (Unit {0}) Error = Ok tt in
    (now.in_transaction ≡ false)
    × ((HasCleanDisk (state g.S.Store old) → IsTrue (state g.S.Store old).is_open) → Looks g.S.Store old now ok)
    × (HasCleanDisk (state g.S.Store now) → (version : _) → (s : _) → RepresentsOld version (state g.S.Store old).now s
    → (ps : List Profile) → AreAmong s.policy.profiles ps → l.rows ≡ map definition_row ps
    → RepresentsOld version (state g.S.Store now).now s × (l.puts.items ≡ take l.row-index (profile_puts ps)))
