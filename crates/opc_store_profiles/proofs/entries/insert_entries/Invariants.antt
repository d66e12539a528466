use Rattle.std.proofs.Common.{◌≡◌, ◌++◌, map, take, Ok, Result}
use Rattle.std.specs.List.{AllByRecursion}
use Rattle.sqlite.specs.declared.error.Error.{Error}
use Rattle.sqlite.specs.Held.{state}
use Rattle.sqlite.specs.State.{HasCleanDisk}
use Rattle.opc_store_sql.specs.Steps.{Stays}
use Rattle.opc_store_schema.specs.Contents.{Contents}
use Rattle.opc_store_schema.specs.Made.{IsMade}
use Rattle.opc_store_schema.specs.Represented.{entry_row}
use Rattle.opc_store_schema.specs.State.{IsNamed}
use Rattle.opc_store_profiles.proofs.entries.insert_entries.Given as goal

abbrev pub invariant-loop-entry : goal.invariant-loop-entry
invariant-loop-entry g l =
    let old = l.fn.tx.conn.now in
    let now = l.tx.conn.now in
    let ok : Result (Unit {0}) Error = Ok tt in
    (l.tx.conn.ghost_name ≡ l.fn.tx.conn.ghost_name)
    × Stays g.S.Store old now ok
    × AllByRecursion IsNamed (take l.entry-index l.entries)
    × (HasCleanDisk (state g.S.Store now) → (c : Contents) → IsMade c (state g.S.Store old).now
    → IsMade (record c { entries = map (entry_row l.class l.pattern) (take l.entry-index l.entries) ++ c.entries })
    (state g.S.Store now).now)
