use Rattle.std.proofs.Common.{arith}
use Rattle.std.proofs.lemmas.Result.{on_ok_weaker}
use Rattle.sqlite.specs.Held.{state}
use Rattle.sqlite.specs.State.{HasCleanDisk}
use Rattle.opc_store_migration.specs.Between.{lasting_rows}
use Rattle.opc_store_migration.proofs.Remade.{remade}
use Rattle.opc_store_migration.proofs.recreate_tables.recreate_tables.Goals as goal

pub returns-clause-remade : goal.returns-clause-remade
returns-clause-remade g c clean =
    let early : HasCleanDisk (state g.S.Store c.drop_last_tables.new.tx.conn.now) = omega (arith, c.create_last_tables.ensures.stays.survives.clean) in
    on_ok_weaker c.create_last_tables.result
    (λ made version had has. remade had _
    (made (lasting_rows had) (c.in_ok-drop_last_tables.ensures.dropped early version had has)))
    (c.create_last_tables.ensures.made clean)
