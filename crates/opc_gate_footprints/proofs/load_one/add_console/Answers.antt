use Rattle.std.proofs.Common.{Some, sym}
use Rattle.opc_gate_footprints.proofs.Growing.{on_ok, some_there, with_console}
use Rattle.opc_gate_footprints.proofs.load_one.add_console.Goals as goal

pub returns-clause-footprint : goal.returns-clause-footprint
returns-clause-footprint c = on_ok c.add.result
    (λ makes s at. with_console s c.args.part.now c.args.console.now.name (Some c.args.console.now) c.add.new.rows
    (sym at) makes) c.add.ensures

pub returns-clause-there : goal.returns-clause-there
returns-clause-there c = on_ok c.add.result (λ makes. some_there c.args.console.now c.args.part.now.consoles c.add.new.rows makes) c.add.ensures
