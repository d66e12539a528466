use Rattle.std.specs.Option.{option_copied}
use Rattle.opc_policy_sources.proofs.Searched.{at_its_place, nowhere}
use Rattle.opc_policy_sources.proofs.entries.level_among.Goals as goal

pub returns-in-Ok : goal.returns-in-Ok
returns-in-Ok c = at_its_place (option_copied c.args.when) c.args.id.now c.args.entries.now c.in-Ok.at _ c.in-Ok.ensures

pub returns-in-Err : goal.returns-in-Err
returns-in-Err c = nowhere (option_copied c.args.when) c.args.id.now c.args.entries.now c.in-Err.ensures
