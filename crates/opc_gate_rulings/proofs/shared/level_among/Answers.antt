use Rattle.std.proofs.Common.{◌≡◌, ◌<◌, Option, length, arith, rules}
use Rattle.opc_names.specs.declared.level.Level.{Level}
use Rattle.opc_gate_rulings.proofs.Together.{known_there}
use Rattle.opc_gate_rulings.proofs.shared.level_among.Goals as goal

pub returns-in-Some-clause-level : goal.returns-in-Some-clause-level
returns-in-Some-clause-level g c sure s was p right here =
    let known : Option Level = c.index.result.now in
    let there : c.args.place < length c.args.levels.now.items = omega arith in
    known_there s c.args.user.now c.args.console.now c.args.candidates.now c.args.levels.now.items c.args.place p
    c.in-Some.level known right here there (search rules) (search rules)
