use Rattle.std.proofs.Common.{◌≡◌, map, take}
use Rattle.serde_json.specs.View.{view}
use Rattle.opc_answers.specs.WhyJson.{covering_value}
use Rattle.opc_answers.proofs.why_json.coverings_value.Given as goal

abbrev pub invariant-loop-level : goal.invariant-loop-level
invariant-loop-level l = map view l.items.items ≡ map covering_value (take l.level-index l.levels)
