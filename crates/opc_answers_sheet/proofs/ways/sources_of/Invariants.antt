use Rattle.std.proofs.Common.{◌≡◌, ◌∷◌, Some, map, take}
use Rattle.opc_policy_sources.specs.declared.sources.LevelSource.TheVariants as source
use Rattle.opc_answers_sheet.specs.Ways.{group_source}
use Rattle.opc_answers_sheet.proofs.ways.sources_of.Given as goal

abbrev pub invariant-loop-group : goal.invariant-loop-group
invariant-loop-group l = l.sources.items ≡ Some source.Own ∷ map group_source (take l.group-index l.groups)
