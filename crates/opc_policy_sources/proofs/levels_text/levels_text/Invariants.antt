use Rattle.std.proofs.Common.{◌≡◌, take}
use Rattle.std.specs.Prelude.{string_bytes}
use Rattle.opc_policy_sources.specs.Levels.{levels_text}
use Rattle.opc_policy_sources.proofs.levels_text.levels_text.Given as goal

abbrev pub invariant-loop-level : goal.invariant-loop-level
invariant-loop-level l = string_bytes l.text ≡ levels_text (take l.level-index l.levels)
