use Rattle.std.proofs.Common.{◌≡◌, map, take}
use Rattle.opc_cli_commands.specs.VerbRows.{row_of}
use Rattle.opc_cli_commands.proofs.verbs.verbs_in.Given as goal

abbrev pub invariant-loop-row : goal.invariant-loop-row
invariant-loop-row l = map (λ verb. verb.now) l.verbs.items ≡ map (λ row. row.full) (map row_of (take l.row-index l.rows))
