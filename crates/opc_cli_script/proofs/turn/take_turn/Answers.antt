use Rattle.std.proofs.Common.{rules}
use Rattle.opc_cli_script.proofs.turn.take_turn.Goals.{in-Line+in_ok-turn-in-Line, in-NotUtf8+in_ok-turn-in-NotUtf8, in-LongLine+in_ok-turn-in-LongLine}
use Rattle.opc_cli_script.proofs.turn.take_turn.Goals as goal

pub returns-clause-turn : goal.returns-clause-turn
returns-clause-turn g c =
    elim c.match-branch-2.branch [
      | in-Line+in_ok-turn-in-Line w ↦ search rules
      | in-NotUtf8+in_ok-turn-in-NotUtf8 w ↦ search rules
      | in-LongLine+in_ok-turn-in-LongLine w ↦ search rules
    ]
