use Rattle.opc_board.proofs.Padding.{if_ok, padded_left}
use Rattle.opc_board.proofs.line.task_columns.Goals as goal

pub returns : goal.returns
returns c = if_ok _ _ (λ text written. rw (c.laid_out.ensures, padded_left 8 _ c.requires.name c.requires.name_short) at
    written) c.format.result c.format.ensures.ok
