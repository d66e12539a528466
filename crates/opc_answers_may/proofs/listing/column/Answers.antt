use Rattle.opc_board.proofs.Padding.{if_ok, padded_left}
use Rattle.opc_answers_may.proofs.listing.column.Goals as goal

pub returns : goal.returns
returns c =
    if_ok _ _ (λ text written. rw (c.laid_out.ensures, padded_left 7 _ c.requires.ascii c.requires.short) at written)
    c.format.result c.format.ensures.ok
