use Rattle.opc_board.proofs.Padding.{if_ok, padded_left}
use Rattle.opc_answers.proofs.text.console_columns.Goals as goal

pub returns : goal.returns
returns c = if_ok _ _
    (λ text written. rw (
      c.laid_out.ensures,
      c.laid_out-2.ensures,
      c.laid_out-3.ensures,
      padded_left 7 _ c.requires.verdict c.requires.verdict_short,
      padded_left 7 _ c.requires.name c.requires.name_short,
      padded_left 7 _ c.requires.actor c.requires.actor_short,
    ) at
    written) c.format.result c.format.ensures.ok
