use Rattle.opc_cli_program.proofs.Answering.{not_flushed}
use Rattle.opc_cli_program.proofs.streams.write_flushed.Goals as goal

pub returns-clause-cut : goal.returns-clause-cut
returns-clause-cut g c =
    not_flushed c.flush-flushed.result _ _ _ c.args.text.now c.in_ok-write_text.ensures.text c.flush-flushed.ensures.bytes
