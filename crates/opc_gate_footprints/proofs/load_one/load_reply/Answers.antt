use Rattle.std.proofs.Common.{rules}
use Rattle.opc_gate_footprints.proofs.Growing.{on_ok, with_reply}
use Rattle.opc_gate_footprints.proofs.load_one.load_reply.Goals as goal

pub returns : goal.returns
returns g c = record {
  kept = search rules;
  answers = λ sure s represents. on_ok c.add.result
      (with_reply s c.args.part.now c.args.id c.in_ok-reply.reply c.add.new.rows
      (c.in_ok-reply.ensures.answers sure s represents)) c.add.ensures;
}
