use Rattle.std.proofs.Common.{arith, subst, sym}
use Rattle.std.specs.Io.KnownBytes.{Appends}
use Rattle.std.proofs.KnownBytes.{Appends-nil}
use Rattle.opc_cli_questions.proofs.Parts.{counted_more, none_shown, printed_more}
use Rattle.opc_cli_questions.proofs.who_printing.print_raised.Goals as goal

pub loop-console-init : goal.loop-console-init
loop-console-init g c = (
  subst (Appends (g.W.Write.contents c.args.output.now) (g.W.Write.contents c.args.output.now))
      (sym (none_shown c.args.form c.args.allowed)) (Appends-nil (g.W.Write.contents c.args.output.now)),
  c.of_users-share.ensures,
)

pub loop-console-preserved : goal.loop-console-preserved
loop-console-preserved g c = (
  printed_more c.args.form c.args.allowed c.args.who.now c.deref-console-items.result.now c.loop-console.console-index
      c.console-item.result (omega arith) c.console-item.is _ _ _ c.loop-console.invariant.0 c.in_ok-there.ensures.text,
  counted_more c.args.form c.args.allowed c.args.who.now c.deref-console-items.result.now c.loop-console.console-index
      c.console-item.result (omega arith) c.console-item.is _ c.in_ok-there.there _ c.loop-console.invariant.1
      c.in_ok-there.ensures.share c.in_ok-share.ensures.sum,
)
