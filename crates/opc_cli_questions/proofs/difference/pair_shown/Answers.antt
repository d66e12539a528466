use Rattle.std.proofs.Common.{ℕ, List, [], ap, inl}
use Rattle.opc_cli_questions.specs.Differences.{Listed}
use Rattle.opc_cli_questions.proofs.Differences.{no_change}
use Rattle.opc_cli_questions.proofs.difference.pair_shown.Goals as goal

pub returns : goal.returns
returns c = (
  [],
  inl (
    c.in_ok-may_change.ensures c.if-may_change.false,
    ap (λ (t : List ℕ). let it : Listed = (t, []) in it) c.new.ensures.bytes,
  ),
  no_change c.args.gains.now,
)
