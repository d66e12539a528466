use Rattle.std.proofs.Common.{[], arith}
use Rattle.opc_policy_witness.specs.Witness.{IsPlaced, LiesIn}
use Rattle.opc_policy_witness.proofs.Placing.{if_mapped, none_last, none_size, placed_last}
use Rattle.opc_policy_witness.proofs.witness.at_end.Goals as goal

pub returns-then-size-eq0-clause-found : goal.returns-then-size-eq0-clause-found
returns-then-size-eq0-clause-found c =
    let pieces = c.args.pieces.now in
    let include = c.args.include.now in
    let exclude = c.args.exclude.now in
    if_mapped c.among.result (LiesIn pieces include exclude) (IsPlaced pieces [] include exclude c.args.size)
    (λ r h. placed_last pieces include exclude [] c.args.size r h.0 (omega arith) c.if-size-eq0.true h.1 h.2) c.among.ensures.found

pub returns-then-size-eq0-clause-none : goal.returns-then-size-eq0-clause-none
returns-then-size-eq0-clause-none c = λ e.
    none_last c.args.pieces.now c.args.include.now c.args.exclude.now [] c.args.size (omega arith) (c.among.ensures.none e)

pub returns-clause-none : goal.returns-clause-none
returns-clause-none c = λ e.
    none_size c.args.pieces.now c.args.include.now c.args.exclude.now [] c.args.size (omega arith) c.if-size-eq0.false
