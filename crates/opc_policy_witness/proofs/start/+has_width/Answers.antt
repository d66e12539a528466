use Rattle.std.proofs.Common.{arith, ◌∙◌}
use Rattle.std.proofs.lemmas.List.{take_rest}
use Rattle.opc_policy_witness.proofs.Starting.{width_behind}
use Rattle.opc_policy_witness.proofs.start.+has_width.Goals as goal

pub returns : goal.returns
returns t c =
    (rw take_rest at c.has_width.ensures)
    ∙ width_behind c.args.qualifier.now c.args.length 0 c.in-len1-up.len_at_least c.if-token-eq-STAR.false
    (omega (arith, c.if-length-eq0.false))
