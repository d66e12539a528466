use Rattle.std.proofs.Common.{◌∙◌, sym}
use Rattle.opc_policy_deciders.proofs.Refused.{both_stand, far_apart}
use Rattle.opc_policy_deciders.proofs.candidates.may_both.Goals as goal

pub returns-then-other_stands : goal.returns-then-other_stands
returns-then-other_stands c = λ one two patterns others are be stands too refused.
    both_stand c.args.pattern.now c.args.other.now one two patterns others are be (sym stands ∙ c.if-stands.true)
    (sym too ∙ c.if-other_stands.true) (sym c.eq.ensures ∙ c.if-eq.false)

pub returns : goal.returns
returns c = λ one two patterns others are be stands too refused.
    far_apart c.args.pattern.now c.args.other.now one two patterns others are be (c.may_meet.ensures refused)
