use Rattle.std.proofs.Common.{◌≡◌, take}
use Rattle.opc_answers_diff.specs.Gains.{is_loss, with_those}
use Rattle.opc_answers_diff.proofs.gains.add_less.Given as goal

abbrev pub invariant-loop-change : goal.invariant-loop-change
invariant-loop-change l = l.ids.keys ≡ with_those is_loss (take l.change-index l.changes) l.fn.ids.keys
