use Rattle.std.proofs.Common.{◌∙◌}
use Rattle.opc_check.proofs.Marks.{with_mark, without_mark}
use Rattle.opc_check.proofs.unread.without_mark.Goals as goal

pub returns-in-Some : goal.returns-in-Some
returns-in-Some c = let h = c.in-Some.ensures.cases in h.2 ∙ with_mark _ _ h.1

pub returns-in-None : goal.returns-in-None
returns-in-None c = without_mark _ c.in-None.ensures.cases
