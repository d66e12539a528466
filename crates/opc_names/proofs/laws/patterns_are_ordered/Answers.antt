use Rattle.opc_names.proofs.Orders.{before_itself, before_trans, one_is_before}
use Rattle.opc_names.proofs.laws.patterns_are_ordered.Goals as goal

pub returns : goal.returns
returns c = record { irreflexive = before_itself; transitive = before_trans; total = one_is_before }
