use Rattle.opc_policy_members.proofs.KeyOrder.{values_in_order, values_are_profiles}
use Rattle.opc_policy_members.proofs.profiles.Profiles.iter.Goals as goal

pub returns-clause-profiles : goal.returns-clause-profiles
returns-clause-profiles c = rw (← c.self.view_is) (values_are_profiles _ c.self.invariant c.values.ensures.ordered)

pub returns-clause-in_order : goal.returns-clause-in_order
returns-clause-in_order c = rw (← c.self.view_is) (values_in_order _ c.self.invariant c.values.ensures.ordered)
