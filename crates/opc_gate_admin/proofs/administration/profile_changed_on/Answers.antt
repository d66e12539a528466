use Rattle.std.proofs.Common.{IfOk, subst, sym, rules}
use Rattle.opc_policy_members.specs.declared.profile.Profile.{Profile}
use Rattle.opc_state.specs.Invariants.{IsKeyed}
use Rattle.opc_machine.specs.Administration.{changed, policy_changed}
use Rattle.opc_machine.specs.Effects.{IsOutcome}
use Rattle.opc_machine.specs.declared.operation.Operation.{Operation}
use Rattle.opc_machine.specs.declared.operation.Operation.TheVariants as operation
use Rattle.opc_gate_admin.specs.Operations.{policy_outcome, state_outcome}
use Rattle.opc_gate_admin.proofs.Done.{to_state}
use Rattle.opc_gate_admin.proofs.administration.profile_changed_on.Goals as goal

pub returns-in-RAlter : goal.returns-in-RAlter
returns-in-RAlter g c = record {
  kept = search rules;
  answers = λ sure s represents.
      let comes =
      subst (λ (p : Profile). IfOk c.ralter.result
      (λ o. IsKeyed s
      → IsOutcome s
      (policy_outcome s (policy_changed s.board (operation.RAlter p.class p.pattern p.owner p.uacc p.warning)
      s.policy)) o))
      c.definition-profile-in-RAlter.ensures (c.ralter.ensures.answers sure s represents) in
      subst (λ (op : Operation). IfOk c.ralter.result (λ o. IsKeyed s → IsOutcome s (state_outcome (changed s op)) o))
      (sym c.in-RAlter.is) (to_state s _ _ comes);
}
