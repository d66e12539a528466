-- A request is handled between a load before it and one after it.
use Rattle.std.proofs.Common.{inl, inr, ℕ}
use Rattle.opc_state.specs.Changes.{IsKept}
use Rattle.opc_state.specs.Meaning.{Meaning}
use Rattle.opc_state.specs.State.{State}
use Rattle.opc_machine.specs.declared.request.Answer.{Answer}
use Rattle.opc_machine.specs.Inputs.{Input, input_of}
use Rattle.opc_gate.specs.Handling.{IsAcknowledged, IsHandled}
use Rattle.opc_cli_log.specs.RunLines.{LoggedRequest}
use Rattle.opc_cli_log.specs.RunLogs.{IsAccountedHandling, IsKnownAt}

module _ {T : Type 0} (m : Meaning T) (old met mid new : T) (before : IsKept m old met) (after : IsKept m mid new) where
  acknowledged : (s next : State) → IsAcknowledged m met mid s next → IsAcknowledged m old new s next
  acknowledged s next (inl alone) = inl (λ left l. alone left (after.crash left l))
  acknowledged s next (inr same) = inr (same.0, λ left l. before.crash left (same.1 left (after.crash left l)))

  pub handled : m.is_sure new → (s : State) (moment : ℕ) (r : Input) (answer : Answer) → IsHandled m met mid s moment r answer
      → IsHandled m old new s moment r answer
  handled sure s moment r answer h = record {
    next = h.next;
    step = h.step;
    represented = after.same sure h.next h.represented;
    crash = λ left l. elim (h.crash left (after.crash left l)) [
      | inl was ↦ inl (before.crash left was)
      | inr made ↦ inr made
    ];
    idle = λ same left l. before.crash left (h.idle same left (after.crash left l));
    acknowledged = λ answered. acknowledged s h.next (h.acknowledged answered);
  }

  -- with what is known of its states
  pub accounted : m.is_sure new → (s : State) (entry : LoggedRequest)
      → (h : IsHandled m met mid s entry.moment (input_of entry.request) entry.answer) → IsKnownAt s h.next entry
      → IsAccountedHandling m old new s entry
  unfolding handled
  accounted sure s entry h known = record {
    handled = handled sure s entry.moment (input_of entry.request) entry.answer h;
    known = known;
  }
