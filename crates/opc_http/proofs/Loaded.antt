-- A request that is handled after a load, or before one.
use Rattle.std.proofs.Common.{◌≡◌, ◌⊎◌, ℕ, inl, inr}
use Rattle.opc_state.specs.Changes.{IsKept}
use Rattle.opc_state.specs.Meaning.{Meaning}
use Rattle.opc_state.specs.State.{State}
use Rattle.opc_machine.specs.Inputs.{Input}
use Rattle.opc_machine.specs.Machine.{after, outcome}
use Rattle.opc_machine.specs.declared.request.Answer.{Answer}
use Rattle.opc_gate.specs.Handling.{IsAcknowledged, IsHandled}

module _ {T : Type 0} (m : Meaning T) (old mid new : T) (kept : IsKept m old mid) where
  may_leave : (s made left : State) → m.may_leave mid left ⊎ (left ≡ made) → m.may_leave old left ⊎ (left ≡ made)
  may_leave s made left (inl h) = inl (kept.crash left h)
  may_leave s made left (inr h) = inr h

  acknowledged : (s next : State) → IsAcknowledged m mid new s next → IsAcknowledged m old new s next
  acknowledged s next (inl alone) = inl alone
  acknowledged s next (inr (same, before)) = inr (same, λ left h. kept.crash left (before left h))

  pub handled_after : (s : State) (moment : ℕ) (r : Input) (answer : Answer) → IsHandled m mid new s moment r answer → IsHandled m old new s moment r answer
  handled_after s moment r answer h = record {
    next = h.next;
    step = h.step;
    represented = h.represented;
    crash = λ left l. may_leave s (after s moment r (outcome s r)) left (h.crash left l);
    idle = λ same left l. kept.crash left (h.idle same left l);
    acknowledged = λ answered. acknowledged s h.next (h.acknowledged answered);
  }

module _ {T : Type 0} (m : Meaning T) (old mid new : T) (kept : IsKept m mid new) where
  still : (s next : State) → IsAcknowledged m old mid s next → IsAcknowledged m old new s next
  still s next (inl alone) = inl (λ left l. alone left (kept.crash left l))
  still s next (inr (same, before)) = inr (same, λ left l. before left (kept.crash left l))

  pub handled_before : m.is_sure new → (s : State) (moment : ℕ) (r : Input) (answer : Answer) → IsHandled m old mid s moment r answer
      → IsHandled m old new s moment r answer
  handled_before sure s moment r answer h = record {
    next = h.next;
    step = h.step;
    represented = kept.same sure h.next h.represented;
    crash = λ left l. h.crash left (kept.crash left l);
    idle = λ same left l. h.idle same left (kept.crash left l);
    acknowledged = λ answered. still s h.next (h.acknowledged answered);
  }
