-- What was done to tables, and then a load.
use Rattle.std.proofs.Common.{◌≡◌, ◌≢◌, ◌⊎◌, ◌∙◌, inl, inr, ℕ, List, Result, Err, Ok, ap, sym}
use Rattle.std.specs.Prelude.{IfErr}
use Rattle.opc_terms.specs.declared.fault.Fault.{Fault}
use Rattle.opc_terms.specs.declared.fault.Fault.TheVariants.{NoMemory, Store}
use Rattle.opc_policy_members.specs.declared.row.Row.{Row}
use Rattle.opc_state.specs.Changes.{IsKept}
use Rattle.opc_state.specs.Meaning.{Meaning}
use Rattle.opc_state.specs.State.{State}
use Rattle.opc_machine.specs.declared.request.Answer.{Answer}
use Rattle.opc_machine.specs.Bootstrap.{bootstrapped}
use Rattle.opc_machine.specs.Inputs.{Input}
use Rattle.opc_gate.specs.Handling.{IsAcknowledged, IsHandled, LeavesAsBefore}
use Rattle.opc_gate.specs.RowEdits.{HaveNothingNew}
use Rattle.opc_cli_failures.specs.declared.failure.Failure.{Failure}
use Rattle.opc_cli_failures.specs.declared.status.Status.{Status}
use Rattle.opc_cli_program.specs.Imports.{IsEnded, IsFirstPolicy}
use Rattle.opc_cli_program.specs.Refusals.{TellsWho}

module _ {T : Type 0} (m : Meaning T) (old met new : T) (kept : IsKept m met new) where
  acknowledged : (s next : State) → IsAcknowledged m old met s next → IsAcknowledged m old new s next
  acknowledged s next (inl alone) = inl (λ left l. alone left (kept.crash left l))
  acknowledged s next (inr same) = inr (same.0, λ left l. same.1 left (kept.crash left l))

  pub handled : m.is_sure new → (s : State) (moment : ℕ) (r : Input) (answer : Answer)
      → IsHandled m old met s moment r answer → IsHandled m old new s moment r answer
  handled sure s moment r answer h = record {
    next = h.next;
    step = h.step;
    represented = kept.same sure h.next h.represented;
    crash = λ left l. h.crash left (kept.crash left l);
    idle = λ is left l. h.idle is left (kept.crash left l);
    acknowledged = λ answered. acknowledged s h.next (h.acknowledged answered);
  }

  -- Rows that were not taken.
  pub not_first : (rows : List Row) (fault : Fault) (failure : Failure) → failure.fault ≡ fault
      → (m.is_sure met → (s : State) → m.represents old s → fault ≢ NoMemory → fault ≢ Store
      → bootstrapped rows s ≡ Err fault)
      → (m.is_sure met → (s : State) → m.represents old s → m.represents met s)
      → (m.is_sure met → (s : State) → m.represents old s → (left : State) → m.may_leave met left
      → m.may_leave old left ⊎ (bootstrapped rows s ≡ Ok left))
      → (m.is_sure met → (s : State) → m.represents old s → HaveNothingNew rows s → LeavesAsBefore m old met)
      → IsFirstPolicy m old new (Err failure) rows
  not_first rows fault failure is refused unchanged crash idle = record {
    taken = λ sure s was. record {
      done = tt;
      refused = λ memory store. refused (kept.sure sure) s was (λ e. memory (is ∙ e)) (λ e. store (is ∙ e)) ∙ ap Err (sym is);
      unchanged = kept.same sure s (unchanged (kept.sure sure) s was);
      crash = λ left l. crash (kept.sure sure) s was left (kept.crash left l);
      idle = λ nothing left l. idle (kept.sure sure) s was nothing left (kept.crash left l);
    };
    ends = tt;
  }

-- nothing was done
pub untouched : {T : Type 0} (m : Meaning T) (t : T) → IsKept m t t
untouched m t = record { sure = λ is. is; same = λ is s h. h; crash = λ s h. h }

-- what fails is not refused
pub not_special_end : (s : State) (r : Input) (end : Result Status Failure) → IsEnded end → IfErr end (TellsWho s r)
not_special_end s r (Ok status) ended = tt
not_special_end s r (Err failure) (inl memory) = λ special. absurd (cc)
not_special_end s r (Err failure) (inr store) = λ special. absurd (cc)
