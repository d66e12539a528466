-- What one edit makes of a state, or none, as the outcome of an operation.
use Rattle.std.proofs.Common.{◌≡◌, Bool, true, false, not, ◌&&◌, [], None, Result, Ok, Err, IfOk, refl, sym, ap, subst, ◌∙◌}
use Rattle.std.proofs.Common.{Vec, Global}
use Rattle.opc_terms.specs.declared.fault.Fault.{Fault}
use Rattle.opc_policy_members.specs.declared.policy.Policy.{Policy}
use Rattle.opc_terms.specs.declared.store_fault.StoreFault.{StoreFault}
use Rattle.opc_state.specs.declared.change.Edit.{Edit}
use Rattle.opc_state.specs.Changes.{all_edited, edited}
use Rattle.opc_state.specs.Invariants.{IsKeyed}
use Rattle.opc_state.specs.State.{State}
use Rattle.opc_machine.specs.declared.outcome.Outcome.{Outcome}
use Rattle.opc_machine.specs.declared.outcome.Outcome.TheVariants.{Done, Refused}
use Rattle.opc_machine.specs.Bootstrap.{mastered, with_rows_of}
use Rattle.opc_machine.specs.Effects.{IsOutcome}
use Rattle.opc_machine.specs.Outcome.{does}
use Rattle.opc_gate_admin.specs.Operations.{IsDoneBy, policy_outcome, state_outcome}

pub if_ok : {A E : Type 0} {P Q : A → Type 0} (r : Result A E) → ((x : A) → P x → Q x) → IfOk r P → IfOk r Q
if_ok (Ok x) f h = f x h
if_ok (Err e) f h = h

-- if something is given
pub given : {A E K : Type 0} (P : A → Type 0) (r : Result A E) → (K → IfOk r P) → IfOk r (λ x. K → P x)
given P (Ok x) f = f
given P (Err e) f = tt

-- an effect by one edit is what the state becomes by it
pub one_change : (s : State) (made : Result State Fault) (e : Edit) → made ≡ Ok (edited e s) → (edited e s ≡ s → ⊥)
    → (o : Outcome) → IsDoneBy e o → IsOutcome s (state_outcome made) o
one_change s made e makes changes (Done effect) is =
    let comes : all_edited effect.edits.items s ≡ edited e s = ap (λ es. all_edited es s) is.0 in
    record {
      makes =
          ap state_outcome makes
          ∙ ap (λ t. does t [] None) (sym comes)
          ∙ ap (λ ls. does (all_edited effect.edits.items s) ls None) (sym is.1)
          ∙ ap (λ r. does (all_edited effect.edits.items s) effect.lines r) (sym is.2);
      idle = λ same. absurd (changes (sym comes ∙ same));
    }
one_change s made e makes changes (Refused refusal) is = absurd is

-- and what the policy becomes
pub one_edit : (s : State) (made : Result Policy Fault) (p : Policy) (e : Edit) → made ≡ Ok p → edited e s ≡ record s { policy = p } → (edited e s ≡ s → ⊥)
    → (o : Outcome) → IsDoneBy e o → IsOutcome s (policy_outcome s made) o
one_edit s made p e makes becomes changes o is =
    subst (λ x. IsOutcome s x o) (ap (λ t. does t [] None) becomes ∙ ap (policy_outcome s) (sym makes)) (one_change s (Ok (edited e s)) e refl changes o is)

-- if nothing is to be done, an effect without edits is the outcome
pub left_alone : (s : State) (made : Result Policy Fault) → made ≡ Ok s.policy → (edits : Vec Edit Global)
    → edits.items ≡ [] → (r : Result Outcome StoreFault)
    → r ≡ Ok (Done (record { edits = edits; lines = []; rule = None })) → IfOk r (λ o. IsOutcome s (policy_outcome s made) o)
left_alone s made makes edits none r is =
    subst (λ x. IfOk x (λ o. IsOutcome s (policy_outcome s made) o)) (sym is)
    (record { makes = ap (policy_outcome s) makes ∙ ap (λ es. does (all_edited es s) [] None) (sym none); idle = λ same. none })

pub state_alone : (s : State) (made : Result State Fault) → made ≡ Ok s → (edits : Vec Edit Global) → edits.items ≡ []
    → (r : Result Outcome StoreFault)
    → r ≡ Ok (Done (record { edits = edits; lines = []; rule = None })) → IfOk r (λ o. IsOutcome s (state_outcome made) o)
state_alone s made makes edits none r is =
    subst (λ x. IfOk x (λ o. IsOutcome s (state_outcome made) o)) (sym is)
    (record { makes = ap state_outcome makes ∙ ap (λ es. does (all_edited es s) [] None) (sym none); idle = λ same. none })

pub state_refused : (s : State) (made : Result State Fault) (f : Fault) → made ≡ Err f → (r : Result Outcome StoreFault)
    → r ≡ Ok (Refused (record { fault = f; rule = None })) → IfOk r (λ o. IsOutcome s (state_outcome made) o)
state_refused s made f makes r is = subst (λ x. IfOk x (λ o. IsOutcome s (state_outcome made) o)) (sym is) (ap state_outcome makes)

-- no master is lost if the board stays
pub none_lost : (b : Bool) → (b && not b) ≡ false
none_lost true = refl
none_lost false = refl

policy_alone : (s : State) (made : Result Policy Fault) → state_outcome (with_rows_of s s.board made) ≡ policy_outcome s made
policy_alone s (Ok p) = ap (λ b. state_outcome (mastered b (record s { policy = p }))) (none_lost _)
policy_alone s (Err f) = refl

-- so what is the outcome of the policy alone is that of the state
pub to_state : (s : State) (made : Result Policy Fault) (r : Result Outcome StoreFault)
    → IfOk r (λ o. IsKeyed s → IsOutcome s (policy_outcome s made) o)
    → IfOk r (λ o. IsKeyed s → IsOutcome s (state_outcome (with_rows_of s s.board made)) o)
to_state s made r h = subst (λ x. IfOk r (λ o. IsKeyed s → IsOutcome s x o)) (sym (policy_alone s made)) h
