-- What follows about each test if a request is done, or refused.
use Rattle.std.proofs.Common.{◌≡◌, inl, inr, ℕ, Bool, true, false, not, List, Option, Some, None, Result, Ok, Err, refl, ap, subst, rules}
use Rattle.opc_terms.specs.declared.fault.Fault.{Fault}
use Rattle.opc_terms.specs.declared.rule.Rule.{Rule}
use Rattle.opc_policy.specs.declared.ruling.Ruling.{Ruling}
use Rattle.opc_policy.specs.declared.ruling.Ruling.TheVariants.{Allowed, Denied}
use Rattle.opc_reader_commands.specs.declared.command.Command.{Command}
use Rattle.opc_reader.specs.declared.line.ReadFault.{ReadFault}
use Rattle.opc_board.specs.declared.line.Line.{Line}
use Rattle.opc_board.specs.declared.rows.ConsoleRow.{ConsoleRow}
use Rattle.opc_board.specs.Invariants.{console_at}
use Rattle.opc_board.specs.Outcome.{Done as BoardDone, BoardOutcome}
use Rattle.opc_terms.specs.declared.fault.Fault.TheVariants as fault
use Rattle.opc_state.specs.State.{State}
use Rattle.opc_machine.specs.declared.request.Answer.TheVariants.{Done, Refused}
use Rattle.opc_machine.specs.declared.outcome.Refusal.{Refusal}
use Rattle.opc_machine.specs.Outcome.{StateEffect, StateOutcome, ◌>>=◌, found, refuse_if}
use Rattle.opc_machine.specs.Commands.{console_for, command_or, allowed, acted}
use Rattle.opc_machine.specs.Machine.{answer_of, IsAborted}

pub bind_ok : {A B : Type 0} (x : Result A Refusal) (f : A → Result B Refusal) (d : B) → (x >>= f) ≡ Ok d → (y : A) × (x ≡ Ok y) × (f y ≡ Ok d)
bind_ok (Ok y) f d h = (y, refl, h)
bind_ok (Err e) f d h = absurd (search (rules, h))

pub found_ok : {A : Type 0} (fault : Fault) (o : Option A) (x : A) → found fault o ≡ Ok x → o ≡ Some x
found_ok fault (Some y) x h = search (rules, h)
found_ok fault None x h = absurd (search (rules, h))

pub allowed_ok : (r : Ruling) (rule : Rule) → allowed r ≡ Ok rule → r ≡ Allowed rule
allowed_ok (Allowed why) rule h = search (rules, h)
allowed_ok (Denied why) rule h = absurd (search (rules, h))

pub acted_ok : (rule : Option Rule) (r : BoardOutcome) (a : BoardDone) → acted rule r ≡ Ok a → r ≡ Ok a
acted_ok rule (Ok b) a h = search (rules, h)
acted_ok rule (Err f) a h = absurd (search (rules, h))

pub done_is : (o : StateOutcome) (lines : List Line) (why : Option Rule) → Done lines why ≡ answer_of o → (effect : StateEffect)
    × (o ≡ Ok effect) × (lines ≡ effect.lines) × (why ≡ effect.rule)
done_is (Ok effect) lines why h = (effect, refl, search (rules, h), search (rules, h))
done_is (Err refusal) lines why h = absurd (search (rules, h))

pub refused_is : (o : StateOutcome) (f : Fault) (why : Option Rule) → Refused f why ≡ answer_of o → o ≡ Err (record { fault = f; rule = why })
refused_is (Ok effect) f why h = absurd (search (rules, h))
refused_is (Err d) f why h =
    let at : f ≡ d.fault = search (rules, h) in
    let by : why ≡ d.rule = search (rules, h) in
    rw (at, by) refl

pub refuse_if_ok : (fault : Fault) (why : Option Rule) (b : Bool) (u : Unit {0}) → refuse_if fault why b ≡ Ok u → b ≡ false
refuse_if_ok fault why true u h = absurd (search (rules, h))
refuse_if_ok fault why false u h = refl

pub ok_is : {A : Type 0} (x y : A) → (let o : Result A Refusal = Ok x in o) ≡ Ok y → x ≡ y
ok_is x y h = search (rules, h)

pub is_on : (b : Bool) → not b ≡ false → b ≡ true
is_on true h = refl
is_on false h = absurd (search (rules, h))

pub not_aborted : (lines : List Line) (why : Option Rule) → IsAborted (Done lines why) → ⊥
not_aborted lines why (inl h) = search (rules, h)
not_aborted lines why (inr h) = search (rules, h)

-- the console that is named is there, and online
pub console_is : (s : State) (name : List ℕ) (c : ConsoleRow) → console_for s name ≡ Ok c → (console_at s.board name ≡ Some c) × (c.online ≡ true)
console_is s name c h = go (console_at s.board name) h
  where
    online : (d : ConsoleRow) → (refuse_if fault.ConsoleOffline None (not d.online) >>= λ _. Ok d) ≡ Ok c
        → (let o : Option ConsoleRow = Some d in o ≡ Some c) × (c.online ≡ true)
    online d k =
        let u = bind_ok (refuse_if fault.ConsoleOffline None (not d.online)) (λ _. Ok d) c k in
        let same : d ≡ c = ok_is d c u.2 in
        (ap Some same, subst (λ x. x.online ≡ true) same (is_on d.online (refuse_if_ok _ _ _ _ u.1)))

    go : (o : Option ConsoleRow)
        → (found fault.NoConsole o >>= λ d. refuse_if fault.ConsoleOffline None (not d.online) >>= λ _. Ok d) ≡ Ok c
        → (o ≡ Some c) × (c.online ≡ true)
    go (Some d) k = online d k
    go None k = absurd (search (rules, k))

pub command_is : (r : Result Command ReadFault) (c : Command) → command_or r ≡ Ok c → r ≡ Ok c
command_is (Ok d) c h = search (rules, h)
command_is (Err f) c h = absurd (search (rules, h))
