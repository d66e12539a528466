-- What commands and events leave, and that an online console with AUTH MASTER stays whatever the request.
use Rattle.std.proofs.Common.{◌≡◌, ◌⊎◌, inl, inr, ℕ, List, Option, Some, None, Result, Ok, refl, sym, ap, subst, ◌∙◌, rules}
use Rattle.opc_terms.specs.declared.fault.Fault.{Fault}
use Rattle.opc_terms.specs.declared.need.Need.{Need}
use Rattle.opc_terms.specs.declared.rule.Rule.{Rule}
use Rattle.opc_reader_commands.specs.declared.command.Command.{Command}
use Rattle.opc_reader_commands.specs.declared.command.Command.TheVariants as command
use Rattle.opc_reader_commands.specs.declared.command.Operand.{Operand}
use Rattle.opc_reader.specs.declared.line.ReadFault.{ReadFault}
use Rattle.opc_reader.specs.Lines.{Reads}
use Rattle.opc_reader.proofs.Exact.{reads_so}
use Rattle.opc_board.specs.declared.board.BoardRows.{BoardRows}
use Rattle.opc_board.specs.declared.event.Event.{Event}
use Rattle.opc_board.specs.declared.line.Line.{Line}
use Rattle.opc_board.specs.declared.rows.ConsoleRow.{ConsoleRow}
use Rattle.opc_board.specs.Consoles.{at_console}
use Rattle.opc_board.specs.Effect.{effect, event_effect}
use Rattle.opc_board.specs.Invariants.{console_at, has_master}
use Rattle.opc_board.specs.Outcome.{Done as BoardDone, BoardOutcome}
use Rattle.opc_state.specs.State.{State}
use Rattle.opc_machine.specs.declared.request.Answer.TheVariants.{Done, Refused}
use Rattle.opc_machine.specs.Inputs.{Input}
use Rattle.opc_machine.specs.Inputs as input
use Rattle.opc_machine.specs.Commands.{need_of}
use Rattle.opc_machine.specs.Machine.{Step, after, outcome}
use Rattle.opc_machine.proofs.Inversion.{refused_is}
use Rattle.opc_machine_laws.specs.ChangingLaws.{IsKeptAgain, IsTakenWhole}
use Rattle.opc_machine_laws.specs.EffectLaws.{CommandsDoWhatTheySay, EventsDoWhatTheySay, HasDone}
use Rattle.opc_machine_laws.specs.Laws.{IsSession}
use Rattle.opc_machine_laws.specs.LeavingLaws.{StepsKeepAMaster}
use Rattle.opc_machine_laws.specs.TakingLaws.{KeepsMaster}
use Rattle.opc_machine_laws.proofs.Acting.{only_where}
use Rattle.opc_machine_laws.proofs.Boards.{IfActs}
use Rattle.opc_machine_laws.proofs.Changing.{account_only, administers_only, imports_only, profiles_exactly}
use Rattle.opc_machine_laws.proofs.Doing.{Does, Happens, StaysMastered, acts, happens, unseen_masters}
use Rattle.opc_machine_laws.proofs.AtNames.{at_becomes, named}
use Rattle.opc_machine_laws.proofs.Hearing.{only_heard}
use Rattle.opc_machine_laws.proofs.Leaving.{events_only}
use Rattle.opc_machine_laws.proofs.Logging.{off_only_where, on_only_where}
use Rattle.opc_machine_laws.proofs.Taking.{operations_keep_a_master, rows_in_turn}

-- what the board makes is of this kind
made : (P : BoardRows → Type 0) (o : BoardOutcome) (act : BoardDone) → o ≡ Ok act → IfActs P o → P act.board
made P o act is h = subst (IfActs P) is h

one_command : (text : List ℕ) (k other : Command) → Reads text k → Reads text other → other ≡ k
one_command text k other it_reads also =
    let same : ◌≡◌ {A = Result Command ReadFault} (Ok other) (Ok k) = sym (reads_so text other also) ∙ reads_so text k it_reads in
    search (rules, same)

-- both statements about a board
abbrev Both : List ℕ → Command → BoardRows → BoardRows → Type 0
Both name k old new = HasDone name k old new × StaysMastered old new

module _ (s : State) (moment : ℕ) (name text : List ℕ) (k : Command) (lines : List Line) (why : Option Rule)
    (new : State) (it_reads : Reads text k) (step : Step s moment (input.Command name text) (Done lines why) new) where
  its_name : (console : ConsoleRow) → console_at s.board name ≡ Some console → console.name ≡ name
  its_name console there = named (λ (d : ConsoleRow). d.name) s.board.consoles name console there

  by_logon : (id password : Operand (List ℕ)) → k ≡ command.Logon id password → Both name k s.board new.board
  by_logon id password is =
      let on = on_only_where s moment name text id password lines why new (subst (Reads text) is it_reads) step in
      let f = λ (c : ConsoleRow). record c { user = Some id.value } in
      let does : Both name (command.Logon id password) s.board (at_console name f s.board) = (
        at_becomes name f _ s.board on.0 on.3.heard.there refl (on.3.nobody, refl),
        unseen_masters name f s.board (λ c. refl),
      ) in
      let same : at_console name f s.board ≡ new.board = ap (λ n. at_console n f s.board) (sym (its_name on.0 on.3.heard.there)) ∙ sym on.4.board in
      subst (λ c. Both name c s.board new.board) (sym is) (subst (Both name (command.Logon id password) s.board) same does)

  by_logoff : k ≡ command.Logoff → Both name k s.board new.board
  by_logoff is =
      let off = off_only_where s moment name text lines why new (subst (Reads text) is it_reads) step in
      let f = λ (c : ConsoleRow). record c { user = None } in
      let does : Both name command.Logoff s.board (at_console name f s.board) =
      (at_becomes name f _ s.board off.0 off.1.there refl (off.2, refl), unseen_masters name f s.board (λ c. refl))
      in
      let same : at_console name f s.board ≡ new.board = ap (λ n. at_console n f s.board) (sym (its_name off.0 off.1.there)) ∙ sym off.3.board in
      subst (λ c. Both name c s.board new.board) (sym is) (subst (Both name command.Logoff s.board) same does)

  by_need : (need : Need) → need_of s.board k ≡ Some need → Both name k s.board new.board
  by_need need needs =
      let acted = only_where s moment name text k need lines why new it_reads needs step in
      let at : acted.0.name ≡ name = its_name acted.0 acted.2.heard.there in
      let there : console_at s.board acted.0.name ≡ Some acted.0 = subst (λ n. console_at s.board n ≡ Some acted.0) (sym at) acted.2.heard.there in
      let does : Does acted.0.name s.board acted.0 there k acted.3.act.board =
      made (Does acted.0.name s.board acted.0 there k) (effect s.board k acted.0.name) acted.3.act acted.3.makes
      (acts acted.0.name s.board acted.0 there k need needs) in
      subst (λ n. Both n k s.board new.board) at (subst (Both acted.0.name k s.board) (sym acted.3.board) does)

  pub does_both : Both name k s.board new.board
  does_both =
      let heard = only_heard s moment name text lines why new step in
      let same : heard.1 ≡ k = one_command text k heard.1 it_reads heard.2.reads in
      go heard.1 same heard.3
    where
      go : (other : Command) → other ≡ k → IsSession other ⊎ ((need : Need) × (need_of s.board other ≡ Some need)) → Both name k s.board new.board
      go other same (inl (inl session)) = by_logon session.0 session.1 (sym same ∙ session.2)
      go other same (inl (inr off)) = by_logoff (sym same ∙ off)
      go other same (inr needs) = by_need needs.0 (ap (need_of s.board) (sym same) ∙ needs.1)

pub commands_do : CommandsDoWhatTheySay
commands_do s moment name text k lines why new it_reads step = (does_both s moment name text k lines why new it_reads step).0

module _ (s : State) (moment : ℕ) (e : Event) (lines : List Line) (why : Option Rule) (new : State)
    (step : Step s moment (input.Event e) (Done lines why) new) where
  pub happens_both : Happens s.board e new.board
  happens_both =
      let event = events_only s moment e lines why new step in
      subst (Happens s.board e) (sym (ap (λ (t : State). t.board) event.1.becomes))
      (made (Happens s.board e) (event_effect s.board e) event.0 event.1.makes (happens s.board e))

pub events_do : EventsDoWhatTheySay
events_do s moment e lines why new step = (happens_both s moment e lines why new step).0

-- masters

same_board : (s new : State) → new.board ≡ s.board → KeepsMaster s new
same_board s new same was = ap (λ (b : BoardRows). has_master b.consoles) same ∙ was

done_keeps : (s : State) (moment : ℕ) (r : Input) (lines : List Line) (why : Option Rule) (new : State)
    → Step s moment r (Done lines why) new → KeepsMaster s new
done_keeps s moment (input.Command name text) lines why new step =
    let heard = only_heard s moment name text lines why new step in
    (does_both s moment name text heard.1 lines why new heard.2.reads step).1
done_keeps s moment (input.Admin name o) lines why new step = operations_keep_a_master s o new (administers_only s moment name o lines why new step).3
done_keeps s moment (input.ListProfiles name class) lines why new step =
    same_board s new (ap (λ (t : State). t.board) (profiles_exactly s moment name class lines why new step).2.same)
done_keeps s moment (input.ListAccount name from count) lines why new step =
    same_board s new (ap (λ (t : State). t.board) (account_only s moment name from count lines why new step).4)
done_keeps s moment (input.Import name batch rows) lines why new step = go (imports_only s moment name batch rows lines why new step).3
  where
    go : IsKeptAgain s batch rows lines new ⊎ IsTakenWhole s batch rows lines new → KeepsMaster s new
    go (inl kept) = same_board s new (ap (λ (t : State). t.board) kept.same)
    go (inr taken) = λ was. ap (λ (t : State). has_master t.board.consoles) taken.becomes ∙ ((rows_in_turn rows s taken.next).0 taken.taken).master was
done_keeps s moment (input.Event e) lines why new step = (happens_both s moment e lines why new step).1

refused_keeps : (s : State) (moment : ℕ) (r : Input) (f : Fault) (why : Option Rule) (new : State) → Step s moment r (Refused f why) new → new.board ≡ s.board
refused_keeps s moment r f why new (inl left) = ap (λ (t : State). t.board) left.same
refused_keeps s moment r f why new (inr (inl full)) = ap (λ (t : State). t.board) full.same
refused_keeps s moment r f why new (inr (inr done)) =
    ap (λ (t : State). t.board) (done.becomes ∙ ap (after s moment r) (refused_is (outcome s r) f why done.answers))

pub steps_keep_a_master : StepsKeepAMaster
steps_keep_a_master s moment r (Done lines why) new step = done_keeps s moment r lines why new step
steps_keep_a_master s moment r (Refused f why) new step = same_board s new (refused_keeps s moment r f why new step)
