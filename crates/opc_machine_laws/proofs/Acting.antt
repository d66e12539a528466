-- When a command acts.
use Rattle.std.proofs.Common.{◌≡◌, inl, inr, Bool, true, false, not, if◌then◌else◌, Option, Some, None, Ok, filter, refl, sym, ap, subst, ◌∙◌, rules, codes}
use Rattle.std.specs.List.{Contains}
use Rattle.opc_policy.proofs.MostSpecific.{to_filter, of_filter}
use Rattle.opc_terms.specs.declared.fault.Fault.TheVariants as fault
use Rattle.opc_reader.proofs.Exact.{reads_so}
use Rattle.opc_board.specs.declared.rows.ConsoleRow.{ConsoleRow}
use Rattle.opc_board.specs.Effect.{effect}
use Rattle.opc_board.specs.Invariants.{console_at}
use Rattle.opc_state.specs.State.{State}
use Rattle.opc_machine.specs.Inputs as input
use Rattle.opc_machine.specs.Outcome.{StateEffect, ◌>>=◌, does, found, refuse_if}
use Rattle.opc_machine.specs.Rulings.{ruling, shown}
use Rattle.opc_machine.specs.Commands.{console_for, command_in, command_or, allowed, acted, need_of, typed, board_command, command_outcome}
use Rattle.opc_machine.specs.Machine.{answer_of, after, accounted, account_row, is_warned}
use Rattle.opc_machine_laws.specs.Laws.{ActsOnlyWhereAllowed, ActsWhereverAllowed, ListsExactlyWhatMayBeShown}
use Rattle.opc_machine.proofs.Inversion.{bind_ok, allowed_ok, acted_ok, done_is, not_aborted, console_is}

-- in each field of the state it is the same whether the request is accounted or not
pub either : {B : Type 0} (b : Bool) (f : State → B) (x y : State) → f x ≡ f y → f (if b then x else y) ≡ f y
either true f x y h = h
either false f x y h = refl

pub only_where : ActsOnlyWhereAllowed
only_where s moment name text command need lines why new it_reads needs (inl left) = absurd (not_aborted lines why left.aborts)
only_where s moment name text command need lines why new it_reads needs (inr (inl full)) = absurd (not_aborted lines why (inr full.answers))
only_where s moment name text command need lines why new it_reads needs (inr (inr done)) =
    let d = done_is (command_outcome s name text) lines why done.answers in
    let a = bind_ok (console_for s name) (λ c. command_in text >>= λ k. typed s c k (need_of s.board k)) d.0 d.1 in
    let console : ConsoleRow = a.0 in
    let at = console_is s name console a.1 in
    let was_read : command_in text ≡ Ok command = ap command_or (reads_so text command it_reads) in
    let t : typed s console command (need_of s.board command) ≡ Ok d.0 =
    subst (λ x. (x >>= λ k. typed s console k (need_of s.board k)) ≡ Ok d.0) was_read a.2 in
    let b : board_command s console command need ≡ Ok d.0 = subst (λ x. typed s console command x ≡ Ok d.0) needs t in
    let r = bind_ok (allowed (ruling s console need))
    (λ rule. acted (Some rule) (effect s.board command console.name) >>= λ act. does
    (record s { board = act.board }) (filter (shown s console) act.lines) (Some rule)) d.0 b in
    let m = bind_ok (acted (Some r.0) (effect s.board command console.name))
    (λ act. does (record s { board = act.board }) (filter (shown s console) act.lines) (Some r.0)) d.0 r.2 in
    let reached : StateEffect = record { state = record s { board = m.0.board }; lines = filter (shown s console) m.0.lines; rule = Some r.0 } in
    let comes : command_outcome s name text ≡ Ok reached = d.1 ∙ sym m.2 in
    let ends : new ≡ after s moment (input.Command name text) (Ok reached) = done.becomes ∙ ap (after s moment (input.Command name text)) comes in
    let row : State = accounted (account_row s moment (input.Command name text) (codes "WARN") (Some r.0)) reached.state in (
      console,
      r.0,
      record {
        heard = record { there = at.0; online = at.1; reads = it_reads };
        need = need;
        needs = needs;
        allowed = allowed_ok _ _ r.1;
      },
      record {
        act = m.0;
        makes = acted_ok _ _ _ m.1;
        answered = done.answers ∙ ap answer_of comes;
        board = ap (λ x. x.board) ends ∙ either (is_warned (Some r.0)) (λ x. x.board) row reached.state refl;
        policy = ap (λ x. x.policy) ends ∙ either (is_warned (Some r.0)) (λ x. x.policy) row reached.state refl;
      },
    )

pub lists_exactly : ListsExactlyWhatMayBeShown
lists_exactly s console command why lines rule new acts line =
    let is : lines ≡ filter (shown s console) acts.act.lines = search (rules, acts.answered) in (
      (λ h. of_filter (shown s console) acts.act.lines line (subst (λ l. Contains l line) is h)),
      (λ h. subst (λ l. Contains l line) (sym is) (to_filter (shown s console) acts.act.lines line h.0 h.1)),
    )

-- the console that is named, if it is there and online
pub console_back : (o : Option ConsoleRow) (c : ConsoleRow) → o ≡ Some c → c.online ≡ true
    → (found fault.NoConsole o >>= λ d. refuse_if fault.ConsoleOffline None (not d.online) >>= λ _. Ok d) ≡ Ok c
console_back o c there online =
    ap (λ x. found fault.NoConsole x >>= λ d. refuse_if fault.ConsoleOffline None (not d.online) >>= λ _. Ok d) there
    ∙ ap (λ b. refuse_if fault.ConsoleOffline None (not b) >>= λ _. Ok c) online

pub wherever : ActsWhereverAllowed
wherever s moment name text console command why act answer new allows makes (inl left) = inl left.aborts
wherever s moment name text console command why act answer new allows makes (inr (inl full)) = inl (inr full.answers)
wherever s moment name text console command why act answer new allows makes (inr (inr done)) =
    let heard = allows.heard in
    let reached : StateEffect = record { state = record s { board = act.board }; lines = filter (shown s console) act.lines; rule = Some why } in
    let of_console : command_outcome s name text ≡ (command_in text >>= λ k. typed s console k (need_of s.board k)) =
    ap (λ x. x >>= λ c. command_in text >>= λ k. typed s c k (need_of s.board k)) (console_back (console_at s.board name) console heard.there heard.online) in
    let of_line : (command_in text >>= λ k. typed s console k (need_of s.board k)) ≡ typed s console command (need_of s.board command) =
    ap (λ x. command_or x >>= λ k. typed s console k (need_of s.board k)) (reads_so text command heard.reads) in
    let of_need : typed s console command (need_of s.board command) ≡ board_command s console command allows.need = ap (typed s console command) allows.needs in
    let of_ruling : board_command s console command
    allows.need ≡ (acted (Some why) (effect s.board command console.name) >>= λ a. does
    (record s { board = a.board }) (filter (shown s console) a.lines) (Some why)) =
    ap (λ x. allowed x >>= λ rule. acted (Some rule) (effect s.board command console.name) >>= λ a. does
    (record s { board = a.board }) (filter (shown s console) a.lines) (Some rule)) allows.allowed in
    let of_board : (acted (Some why) (effect s.board command console.name) >>= λ a. does (record s { board = a.board })
    (filter (shown s console) a.lines) (Some why)) ≡ Ok reached =
    ap (λ x. acted (Some why) x >>= λ a. does (record s { board = a.board }) (filter (shown s console) a.lines) (Some why)) makes in
    let comes : command_outcome s name text ≡ Ok reached = of_console ∙ of_line ∙ of_need ∙ of_ruling ∙ of_board in
    let ends : new ≡ after s moment (input.Command name text) (Ok reached) = done.becomes ∙ ap (after s moment (input.Command name text)) comes in
    let row : State = accounted (account_row s moment (input.Command name text) (codes "WARN") (Some why)) reached.state in
    inr (record {
      act = act;
      makes = makes;
      answered = done.answers ∙ ap answer_of comes;
      board = ap (λ x. x.board) ends ∙ either (is_warned (Some why)) (λ x. x.board) row reached.state refl;
      policy = ap (λ x. x.policy) ends ∙ either (is_warned (Some why)) (λ x. x.policy) row reached.state refl;
    })
