-- When users are logged on and off.
use Rattle.std.proofs.Common.{◌≡◌, inl, inr, ℕ, true, false, List, [], Option, Some, None, Ok, refl, sym, ap, subst, ◌∙◌, rules, codes}
use Rattle.std.specs.Option.{is_none, is_some}
use Rattle.opc_terms.specs.declared.fault.Fault.TheVariants as fault
use Rattle.opc_terms.specs.declared.rule.Rule.{Rule}
use Rattle.opc_policy.specs.declared.ruling.Ruling.{Ruling}
use Rattle.opc_policy.specs.declared.ruling.Ruling.TheVariants.{Allowed, Denied}
use Rattle.opc_reader_commands.specs.declared.command.Command.{Command}
use Rattle.opc_reader_commands.specs.declared.command.Command.TheVariants as command
use Rattle.opc_reader.proofs.Exact.{reads_so}
use Rattle.opc_board.specs.declared.rows.ConsoleRow.{ConsoleRow}
use Rattle.opc_board.specs.Consoles.{logged_on, logged_off}
use Rattle.opc_board.specs.Invariants.{console_at}
use Rattle.opc_state.specs.State.{State}
use Rattle.opc_machine.specs.Inputs as input
use Rattle.opc_machine.specs.Outcome.{StateEffect, ◌>>=◌, does, found, refuse_if}
use Rattle.opc_machine.specs.Rulings.{logon_ruling}
use Rattle.opc_machine.specs.Commands.{console_for, command_in, command_or, need_of, typed, nobody_on, known_by, admit, logon, logoff, command_outcome}
use Rattle.opc_machine.specs.Machine.{answer_of, after, accounted, account_row, is_warned}
use Rattle.opc_machine_laws.specs.Laws.{LogsOnOnlyWhereAllowed, LogsOnWhereverAllowed, LogsOffOnlyWhereSomebodyIsOn, LogsOffWhereverSomebodyIsOn}
use Rattle.opc_machine.proofs.Inversion.{bind_ok, found_ok, refuse_if_ok, done_is, not_aborted, console_is}
use Rattle.opc_machine_laws.proofs.Acting.{either, console_back}
use Rattle.opc_machine_laws.proofs.Knowing.{known_back, known_is}

pub nobody_ok : (o : Option (List ℕ)) (u : Unit {0}) → nobody_on o ≡ Ok u → o ≡ None
nobody_ok None u h = refl
nobody_ok (Some user) u h = absurd (search (rules, h))

admit_ok : (r : Ruling) (rule : Rule) → admit r ≡ Ok rule → r ≡ Allowed rule
admit_ok (Allowed why) rule h = search (rules, h)
admit_ok (Denied why) rule h = absurd (search (rules, h))

somebody : (o : Option (List ℕ)) → is_none o ≡ false → is_some o ≡ true
somebody (Some user) h = refl
somebody None h = absurd (search (rules, h))

not_none : (o : Option (List ℕ)) → is_some o ≡ true → is_none o ≡ false
not_none (Some user) h = refl
not_none None h = absurd (search (rules, h))

pub on_only_where : LogsOnOnlyWhereAllowed
on_only_where s moment name text id password lines why new it_reads (inl left) = absurd (not_aborted lines why left.aborts)
on_only_where s moment name text id password lines why new it_reads (inr (inl full)) = absurd (not_aborted lines why (inr full.answers))
on_only_where s moment name text id password lines why new it_reads (inr (inr done)) =
    let d = done_is (command_outcome s name text) lines why done.answers in
    let a = bind_ok (console_for s name) (λ c. command_in text >>= λ k. typed s c k (need_of s.board k)) d.0 d.1 in
    let console : ConsoleRow = a.0 in
    let at = console_is s name console a.1 in
    let was_read : command_in text ≡ Ok (command.Logon id password) = ap command_or (reads_so text (command.Logon id password) it_reads) in
    let t : logon s console id.value password.value ≡ Ok d.0 = subst (λ x. (x >>= λ k. typed s console k (need_of s.board k)) ≡ Ok d.0) was_read a.2 in
    let n = bind_ok (nobody_on console.user)
    (λ _. found fault.BadLogon (known_by s id.value password.value) >>= λ user. admit
    (logon_ruling s console user) >>=
    λ rule. does (record s { board = logged_on console.name id.value s.board }) [] (Some rule)) d.0 t in
    let u = bind_ok (found fault.BadLogon (known_by s id.value password.value))
    (λ user. admit (logon_ruling s console user) >>= λ rule. does
    (record s { board = logged_on console.name id.value s.board }) [] (Some rule)) d.0 n.2 in
    let r = bind_ok (admit (logon_ruling s console u.0)) (λ rule. does (record s { board = logged_on console.name id.value s.board }) [] (Some rule)) d.0 u.2 in
    let reached : StateEffect = record { state = record s { board = logged_on console.name id.value s.board }; lines = []; rule = Some r.0 } in
    let comes : command_outcome s name text ≡ Ok reached = d.1 ∙ sym r.2 in
    let ends : new ≡ after s moment (input.Command name text) (Ok reached) = done.becomes ∙ ap (after s moment (input.Command name text)) comes in
    let row : State = accounted (account_row s moment (input.Command name text) (codes "WARN") (Some r.0)) reached.state in (
      console,
      u.0,
      r.0,
      record {
        heard = record { there = at.0; online = at.1; reads = it_reads };
        nobody = nobody_ok console.user n.0 n.1;
        known = known_is s id.value password.value u.0 (found_ok _ _ _ u.1);
        allowed = admit_ok _ _ r.1;
      },
      record {
        answered = done.answers ∙ ap answer_of comes;
        board = ap (λ x. x.board) ends ∙ either (is_warned (Some r.0)) (λ x. x.board) row reached.state refl;
        policy = ap (λ x. x.policy) ends ∙ either (is_warned (Some r.0)) (λ x. x.policy) row reached.state refl;
      },
    )

pub on_wherever : LogsOnWhereverAllowed
on_wherever s moment name text console id password user why answer new lets (inl left) = inl left.aborts
on_wherever s moment name text console id password user why answer new lets (inr (inl full)) = inl (inr full.answers)
on_wherever s moment name text console id password user why answer new lets (inr (inr done)) =
    let heard = lets.heard in
    let k : Command = command.Logon id password in
    let reached : StateEffect = record { state = record s { board = logged_on console.name id.value s.board }; lines = []; rule = Some why } in
    let of_console : command_outcome s name text ≡ (command_in text >>= λ k. typed s console k (need_of s.board k)) =
    ap (λ x. x >>= λ c. command_in text >>= λ k. typed s c k (need_of s.board k)) (console_back (console_at s.board name) console heard.there heard.online) in
    let of_line : (command_in text >>= λ k. typed s console k (need_of s.board k)) ≡ logon s console id.value password.value =
    ap (λ x. command_or x >>= λ k. typed s console k (need_of s.board k)) (reads_so text k heard.reads) in
    let of_nobody : logon s console id.value
    password.value ≡ (found fault.BadLogon (known_by s id.value password.value) >>= λ user. admit
    (logon_ruling s console user) >>=
    λ rule. does (record s { board = logged_on console.name id.value s.board }) [] (Some rule)) =
    ap (λ x. nobody_on x >>= λ _. found fault.BadLogon (known_by s id.value password.value) >>= λ user. admit
    (logon_ruling s console user) >>=
    λ rule. does (record s { board = logged_on console.name id.value s.board }) [] (Some rule)) lets.nobody in
    let of_user : (found fault.BadLogon (known_by s id.value password.value) >>= λ user. admit
    (logon_ruling s console user) >>=
    λ rule. does (record s { board = logged_on console.name id.value s.board }) [] (Some rule))
    ≡ (admit (logon_ruling s console user) >>= λ rule. does
    (record s { board = logged_on console.name id.value s.board }) [] (Some rule)) =
    ap (λ x. found fault.BadLogon x >>= λ user. admit (logon_ruling s console user) >>= λ rule. does
    (record s { board = logged_on console.name id.value s.board }) [] (Some rule))
    (known_back s id.value password.value user lets.known) in
    let of_ruling : (admit (logon_ruling s console user) >>= λ rule. does
    (record s { board = logged_on console.name id.value s.board }) [] (Some rule)) ≡ Ok reached =
    ap (λ x. admit x >>= λ rule. does (record s { board = logged_on console.name id.value s.board }) [] (Some rule)) lets.allowed in
    let comes : command_outcome s name text ≡ Ok reached = of_console ∙ of_line ∙ of_nobody ∙ of_user ∙ of_ruling in
    let ends : new ≡ after s moment (input.Command name text) (Ok reached) = done.becomes ∙ ap (after s moment (input.Command name text)) comes in
    let row : State = accounted (account_row s moment (input.Command name text) (codes "WARN") (Some why)) reached.state in
    inr (record {
      answered = done.answers ∙ ap answer_of comes;
      board = ap (λ x. x.board) ends ∙ either (is_warned (Some why)) (λ x. x.board) row reached.state refl;
      policy = ap (λ x. x.policy) ends ∙ either (is_warned (Some why)) (λ x. x.policy) row reached.state refl;
    })

pub off_only_where : LogsOffOnlyWhereSomebodyIsOn
off_only_where s moment name text lines why new it_reads (inl left) = absurd (not_aborted lines why left.aborts)
off_only_where s moment name text lines why new it_reads (inr (inl full)) = absurd (not_aborted lines why (inr full.answers))
off_only_where s moment name text lines why new it_reads (inr (inr done)) =
    let d = done_is (command_outcome s name text) lines why done.answers in
    let a = bind_ok (console_for s name) (λ c. command_in text >>= λ k. typed s c k (need_of s.board k)) d.0 d.1 in
    let console : ConsoleRow = a.0 in
    let at = console_is s name console a.1 in
    let was_read : command_in text ≡ Ok command.Logoff = ap command_or (reads_so text command.Logoff it_reads) in
    let t : logoff s console ≡ Ok d.0 = subst (λ x. (x >>= λ k. typed s console k (need_of s.board k)) ≡ Ok d.0) was_read a.2 in
    let n = bind_ok (refuse_if fault.NotOn None (is_none console.user)) (λ _. does (record s { board = logged_off console.name s.board }) [] None) d.0 t in
    let reached : StateEffect = record { state = record s { board = logged_off console.name s.board }; lines = []; rule = None } in
    let comes : command_outcome s name text ≡ Ok reached = d.1 ∙ sym n.2 in
    let ends : new ≡ reached.state = done.becomes ∙ ap (after s moment (input.Command name text)) comes in (
      console,
      record { there = at.0; online = at.1; reads = it_reads },
      somebody console.user (refuse_if_ok _ _ _ _ n.1),
      record { answered = done.answers ∙ ap answer_of comes; board = ap (λ x. x.board) ends; policy = ap (λ x. x.policy) ends },
    )

pub off_wherever : LogsOffWhereverSomebodyIsOn
off_wherever s moment name text console answer new heard on (inl left) = inl left.aborts
off_wherever s moment name text console answer new heard on (inr (inl full)) = inl (inr full.answers)
off_wherever s moment name text console answer new heard on (inr (inr done)) =
    let reached : StateEffect = record { state = record s { board = logged_off console.name s.board }; lines = []; rule = None } in
    let of_console : command_outcome s name text ≡ (command_in text >>= λ k. typed s console k (need_of s.board k)) =
    ap (λ x. x >>= λ c. command_in text >>= λ k. typed s c k (need_of s.board k)) (console_back (console_at s.board name) console heard.there heard.online) in
    let of_line : (command_in text >>= λ k. typed s console k (need_of s.board k)) ≡ logoff s console =
    ap (λ x. command_or x >>= λ k. typed s console k (need_of s.board k)) (reads_so text command.Logoff heard.reads) in
    let of_user : logoff s console ≡ Ok reached =
    ap (λ b. refuse_if fault.NotOn None b >>= λ _. does (record s { board = logged_off console.name s.board }) []
    None) (not_none console.user on) in
    let comes : command_outcome s name text ≡ Ok reached = of_console ∙ of_line ∙ of_user in
    let ends : new ≡ reached.state = done.becomes ∙ ap (after s moment (input.Command name text)) comes in
    inr (record { answered = done.answers ∙ ap answer_of comes; board = ap (λ x. x.board) ends; policy = ap (λ x. x.policy) ends })
