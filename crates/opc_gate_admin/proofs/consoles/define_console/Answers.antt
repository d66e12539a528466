use Rattle.std.proofs.Common.{◌≡◌, [], Some, None, sym, subst, IfOk, ◌∙◌, rules}
use Rattle.opc_board.specs.Invariants.{console_at}
use Rattle.opc_state.specs.declared.change.Edit.TheVariants as edit
use Rattle.opc_gate_admin.specs.Operations.{IsDoneBy}
use Rattle.opc_gate_admin.proofs.Done.{given, if_ok, one_change, state_alone, state_refused}
use Rattle.opc_gate_admin.proofs.Masters.{last_lost, new_one, new_one_changes, set_again, set_anew, set_changes}
use Rattle.opc_gate_admin.proofs.consoles.define_console.Goals as goal

pub returns-in-None : goal.returns-in-None
returns-in-None g c = record {
  kept = search rules;
  answers = λ sure s represents.
      let none : console_at s.board c.args.name ≡ None = sym (c.in_ok-stored.ensures.console.answers sure s represents) ∙ c.in-None.is in
      given _ _ (λ order. if_ok _ (one_change s _ _ (new_one s c.args.name c.args.auth c.args.mode none)
      (new_one_changes s c.args.name c.args.auth c.args.mode none))
      (subst (λ row. IfOk c.done_by.result (λ o. IsDoneBy (edit.PutConsole row) o)) c.new_console.ensures c.done_by.ensures));
}

pub returns-then-same_setting : goal.returns-then-same_setting
returns-then-same_setting g c = record {
  kept = search rules;
  answers = λ sure s represents.
      let at : console_at s.board c.args.name ≡ Some c.in-Some.stored = sym (c.in_ok-stored.ensures.console.answers sure s represents) ∙ c.in-Some.is in
      let none : c.new.result.items ≡ [] = cc in
      given _ _ (λ order. state_alone s _ (set_again s c.args.name c.args.auth c.args.mode c.in-Some.stored order at
      (sym c.same_setting.ensures ∙ c.if-same_setting.true)) c.new.result none _ c.done.ensures);
}

pub returns-then-branch : goal.returns-then-branch
returns-then-branch g c = record {
  kept = search rules;
  answers = λ sure s represents.
      let one = c.in_ok-loses_master.ensures.kept.sure sure in
      let still = c.in_ok-stored.ensures.console.kept.same one s represents in
      let at : console_at s.board c.args.name ≡ Some c.in-Some.stored = sym (c.in_ok-stored.ensures.console.answers one s represents) ∙ c.in-Some.is in
      given _ _ (λ order. state_refused s _ _
      (last_lost s c.args.name c.args.auth c.args.mode c.in-Some.stored order at
      (sym (c.in_ok-loses_master.ensures.answers sure s still order) ∙ c.if-branch.true)) _ c.refused.ensures);
}

pub returns : goal.returns
returns g c = record {
  kept = search rules;
  answers = λ sure s represents.
      let one = c.in_ok-loses_master.ensures.kept.sure sure in
      let still = c.in_ok-stored.ensures.console.kept.same one s represents in
      let at : console_at s.board c.args.name ≡ Some c.in-Some.stored = sym (c.in_ok-stored.ensures.console.answers one s represents) ∙ c.in-Some.is in
      given _ _ (λ order. if_ok _ (one_change s _ _
      (set_anew s c.args.name c.args.auth c.args.mode c.in-Some.stored order at
      (sym (c.in_ok-loses_master.ensures.answers sure s still order) ∙ c.if-branch.false))
      (set_changes s c.args.name c.args.auth c.args.mode c.in-Some.stored order at
      (sym c.same_setting.ensures ∙ c.if-same_setting.false))) c.done_by-2.ensures);
}
