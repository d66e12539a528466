use Rattle.std.proofs.Common.{◌≡◌, ◌==◌, ◌||◌, false, length, not, sym, ap, ◌∙◌, rules}
use Rattle.opc_board.specs.Replies.{is_on}
use Rattle.opc_board.specs.Units.{is_holder}
use Rattle.opc_state.specs.Loads.{is_named}
use Rattle.opc_gate_admin.proofs.People.{some_filtered}
use Rattle.opc_gate_admin.proofs.members.is_in_use.Goals as goal

pub returns : goal.returns
returns g c = record {
  kept = search rules;
  answers = λ sure s represents.
      let one = c.in_ok-consoles.ensures.kept.sure sure in
      let still = c.in_ok-is_named.ensures.kept.same one s represents in
      let named : is_named s.policy c.args.id.now ≡ false = sym (c.in_ok-is_named.ensures.answers one s represents) ∙ c.if-branch.false in
      ap not (c.is_empty.ensures ∙ ap (λ rows. length rows == 0) (c.as_slice.ensures ∙ c.in_ok-consoles.ensures.answers sure s still))
      ∙ some_filtered (λ console. is_holder c.args.id.now console.user) s.board.consoles
      ∙ ap (λ b. b || is_on c.args.id.now s.board) (sym named);
}
