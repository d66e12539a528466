use Rattle.std.proofs.Common.{◌≡◌, None, Some, ap, subst, sym, ◌∙◌, rules}
use Rattle.opc_board.specs.Invariants.{unit_kind}
use Rattle.opc_table.specs.Table.{need}
use Rattle.opc_machine.specs.Commands.{need_of}
use Rattle.opc_gate_footprints.specs.Loading.{IsUnitOf}
use Rattle.opc_gate_commands.proofs.Sessions.{needs_no_session}
use Rattle.opc_gate_commands.proofs.Units.{kind_is, unit_is}
use Rattle.opc_gate_commands.proofs.Allowed.{if_ok}
use Rattle.opc_gate_commands.proofs.command.typed.Goals as goal

pub board_command-requires : goal.board_command-requires
board_command-requires g c = needs_no_session _ _ c.in-Some.need (sym c.need.ensures ∙ c.in-Some.is)

pub returns-in-Some : goal.returns-in-Some
returns-in-Some g c = record {
  kept = search rules;
  answers = λ sure s represents.
      let before = c.board_command.ensures.kept.sure sure in
      let named = c.in_ok-unit.ensures.answers before s represents in
      let kind = c.unit_kind.ensures ∙ ap unit_kind named ∙ kind_is s.board c.args.command.now in
      let needs : need_of s.board c.args.command.now ≡ Some c.in-Some.need =
      ap (need c.args.command.now) (sym kind) ∙ sym c.need.ensures ∙ c.in-Some.is in
      rw needs
      (if_ok c.board_command.result (λ o comes at. comes at (subst (IsUnitOf s) (sym named) (unit_is s c.args.command.now)))
      (c.board_command.ensures.answers sure s (c.in_ok-unit.ensures.kept.same before s represents)));
}

pub returns-in-None : goal.returns-in-None
returns-in-None g c = record {
  kept = search rules;
  answers = λ sure s represents.
      let before = c.without_need.ensures.kept.sure sure in
      let named = c.in_ok-unit.ensures.answers before s represents in
      let kind = c.unit_kind.ensures ∙ ap unit_kind named ∙ kind_is s.board c.args.command.now in
      let needs : need_of s.board c.args.command.now ≡ None =
      ap (need c.args.command.now) (sym kind) ∙ sym c.need.ensures ∙ c.in-None.is in
      rw needs (c.without_need.ensures.answers sure s (c.in_ok-unit.ensures.kept.same before s represents));
}
