use Rattle.std.proofs.Common.{not, ap, ◌∙◌, rules}
use Rattle.std.specs.List.{list_any}
use Rattle.opc_board.specs.Invariants.{is}
use Rattle.opc_gate_admin.proofs.Masters.{others}
use Rattle.opc_gate_admin.proofs.consoles.has_other_master.Goals as goal

pub returns : goal.returns
returns g c = record {
  kept = search rules;
  answers = λ sure s represents order.
      c.any_other.ensures ∙ ap (list_any (λ console. not (is console.name c.args.name.now)))
      (c.as_slice.ensures ∙ c.in_ok-masters.ensures.answers sure s represents) ∙ others s c.args.name.now order;
}
