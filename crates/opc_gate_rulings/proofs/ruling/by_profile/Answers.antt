use Rattle.std.proofs.Common.{Some, true, sym, rules}
use Rattle.opc_names.specs.declared.class.Class.TheVariants.{Opercmds}
use Rattle.opc_policy_members.specs.Members.{groups_of}
use Rattle.opc_policy.specs.Rulings.{console_ruling}
use Rattle.opc_state.specs.State.{deciding_in}
use Rattle.opc_gate_rulings.proofs.Ruled.{ruled}
use Rattle.opc_gate_rulings.proofs.ruling.by_profile.Goals as goal

pub returns : goal.returns
returns g c = record {
  kept = search rules;
  answers = λ sure s represents.
      rw (c.unwrap_or.ensures, c.in_ok-ruling.ensures.answers sure s represents, c.console_ruling.ensures)
      (sym (ruled true (deciding_in s.policy Opercmds c.args.need.now.resource) c.args.user.now
      (Some c.args.console.now.name) (groups_of s.policy.connects c.args.user.now.id) c.args.need.now.level
      (console_ruling c.args.console.now.auth c.args.need.now)));
}
