use Rattle.std.proofs.Common.{◌≡◌, ◌++◌, Some, true, drop, sym}
use Rattle.opc_names.specs.declared.class.Class.TheVariants.{Opercmds}
use Rattle.opc_policy_members.specs.Members.{groups_of}
use Rattle.opc_policy.specs.Rulings.{console_ruling}
use Rattle.opc_state.specs.State.{deciding_in}
use Rattle.opc_gate_rulings.proofs.Ruled.{ruled}
use Rattle.opc_gate_rulings.proofs.shared.by_candidates.Goals as goal

pub returns-clause-ruling : goal.returns-clause-ruling
returns-clause-ruling g c sure s was loaded known =
    let need = c.args.need.now in
    let first = c.args.shortlist.now.beginning.now in
    let prefix = rw c.text.ensures.text at c.if-not-starts_with.ensures.cases in
    let is : need.resource ≡ first ++ drop prefix.0 need.resource = prefix.1.1 in
    rw (
      c.unwrap_or.ensures,
      c.in_ok-ruling.ensures.ruling sure s was first (drop prefix.0 need.resource) loaded is known,
      c.console_ruling.ensures,
    )
    (sym (ruled true (deciding_in s.policy Opercmds need.resource) c.args.user.now (Some c.args.console.now.name)
    (groups_of s.policy.connects c.args.user.now.id) need.level (console_ruling c.args.console.now.auth need)))
