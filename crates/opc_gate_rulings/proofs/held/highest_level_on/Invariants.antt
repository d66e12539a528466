use Rattle.std.proofs.Common.{◌≡◌, drop}
use Rattle.std.specs.Option.{option_copied}
use Rattle.opc_policy_members.specs.Access.{highest_level, higher}
use Rattle.opc_state.specs.Changes.{IsKept}
use Rattle.opc_state.specs.Loads.{access_list}
use Rattle.opc_state.specs.State.{State}
use Rattle.opc_gate_rulings.proofs.held.highest_level_on.Given as goal

abbrev pub invariant-loop-group : goal.invariant-loop-group
invariant-loop-group g l =
    IsKept g.T.Tables.meaning l.fn.tables l.tables
    × (g.T.Tables.meaning.is_sure l.tables → (s : State) → g.T.Tables.meaning.represents l.fn.tables s
    → higher l.highest (highest_level (access_list s.policy l.profile.class l.profile.pattern) (option_copied l.when)
    (drop l.group-index l.groups)) ≡ highest_level (access_list s.policy l.profile.class l.profile.pattern)
    (option_copied l.when) l.groups)
