use Rattle.std.proofs.Common.{◌≡◌, drop}
use Rattle.std.specs.Option.{option_copied}
use Rattle.opc_policy_members.specs.Access.{highest_level, higher}
use Rattle.opc_policy_members.proofs.entries.Entries.highest_level.Given as goal

abbrev pub invariant-loop-group : goal.invariant-loop-group
invariant-loop-group l = higher l.highest
    (highest_level l.self (option_copied l.when) (drop l.group-index l.groups)) ≡ highest_level l.self
    (option_copied l.when) l.groups
