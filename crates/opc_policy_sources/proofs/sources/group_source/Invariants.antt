use Rattle.std.proofs.Common.{◌≡◌, drop}
use Rattle.std.specs.Option.{option_copied}
use Rattle.opc_policy_sources.specs.Sources.{first_highest, group_source}
use Rattle.opc_policy_sources.proofs.sources.group_source.Given as goal

abbrev pub invariant-loop-group : goal.invariant-loop-group
invariant-loop-group l = first_highest l.highest
    (group_source l.profile.entries (option_copied l.when) (drop l.group-index l.groups)) ≡ group_source
    l.profile.entries (option_copied l.when) l.groups
