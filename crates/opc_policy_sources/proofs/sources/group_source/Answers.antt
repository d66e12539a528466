use Rattle.std.proofs.Common.{ap, sym, ◌∙◌}
use Rattle.std.specs.Option.{option_copied}
use Rattle.std.proofs.lemmas.List.{at_drop_more}
use Rattle.opc_policy_sources.specs.Sources.{first_highest, group_source}
use Rattle.opc_policy_sources.proofs.Highest.{first_highest_assoc}
use Rattle.opc_policy_sources.proofs.sources.group_source.Goals as goal

pub loop-group-preserved : goal.loop-group-preserved
loop-group-preserved c =
    let more = at_drop_more (group_source c.args.profile.now.entries (option_copied c.args.when)) c.args.groups.now
    c.loop-group.group-index c.group-item.result c.loop-group-test.true in
    let first = rw (← c.group-item.is) at more in
    rw (c.first_highest-highest.ensures, c.from_entry.ensures, c.level_at-level.ensures, c.text.ensures.text)
    (first_highest_assoc c.loop-group.highest _ _ ∙ ap (first_highest c.loop-group.highest) (sym first) ∙ c.loop-group.invariant)
