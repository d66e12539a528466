use Rattle.std.proofs.Common.{ap, sym, ◌∙◌}
use Rattle.std.specs.Option.{option_copied}
use Rattle.std.proofs.lemmas.List.{at_drop_more}
use Rattle.opc_policy_members.specs.Access.{highest_level, higher}
use Rattle.opc_policy_members.proofs.Highest.{higher_assoc}
use Rattle.opc_policy_members.proofs.entries.Entries.highest_level.Goals as goal

pub loop-group-preserved : goal.loop-group-preserved
loop-group-preserved c =
    let more = at_drop_more (highest_level c.args.self.now (option_copied c.args.when)) c.args.groups.now
    c.loop-group.group-index c.group-item.result c.loop-group-test.true in
    let first = rw (← c.group-item.is) at more in
    rw (c.higher-highest.ensures, c.level_of.ensures, c.text.ensures.text)
    (higher_assoc c.loop-group.highest _ _ ∙ ap (higher c.loop-group.highest) (sym first) ∙ c.loop-group.invariant)
