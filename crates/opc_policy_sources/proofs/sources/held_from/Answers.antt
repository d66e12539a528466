use Rattle.std.proofs.Common.{subst, sym}
use Rattle.std.specs.Option.{option_copied}
use Rattle.opc_policy_sources.specs.Sources.{IsGiven}
use Rattle.opc_policy_sources.proofs.Given.{held_given}
use Rattle.opc_policy_sources.proofs.SourceLevels.{held_so}
use Rattle.opc_policy_sources.proofs.sources.held_from.Goals as goal

pub returns-clause-level : goal.returns-clause-level
returns-clause-level c =
    rw c.higher_source.ensures (held_so c.args.profile.now c.args.user.now (option_copied c.args.console) c.args.groups.now)

pub returns-clause-given : goal.returns-clause-given
returns-clause-given c =
    subst (IsGiven c.args.profile.now c.args.user.now c.args.groups.now) (sym c.higher_source.ensures)
    (held_given c.args.profile.now c.args.user.now c.args.groups.now (option_copied c.args.console))
