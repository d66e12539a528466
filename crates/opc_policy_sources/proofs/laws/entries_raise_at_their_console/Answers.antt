use Rattle.opc_policy_sources.proofs.Raising.{plain_where_none_raises, unnamed_raises_none}
use Rattle.opc_policy_sources.proofs.laws.entries_raise_at_their_console.Goals as goal

pub returns : goal.returns
returns c = record { elsewhere = plain_where_none_raises; unnamed = unnamed_raises_none }
