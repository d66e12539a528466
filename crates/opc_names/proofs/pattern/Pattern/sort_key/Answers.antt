use Rattle.std.proofs.Common.{rules}
use Rattle.opc_names.proofs.Keys.{key_is}
use Rattle.opc_names.proofs.pattern.Pattern.sort_key.Goals as goal

pub returns-clause-key : goal.returns-clause-key
returns-clause-key c = rw (← key_is) (search rules)
