use Rattle.opc_names.proofs.Keys.{keys_are_in_order, keys_are_short}
use Rattle.opc_names.proofs.KeysDiffer.{keys_differ}
use Rattle.opc_names.proofs.laws.keys_order_patterns.Goals as goal

pub returns : goal.returns
returns c = record { in_order = keys_are_in_order; differ = keys_differ; short = keys_are_short }
