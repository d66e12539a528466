use Rattle.std.specs.Option.{option_copied}
use Rattle.opc_names.specs.Walk.{left_len}
use Rattle.opc_names.proofs.cover.+prepend_qualifier.Given as goal

abbrev pub decreases-prepend_qualifier : goal.decreases-prepend_qualifier
decreases-prepend_qualifier l = left_len (option_copied l.name)
