use Rattle.std.specs.Option.{option_copied}
use Rattle.opc_names.specs.Walk.{left_len}
use Rattle.opc_names.proofs.cover.+cover_suffixes.Given as goal

abbrev pub decreases-cover_suffixes : goal.decreases-cover_suffixes
decreases-cover_suffixes l = left_len (option_copied l.pattern)
