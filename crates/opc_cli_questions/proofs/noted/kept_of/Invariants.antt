use Rattle.std.proofs.Common.{◌≡◌, take}
use Rattle.std.specs.Prelude.{filter}
use Rattle.std.specs.Option.{option_copied}
use Rattle.opc_cli_questions.specs.Noted.{is_kept}
use Rattle.opc_cli_questions.proofs.noted.kept_of.Given as goal

abbrev pub invariant-loop-note : goal.invariant-loop-note
invariant-loop-note l = l.kept ≡ filter (is_kept (option_copied l.allowed)) (take l.note-index l.list)
