use Rattle.std.proofs.Common.{◌≡◌, ◌++◌, ◌∷◌, [], string_bytes, take}
use Rattle.std.specs.Fmt.{decimal}
use Rattle.std.specs.List.{flat_map}
use Rattle.std.specs.Prelude.{codes}
use Rattle.opc_terms.specs.Rules.{rule_text_or_none}
use Rattle.opc_board.specs.Texts.{columns}
use Rattle.opc_cli_script.specs.Transcripts.{ended, shown_line}
use Rattle.opc_cli_script.proofs.transcript.done_text.Given as goal

abbrev pub invariant-loop-line : goal.invariant-loop-line
invariant-loop-line l = string_bytes l.text ≡ ended
    (columns (decimal l.fn.moment ∷ codes "DONE" ∷ rule_text_or_none l.fn.rule ∷ []))
    ++ flat_map shown_line (take l.line-index l.lines)
