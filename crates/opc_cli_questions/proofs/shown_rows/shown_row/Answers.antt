use Rattle.std.proofs.Common.{◌∙◌, ◌++◌, ◌∷◌, [], ap, sym}
use Rattle.opc_import.specs.Lines.{policy_text}
use Rattle.opc_cli_questions.specs.ShownRows.{shown_row}
use Rattle.opc_cli_questions.proofs.OneRow.{one_row}
use Rattle.opc_cli_questions.proofs.shown_rows.shown_row.Goals as goal

pub line_after-requires : goal.line_after-requires
line_after-requires c = (
  shown_row c.args.row.now,
  c.as_str-2.ensures.value ∙ c.in_ok-file.ensures.text ∙ ap (λ row. policy_text (row ∷ [])) c.without_digest.ensures
      ∙ one_row c.args.row.now
      ∙ ap (λ head. head ++ (shown_row c.args.row.now ++ 10 ∷ [])) (sym (c.as_str.ensures.value ∙ c.in_ok-header.ensures.text)),
)
