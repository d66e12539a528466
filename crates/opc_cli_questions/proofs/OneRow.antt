-- The file of one row.
use Rattle.std.proofs.Common.{◌≡◌, ◌∙◌, ◌++◌, ◌∷◌, [], ap, append-nil, sym}
use Rattle.opc_policy_members.specs.declared.row.Row.{Row}
use Rattle.opc_import.specs.Columns.{header}
use Rattle.opc_import.specs.Lines.{line_text, policy_text}
use Rattle.opc_import.specs.Rows.{record_of}
use Rattle.opc_cli_questions.specs.ShownRows.{shown_row, without_digest}

-- after the header it has the fields and a line feed
pub one_row : (row : Row) → policy_text (without_digest row ∷ []) ≡ policy_text [] ++ (shown_row row ++ 10 ∷ [])
one_row row =
    ap (λ t. line_text header ++ t) (append-nil (line_text (record_of (without_digest row))))
    ∙ ap (λ t. t ++ line_text (record_of (without_digest row))) (sym (append-nil (line_text header)))
