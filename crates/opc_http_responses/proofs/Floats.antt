-- Texts are not floats.
use Rattle.std.proofs.Common.{◌≡◌, ℕ, List, [], ◌∷◌, false, refl}
use Rattle.serde_json.specs.Written.{has_float, items_have_float}
use Rattle.opc_board.specs.declared.line.Line.{Line}
use Rattle.opc_http_responses.specs.Bodies.{done_value, line_items}

no_float_in_lines : (lines : List Line) → items_have_float (line_items lines) ≡ false
no_float_in_lines [] = refl
no_float_in_lines (line ∷ lines) = no_float_in_lines lines

pub no_float_in_done : (lines : List Line) (rule : List ℕ) → has_float (done_value lines rule) ≡ false
no_float_in_done lines rule = rw (no_float_in_lines lines) refl
