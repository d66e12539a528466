-- Where the question is asked, by what is found at the console's name.
use Rattle.std.proofs.Common.{◌≡◌, ℕ, List, Option, Result, sym, ap, ◌∙◌}
use Rattle.opc_board.specs.declared.board.BoardRows.{BoardRows}
use Rattle.opc_board.specs.declared.rows.ConsoleRow.{ConsoleRow}
use Rattle.opc_board.specs.Invariants.{console_at}
use Rattle.opc_terms.specs.declared.fault.Fault.{Fault}
use Rattle.opc_answers.specs.declared.who.AskedAt.{AskedAt}
use Rattle.opc_answers.specs.Who.{on_board}

pub on_board_so : (b : BoardRows) (name : List ℕ) (o : Option ConsoleRow) (r : Result AskedAt Fault)
    → o ≡ console_at b name → on_board o ≡ r → r ≡ on_board (console_at b name)
on_board_so b name o r found h = sym (ap on_board (sym found) ∙ h)
