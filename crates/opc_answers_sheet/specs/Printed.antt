-- What is printed of a page.
use Rattle.std.specs.Prelude.{◌≡◌, ℕ, List, Option, Some, flat_map, length}
use Rattle.std.specs.Io.KnownBytes.{Appends}
use Rattle.std.specs.List.{slice_get}
use Rattle.opc_policy_members.specs.declared.policy.Policy.{Policy}
use Rattle.opc_policy_members.specs.declared.row.Row.{Row}
use Rattle.opc_board.specs.declared.board.BoardRows.{BoardRows}
use Rattle.opc_answers_sheet.specs.Commands.{AreRowsAt}
use Rattle.opc_answers_sheet.specs.Page.{AreRowsOf, IsSheet, tables_text}

-- the rows of commands at a place, those at the first places, and all
pub record PrintsRowsAt (p : Policy) (b : BoardRows) (place : ℕ) (before after : Option (List ℕ)) : Type 0 where
  pub text : List ℕ
  pub rows : AreRowsAt p b place text
  pub printed : Appends before after text

pub record PrintsRowsUpTo (p : Policy) (b : BoardRows) (end : ℕ) (before after : Option (List ℕ)) : Type 0 where
  pub texts : List (List ℕ)
  pub all : length texts ≡ end
  pub each : (place : ℕ) (text : List ℕ) → slice_get texts place ≡ Some text → AreRowsAt p b place text
  pub printed : Appends before after (flat_map (λ text. text) texts)

-- the tables, with what follows them
pub record PrintsTables (p : Policy) (b : BoardRows) (before after : Option (List ℕ)) : Type 0 where
  pub commands : List (List ℕ)
  pub each : AreRowsOf p b commands
  pub printed : Appends before after (tables_text p b commands)

-- the page
pub record PrintsSheet (name digest : List ℕ) (rows : List Row) (p : Policy) (b : BoardRows)
    (before after : Option (List ℕ)) : Type 0 where
  pub text : List ℕ
  pub sheet : IsSheet name digest rows p b text
  pub printed : Appends before after text
