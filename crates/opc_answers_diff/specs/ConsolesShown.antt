-- Consoles of which something else is said, as lines.
use Rattle.std.specs.Prelude.{ℕ, List, [], ◌∷◌, ◌++◌, Option, Some, None, codes}
use Rattle.serde_json.specs.Data.{Data, member, no_members, object, string}
use Rattle.opc_terms.specs.declared.mode.Mode.{Mode}
use Rattle.opc_terms.specs.declared.mode.Mode.TheVariants as mode
use Rattle.opc_board.specs.declared.rows.ConsoleRow.{ConsoleRow}
use Rattle.opc_board.specs.Texts.{columns, left}
use Rattle.opc_answers.specs.Json.{json_line, text_or_null}
use Rattle.opc_answers_diff.specs.declared.consoles.ConsoleChange.{ConsoleChange}
use Rattle.opc_answers_diff.specs.Consoles.{said_of}

-- for whom a console acts while unattended
abbrev pub actor_of : Mode → List ℕ
actor_of mode.Optional = codes "NOBODY"
actor_of mode.Required = codes "NOBODY"
actor_of mode.Auto = codes "AUTO"

-- a line of one side, behind its mark; a `*` (42) stands before the name, and 10 is the line feed
abbrev pub console_line : (mark : List ℕ) → Option ConsoleRow → List ℕ
console_line mark None = []
console_line mark (Some c) = columns
    (mark ∷ (42 ∷ left 7 c.name) ∷ left 7 (actor_of c.mode) ∷ (said_of (Some c) ++ 10 ∷ []) ∷ [])

abbrev pub console_text : ConsoleChange → List ℕ
console_text change = console_line (codes "-") change.before ++ console_line (codes "+") change.after

-- as JSON: null on the side that does not have it
abbrev pub said_words : Option ConsoleRow → Option (List ℕ)
said_words None = None
said_words (Some c) = Some (said_of (Some c))

abbrev pub console_value : ConsoleChange → Data
console_value change =
    object (member (codes "after") (text_or_null (said_words change.after))
    (member (codes "before") (text_or_null (said_words change.before))
    (member (codes "id") (string change.name)
    (member (codes "kind") (string (codes "console")) no_members))))

abbrev pub console_json : ConsoleChange → List ℕ
console_json change = json_line (console_value change)
