-- Users of whom something else is said, as lines.
use Rattle.std.specs.Prelude.{ℕ, List, [], ◌++◌, Option, Some, None, codes}
use Rattle.serde_json.specs.Data.{Data, member, no_members, null, object, string}
use Rattle.opc_answers.specs.declared.lines.UserLine.{UserLine}
use Rattle.opc_answers.specs.Json.{held_words, json_line, place_words, rule_words, source_words, text_or_null}
use Rattle.opc_answers.specs.Texts.{user_text, verdict_word}
use Rattle.opc_answers_diff.specs.declared.verdicts.UserChange.{UserChange}

-- the line of one side, behind its mark
abbrev pub side_text : (mark : List ℕ) → Option UserLine → List ℕ
side_text mark None = []
side_text mark (Some line) = mark ++ (codes " " ++ user_text line)

abbrev pub change_text : UserChange → List ℕ
change_text change = side_text (codes "-") change.before ++ side_text (codes "+") change.after

-- as JSON: null on the side that does not have the user
abbrev pub said_value : UserLine → Data
said_value line =
    object (member (codes "at") (text_or_null (place_words line.held))
    (member (codes "held") (text_or_null (held_words line.held))
    (member (codes "rule") (text_or_null (rule_words line.ruling line.instead))
    (member (codes "source") (text_or_null (source_words line.held))
    (member (codes "verdict") (string (verdict_word line.ruling line.instead)) no_members)))))

abbrev pub side_value : Option UserLine → Data
side_value None = null
side_value (Some line) = said_value line

abbrev pub change_value : UserChange → Data
change_value change =
    object (member (codes "after") (side_value change.after)
    (member (codes "before") (side_value change.before)
    (member (codes "id") (string change.id)
    (member (codes "kind") (string (codes "user")) no_members))))

abbrev pub change_json : UserChange → List ℕ
change_json change = json_line (change_value change)
