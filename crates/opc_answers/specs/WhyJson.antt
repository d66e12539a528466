-- Why a user may or may not, as JSON: one object, without spaces, its keys in the order of ASCII.
use Rattle.std.specs.Prelude.{ℕ, List, [], Option, Some, None, codes, map}
use Rattle.serde_json.specs.Data.{Data, Items, array, member, no_members, null, object, string}
use Rattle.serde_json.specs.View.{items_of}
use Rattle.opc_names.specs.Spellings.{class_text, level_text}
use Rattle.opc_policy_sources.specs.declared.levels.CoveringLevel.{CoveringLevel}
use Rattle.opc_policy_sources.specs.SourceTexts.{source_text}
use Rattle.opc_answers.specs.declared.why.Covers.{Covers}
use Rattle.opc_answers.specs.declared.why.Covers.TheVariants.{Levels}
use Rattle.opc_answers.specs.declared.why.LineExplained.{LineExplained}
use Rattle.opc_answers.specs.declared.why.Explanation.{Explanation}
use Rattle.opc_answers.specs.Json.{group_of, json_line, taken_words, text_or_null}
use Rattle.opc_answers.specs.Who.{class_of, level_of, resource_of}
use Rattle.opc_answers.specs.Why.{said_rule, said_verdict}

-- a profile that covers, with the level that is held in it
abbrev pub covering_value : CoveringLevel → Data
covering_value l =
    object (member (codes "at") (text_or_null l.held.when)
    (member (codes "held") (string (level_text l.held.level))
    (member (codes "pattern") (string l.pattern)
    (member (codes "source") (string (source_text l.held.source)) no_members))))

abbrev pub covering_items : List CoveringLevel → Items
covering_items levels = items_of (map covering_value levels)

abbrev pub levels_of : Covers → List CoveringLevel
levels_of (Levels levels) = levels
levels_of others = []

-- the line that a command asks for, if it asks for one
abbrev pub line_value : Option LineExplained → Data
line_value None = null
line_value (Some line) =
    object (member (codes "covers") (array (covering_items (levels_of line.covers)))
    (member (codes "level") (string (level_text line.need.level))
    (member (codes "resource") (string line.need.resource) no_members)))

abbrev pub explanation_object : (taken console covers group line user : Data)
    → (class level resource rule verdict : List ℕ) → Data
explanation_object taken console covers group line user class level resource rule verdict =
    object (member (codes "as") taken
    (member (codes "class") (string class)
    (member (codes "console") console
    (member (codes "covers") covers
    (member (codes "group") group
    (member (codes "level") (string level)
    (member (codes "resource") (string resource)
    (member (codes "rule") (string rule)
    (member (codes "shows") line
    (member (codes "user") user
    (member (codes "verdict") (string verdict) no_members)))))))))))

abbrev pub why_value : Explanation → Data
why_value w = explanation_object (text_or_null (taken_words w.wanted)) (text_or_null w.console)
    (array (covering_items (levels_of w.covers))) (text_or_null (group_of w.wanted)) (line_value w.line)
    (text_or_null w.actor) (class_text (class_of w.wanted)) (level_text (level_of w.wanted)) (resource_of w.wanted)
    (said_rule w.rule w.instead) (said_verdict w.verdict w.instead)

abbrev pub why_json : Explanation → List ℕ
why_json w = json_line (why_value w)
