-- The page: its head, the notes, the tables, and who may change the policy.
use Rattle.std.specs.Prelude.{
  ◌≡◌,
  ◌==◌,
  ◌+◌,
  ◌++◌,
  ℕ,
  List,
  [],
  Option,
  Some,
  None,
  codes,
  flat_map,
  if◌then◌else◌,
  length,
}
use Rattle.std.specs.Fmt.{decimal}
use Rattle.std.specs.List.{slice_get}
use Rattle.opc_policy_members.specs.declared.policy.Policy.{Policy}
use Rattle.opc_policy_members.specs.declared.row.Row.{Row}
use Rattle.opc_policy_deciders.specs.Decided.{patterns_of}
use Rattle.opc_import.specs.declared.kind.Kind.{Kind}
use Rattle.opc_import.specs.declared.kind.Kind.TheVariants as kind
use Rattle.opc_board.specs.declared.board.BoardRows.{BoardRows}
use Rattle.opc_check_notes.specs.declared.note.Note.{Note}
use Rattle.opc_check_notes.specs.declared.numbered.NumberedRow.{NumberedRow}
use Rattle.opc_check_notes.specs.Effect.{in_effect}
use Rattle.opc_check_notes.specs.Kinds.{of_kind}
use Rattle.opc_check_notes.specs.Notes.{notes}
use Rattle.opc_check_notes.specs.Texts.{note_text}
use Rattle.opc_answers_sheet.specs.declared.changes.Right.TheVariants.{Change, SeeAccount}
use Rattle.opc_answers_sheet.specs.Callers.{callers_of}
use Rattle.opc_answers_sheet.specs.Changes.{owners_text, right_text}
use Rattle.opc_answers_sheet.specs.Commands.{AreRowsAt}
use Rattle.opc_answers_sheet.specs.Consoles.{console_rows}
use Rattle.opc_answers_sheet.specs.Escaped.{escaped}

-- no script, and nothing from elsewhere
unfoldable pub beginning : List ℕ
beginning = codes "<!doctype html>\n<html lang=\"en\">\n<head>\n<meta charset=\"utf-8\">\n"
    ++ (codes "<meta name=\"viewport\" content=\"width=device-width, initial-scale=1\">\n"
    ++ (codes "<meta http-equiv=\"Content-Security-Policy\""
    ++ (codes " content=\"default-src 'none'; style-src 'unsafe-inline'\">\n" ++ codes "<title>Who may do what: ")))

-- the style of texts
unfoldable pub text_style : List ℕ
text_style = codes "<style>\n"
    ++ (codes ":root{color-scheme:light dark;overflow-wrap:break-word}\n"
    ++ (codes "body{max-width:72em;margin:1.5em auto;padding:0 1em;font:1em/1.45 system-ui,sans-serif}\n"
    ++ (codes "h1{font-size:1.5em;margin:0 0 .3em}h2{font-size:1.15em;margin:1.7em 0 .5em}\n"
    ++ (codes "p,ul{margin:0}ul{padding-left:1.2em}\n"
    ++ (codes "code{font-family:ui-monospace,monospace;font-size:.9em;overflow-wrap:anywhere}\n"
    ++ codes "span{white-space:nowrap}.none{opacity:.65}\n")))))

-- that of tables
unfoldable pub table_style : List ℕ
table_style = codes "table{width:100%;border-collapse:separate;border-spacing:0}\n"
    ++ (codes "th,td{padding:.35em .7em .35em 0;border-bottom:1px solid #8888;text-align:left;vertical-align:top}\n"
    ++ (codes "th{position:sticky;top:0;border-bottom:2px solid;background:Canvas;white-space:nowrap}\n"
    ++ codes "th:first-child{width:22%}th:last-child{width:52%}\n"))

-- on a narrow screen each row is a block
unfoldable pub narrow_style : List ℕ
narrow_style = codes "@media screen and (max-width:40em){thead{display:none}table,tbody,tr,td{display:block}\n"
    ++ (codes "tr{padding:.5em 0;border-bottom:1px solid #8888}td{padding:0;border:0}td:first-child{font-weight:600}\n"
    ++ (codes "td:nth-child(2):nth-last-child(3)::before{content:'Unattended: '}\n"
    ++ codes "td:nth-last-child(2)::before{content:'Decided by: '}}\n"))

-- on paper no row is split
unfoldable pub print_style : List ℕ
print_style = codes "@page{size:A4;margin:12mm}\n"
    ++ (codes "@media print{:root{color-scheme:light}h2{break-after:avoid}tr,li{break-inside:avoid}\n"
    ++ (codes "body{max-width:none;margin:0;padding:0;font:7.5pt/1.3 system-ui,sans-serif}\n"
    ++ (codes "th{position:static}td,th{padding:.15em .7em .15em 0;border-color:#000}.none{opacity:1}}\n"
    ++ codes "</style>\n")))

unfoldable pub style : List ℕ
style = text_style ++ (table_style ++ (narrow_style ++ print_style))

abbrev pub title : List ℕ
title = codes "</head>\n<body>\n<h1>Who may do what</h1>\n<p><code>"

-- how many rows of a kind are in effect
unfoldable pub rows_in_effect : List Row → List NumberedRow
rows_in_effect rows = in_effect 1 rows

unfoldable pub count_of : List Row → Kind → ℕ
count_of rows k = length (of_kind (rows_in_effect rows) k)

abbrev pub plural : ℕ → List ℕ
plural n = if n == 1 then [] else codes "s"

abbrev pub counted : ℕ → List ℕ → List ℕ
counted n word = decimal n ++ (word ++ plural n)

unfoldable pub counts_line : (users groups profiles consoles : ℕ) → List ℕ
counts_line users groups profiles consoles = counted users (codes " user") ++ (codes ", "
    ++ (counted groups (codes " group") ++ (codes ", "
    ++ (counted profiles (codes " profile") ++ (codes ", " ++ counted consoles (codes " console"))))))

unfoldable pub counts_text : List Row → List ℕ
counts_text rows = counts_line (count_of rows kind.User) (count_of rows kind.Group) (count_of rows kind.Profile)
    (count_of rows kind.Console)

-- what comes before the body
unfoldable pub opening_text : (name : List ℕ) → List ℕ
opening_text name = beginning ++ (name ++ (codes "</title>\n" ++ style))

-- the name of the policy, and the digest of its bytes, as the caller has them
unfoldable pub naming_text : (name digest counts : List ℕ) → List ℕ
naming_text name digest counts = title ++ (name ++ (codes "</code>: " ++ (counts
    ++ (codes "</p>\n<p>SHA-256 <code>" ++ (digest ++ codes "</code></p>\n")))))

unfoldable pub head_text : (name digest : List ℕ) → List Row → List ℕ
head_text name digest rows = opening_text (escaped name) ++ naming_text (escaped name) digest (counts_text rows)

-- the notes of `check`, by the numbers of rows
abbrev pub place_text : Option ℕ → List ℕ
place_text None = codes " "
place_text (Some row) = codes " row " ++ (decimal row ++ codes ": ")

abbrev pub note_item : Note → List ℕ
note_item note = codes "<li>" ++ escaped (note_text (place_text note.row) note)

abbrev pub notes_list : List Note → List ℕ
notes_list list = if length list == 0 then codes "<p class=\"none\">none</p>\n" else
    (codes "<ul>\n" ++ (flat_map note_item list ++ codes "</ul>\n"))

unfoldable pub notes_text : List Row → List ℕ
notes_text rows = codes "<h2>Notes</h2>\n" ++ notes_list (notes rows)

-- the tables
unfoldable pub commands_head : List ℕ
commands_head = codes "<h2>Commands</h2>\n<table>\n<thead><tr><th scope=\"col\">Command</th>"
    ++ codes "<th scope=\"col\">Decided by</th><th scope=\"col\">Who may, and by what</th></tr></thead>\n<tbody>\n"

abbrev pub table_end : List ℕ
table_end = codes "</tbody>\n</table>\n"

unfoldable pub consoles_head : List ℕ
consoles_head = codes "<h2>Consoles</h2>\n<table>\n<thead><tr><th scope=\"col\">Console</th>"
    ++ (codes "<th scope=\"col\">Unattended, it allows</th><th scope=\"col\">Decided by</th>"
    ++ codes "<th scope=\"col\">Who may log on, and by what</th></tr></thead>\n<tbody>\n")

-- who may change the policy, and who sees the account
abbrev pub changes_text : Policy → BoardRows → List ℕ
changes_text p b = codes "<h2>Who may change this</h2>\n" ++ (right_text Change (callers_of p b)
    ++ owners_text p.profiles (callers_of p b))

abbrev pub account_text : Policy → BoardRows → List ℕ
account_text p b = codes "<h2>Who sees the account</h2>\n" ++ right_text SeeAccount (callers_of p b)

abbrev pub ending : Policy → BoardRows → List ℕ
ending p b = changes_text p b ++ (account_text p b ++ codes "</body>\n</html>\n")

-- The rows of commands: of the profile at each place, and last of what no profile decides.
pub record AreRowsOf (p : Policy) (b : BoardRows) (texts : List (List ℕ)) : Type 0 where
  pub all : length texts ≡ length (patterns_of p) + 1
  pub each : (place : ℕ) (text : List ℕ) → slice_get texts place ≡ Some text → AreRowsAt p b place text

-- the text of a page: what comes before these rows, they, and what follows them
unfoldable pub beginning_text : (name digest : List ℕ) → List Row → List ℕ
beginning_text name digest rows = head_text name digest rows ++ notes_text rows ++ commands_head

unfoldable pub rest_text : Policy → BoardRows → List ℕ
rest_text p b = table_end ++ consoles_head ++ console_rows p b ++ table_end ++ ending p b

abbrev pub tables_text : Policy → BoardRows → (commands : List (List ℕ)) → List ℕ
tables_text p b commands = flat_map (λ text. text) commands ++ rest_text p b

abbrev pub page_text : (name digest : List ℕ) → List Row → Policy → BoardRows → (commands : List (List ℕ)) → List ℕ
page_text name digest rows p b commands = beginning_text name digest rows ++ tables_text p b commands

-- The text is the page of a policy with this name, whose bytes have this digest, and whose rows these are.
pub record IsSheet (name digest : List ℕ) (rows : List Row) (p : Policy) (b : BoardRows) (text : List ℕ) : Type 0 where
  pub commands : List (List ℕ)
  pub each : AreRowsOf p b commands
  pub page : text ≡ page_text name digest rows p b commands
