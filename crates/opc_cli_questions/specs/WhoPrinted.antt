-- The parts of what `who` prints, each as text or as JSON.
use Rattle.std.specs.Prelude.{ℕ, Bool, List, [], Option}
use Rattle.std.specs.List.{flat_map}
use Rattle.opc_answers.specs.declared.consoles.ConsoleLine.{ConsoleLine}
use Rattle.opc_answers.specs.declared.lines.UserLine.{UserLine}
use Rattle.opc_answers.specs.declared.who.Who.{Who}
use Rattle.opc_answers.specs.declared.counts.Counts.{Counts}
use Rattle.opc_answers.specs.Json.{beginning_json, consoles_json, user_json}
use Rattle.opc_answers.specs.Texts.{beginning_text, console_lines_text, counts_text, shown_user}
use Rattle.opc_check.specs.declared.form.Form.{Form}
use Rattle.opc_check.specs.declared.form.Form.TheVariants.{Json, Text}

abbrev pub beginning : Form → Who → List ℕ
beginning Text who = beginning_text who
beginning Json who = beginning_json who

abbrev pub users_shown : Form → (allowed : Bool) → List UserLine → List ℕ
users_shown Text allowed lines = flat_map (shown_user allowed) lines
users_shown Json allowed lines = flat_map (user_json allowed) lines

abbrev pub consoles_shown : Form → (allowed : Bool) → Option (List ConsoleLine) → List ℕ
consoles_shown Text allowed lines = console_lines_text allowed lines
consoles_shown Json allowed lines = consoles_json allowed lines

-- JSON has no counts
abbrev pub ending : Form → Counts → List ℕ
ending Text counts = counts_text counts
ending Json counts = []
