-- What changes from one policy to another, and how it is written.
use Rattle.std.specs.Prelude.{◌≡◌, ◌⊎◌, ◌+◌, ◌++◌, ⊤, ℕ, List, [], ◌∷◌, Option, Result, Ok, Err, length}
use Rattle.std.specs.Io.KnownBytes.{Appends}
use Rattle.std.specs.List.{flat_map}
use Rattle.opc_terms.specs.declared.fault.Fault.{Fault}
use Rattle.opc_policy_deciders.specs.declared.kind.AskedKind.{AskedKind}
use Rattle.opc_policy_deciders.specs.Kinds.{kinds}
use Rattle.opc_answers_diff.specs.declared.compared.Compared.{Compared}
use Rattle.opc_answers_diff.specs.declared.consoles.ConsoleChange.{ConsoleChange}
use Rattle.opc_answers_diff.specs.declared.gains.Gains.{Gains}
use Rattle.opc_answers_diff.specs.declared.row_changes.RowChange.{RowChange}
use Rattle.opc_answers_diff.specs.declared.verdicts.UserChange.{UserChange}
use Rattle.opc_answers_diff.specs.Consoles.{console_changes, names_of_both}
use Rattle.opc_answers_diff.specs.ConsolesShown as consoles
use Rattle.opc_answers_diff.specs.Gains.{ending_text, is_gain, is_loss, with_those}
use Rattle.opc_answers_diff.specs.Logons.{logon_changes, logon_json, logon_text}
use Rattle.opc_answers_diff.specs.RowChanges.{row_changes}
use Rattle.opc_answers_diff.specs.RowTexts as rows
use Rattle.opc_answers_diff.specs.Sections.{
  AreFoundAt,
  IsCompared,
  NothingAt,
  decides_at,
  found_changes,
  one_at,
  other_at,
  section_json,
  section_text,
}
use Rattle.opc_check.specs.declared.form.Form.{Form}
use Rattle.opc_check.specs.declared.form.Form.TheVariants.{Json, Text}
use Rattle.opc_cli_failures.specs.declared.status.Status.{Status}
use Rattle.opc_cli_failures.specs.declared.status.Status.TheVariants.{Done, Refused}
use Rattle.opc_cli_questions.specs.Printed.{PrintedAnswer}
use Rattle.opc_cli_questions.specs.declared.sides.PolicySide.{PolicySide}

abbrev pub rows_shown : Form → List RowChange → List ℕ
rows_shown Text changes = flat_map rows.change_text changes
rows_shown Json changes = flat_map rows.change_json changes

-- a section of a kind, with these users, of what is found at two places
abbrev pub section_shown : Form → Compared → (at at' : ℕ) → (found : List (Option (List ℕ))) → AskedKind
    → List UserChange → List ℕ
section_shown Text c at at' found kind changes = section_text kind found (decides_at c at at') changes
section_shown Json c at at' found kind changes = section_json kind found (one_at c at) (other_at c at') changes

-- of whom something else is said there, and their section
abbrev pub kind_listed : Compared → (at at' : ℕ) → (found : List (Option (List ℕ))) → AskedKind → List UserChange
kind_listed c at at' found kind = found_changes c kind found at at'

abbrev pub kind_shown : Form → Compared → (at at' : ℕ) → (found : List (Option (List ℕ))) → AskedKind → List ℕ
kind_shown form c at at' found kind = section_shown form c at at' found kind (kind_listed c at at' found kind)

-- a LOGON at a console
abbrev pub logon_shown : Form → Compared → (console : List ℕ) → List ℕ
logon_shown Text c console = logon_text c.before.policy c.after.policy c.members console
logon_shown Json c console = logon_json c.before.policy c.after.policy c.members console

abbrev pub logon_listed : Compared → (console : List ℕ) → List UserChange
logon_listed c console = logon_changes c.before.policy c.after.policy c.members console

abbrev pub consoles_shown : Form → List ConsoleChange → List ℕ
consoles_shown Text changes = flat_map consoles.console_text changes
consoles_shown Json changes = flat_map consoles.console_json changes

-- JSON has no last line
abbrev pub ending : Form → (rows : ℕ) → (more less : List (List ℕ)) → List ℕ
ending Text rows more less = ending_text rows (length more) (length less)
ending Json rows more less = []

-- a text, and the changes that it lists
abbrev pub Listed : Type 0
Listed = List ℕ × List UserChange

-- nothing
abbrev pub none_listed : Listed
none_listed = ([], [])

-- what is decided at two places: a section for each kind
abbrev pub pair_listed : Form → Compared → (at at' : ℕ) → (found : List (Option (List ℕ))) → Listed
pair_listed form c at at' found =
    (flat_map (kind_shown form c at at' found) kinds, flat_map (kind_listed c at at' found) kinds)

-- Nothing is written of two places where nothing changes, and else what their profiles decide together.
abbrev pub IsPairListed : Form → Compared → (at at' : ℕ) → Listed → Type 0
IsPairListed form c at at' listed = (NothingAt c at at' × (listed ≡ none_listed))
    ⊎ ((found : List (Option (List ℕ))) × AreFoundAt c at at' found × (listed ≡ pair_listed form c at at' found))

-- Each of these is listed at one place after another, from this one on.
abbrev pub AreListedFrom : (is : ℕ → Listed → Type 0) → (place : ℕ) → List Listed → Type 0
AreListedFrom is place [] = ⊤
AreListedFrom is place (one ∷ more) = is place one × AreListedFrom is (place + 1) more

abbrev pub joined : List Listed → Listed
joined parts = (flat_map (λ (part : Listed). part.0) parts, flat_map (λ (part : Listed). part.1) parts)

-- what is listed at so many places
pub record AreJoined (is : ℕ → Listed → Type 0) (count : ℕ) (all : Listed) : Type 0 where
  pub parts : List Listed
  pub each : length parts ≡ count
  pub are : AreListedFrom is 0 parts
  pub join : all ≡ joined parts

-- at a place with each of the other side, one after another; the last one has no profile
abbrev pub ArePairsListed : Form → Compared → (at : ℕ) → Listed → Type 0
ArePairsListed form c at = AreJoined (IsPairListed form c at) (length c.others.items + 1)

-- at each place with each of the other side
abbrev pub AreCommandsListed : Form → Compared → Listed → Type 0
AreCommandsListed form c = AreJoined (ArePairsListed form c) (length c.patterns.items + 1)

-- at each of these consoles
abbrev pub logons_listed : Form → Compared → (consoles : List (List ℕ)) → Listed
logons_listed form c consoles = (flat_map (logon_shown form c) consoles, flat_map (logon_listed c) consoles)

abbrev pub consoles_of : Compared → List (List ℕ)
consoles_of c = names_of_both c.before.board.consoles c.after.board.consoles

-- Users who gain and lose by these changes are among those who may more and less.
pub record AreCounted (changes : List UserChange) (before after : Gains) : Type 0 where
  pub more : after.more.keys ≡ with_those is_gain changes before.more.keys
  pub less : after.less.keys ≡ with_those is_loss changes before.less.keys

-- A text was written, and the changes that it lists were counted.
pub record IsListed (before written : Option (List ℕ)) (gains gains' : Gains) (listed : Listed) : Type 0 where
  pub printed : Appends before written listed.0
  pub counted : AreCounted listed.1 gains gains'

-- what follows the rows
abbrev pub sections_shown : Form → Compared → (rows : ℕ) → (commands : Listed) → List ℕ
sections_shown form c rows commands =
    let logons = logons_listed form c (consoles_of c) in
    let changes = commands.1 ++ logons.1 in
    commands.0 ++ (logons.0 ++ (consoles_shown form (console_changes c.before.board c.after.board)
    ++ ending form rows (with_those is_gain changes []) (with_those is_loss changes [])))

abbrev pub AreSections : Form → Compared → (rows : ℕ) → (text : List ℕ) → Type 0
AreSections form c rows text = (commands : Listed) × AreCommandsListed form c commands
    × (text ≡ sections_shown form c rows commands)

-- What changes from one policy to another: rows, and what they change.
pub record IsDifferenceText (form : Form) (old new : PolicySide) (text : List ℕ) : Type 0 where
  pub both : Compared
  pub before : both.before ≡ old.room
  pub after : both.after ≡ new.room
  pub compared : IsCompared both
  pub sections : List ℕ
  pub are : AreSections form both (length (row_changes old.rows.items new.rows.items)) sections
  pub is : text ≡ rows_shown form (row_changes old.rows.items new.rows.items) ++ sections

-- whether rows differ
abbrev pub status_of : List RowChange → Status
status_of [] = Done
status_of (change ∷ changes) = Refused

-- This is the answer of two policies.
abbrev pub IsDifference : Form → (old new : PolicySide) → Result PrintedAnswer Fault → Type 0
IsDifference form old new (Ok answer) = IsDifferenceText form old new answer.0
    × (answer.1 ≡ status_of (row_changes old.rows.items new.rows.items))
IsDifference form old new (Err fault) = ⊥
