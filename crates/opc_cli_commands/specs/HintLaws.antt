-- What hints have to do with the reader of commands, and what they do not show.
use Rattle.std.specs.Prelude.{
  ◌≡◌,
  ◌++◌,
  ◌∷◌,
  ◌==◌,
  ℕ,
  List,
  [],
  Option,
  Some,
  None,
  Result,
  Ok,
  Err,
  codes,
  flat_map,
  if◌then◌else◌,
  length,
  map,
}
use Rattle.opc_names.specs.Spellings.{lookup}
use Rattle.opc_reader_commands.specs.declared.command.Command.{Command}
use Rattle.opc_reader.specs.declared.line.ReadFault.{ReadFault}
use Rattle.opc_reader.specs.declared.verb.Verb.{Verb}
use Rattle.opc_reader.specs.Forms.{verb_of}
use Rattle.opc_reader.specs.Reading.{reading}
use Rattle.opc_reader.specs.Verbs.{verbs}
use Rattle.opc_cli_commands.specs.Commands.{forms}
use Rattle.opc_cli_commands.specs.Hints.{bad_line, typed}
use Rattle.opc_cli_commands.specs.Nearest.{distance}
use Rattle.opc_cli_commands.specs.Operands.{verb_part}
use Rattle.opc_cli_commands.specs.VerbRows.{VerbSpellings, shortest, verb_rows}

-- A word is at distance 0 from itself, and from no other.
pub record DistancesAreOfWords : Type 0 where
  pub itself : (word : List ℕ) → distance word word ≡ 0
  pub alone : (word other : List ℕ) → distance word other ≡ 0 → word ≡ other

abbrev pub spellings : VerbSpellings → List (List ℕ)
spellings row = row.full ∷ (if length row.short == 0 then [] else row.short ∷ [])

abbrev pub verb_read : Result Command ReadFault → Option Verb
verb_read (Ok command) = Some (verb_of command)
verb_read (Err fault) = None

-- The verbs are those of the reader, in its order, with all their spellings. Both spellings of a row are one verb, and
-- the verb that a form of the table shows is that of the command that the form's line is.
pub record VerbsAreTheReaders : Type 0 where
  pub spelled : flat_map spellings verb_rows ≡ map (λ row. row.0) verbs
  pub paired : map (λ row. lookup verbs row.full) verb_rows ≡ map (λ row. lookup verbs (shortest row)) verb_rows
  pub shown : map (λ form. lookup verbs (verb_part form.shown)) forms
      ≡ map (λ form. verb_read (reading form.line)) forms

-- Whatever stands behind a LOGON that is no command, the same is shown of it: no password.
pub record HintsShowNoPassword : Type 0 where
  pub upper : (one other : List ℕ)
      → bad_line (typed (codes "LOGON " ++ one)) ≡ bad_line (typed (codes "LOGON " ++ other))
  pub lower : (one other : List ℕ)
      → bad_line (typed (codes "logon " ++ one)) ≡ bad_line (typed (codes "logon " ++ other))
