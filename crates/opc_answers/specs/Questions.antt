-- What the subject of a question needs.
use Rattle.std.specs.Prelude.{ℕ, List, Option, Some, None, Result, Ok, Err, if◌then◌else◌}
use Rattle.opc_terms.specs.declared.fault.Fault.{Fault}
use Rattle.opc_terms.specs.declared.fault.Fault.TheVariants.{NoConsole}
use Rattle.opc_terms.specs.declared.need.Need.{Need}
use Rattle.opc_terms.specs.declared.unit_kind.UnitKindAt.{UnitKindAt}
use Rattle.opc_answers.specs.declared.question.About.{About}
use Rattle.opc_answers.specs.declared.question.About.TheVariants.{Command, Access}
use Rattle.opc_answers.specs.declared.wanted.Wanted.{Wanted}
use Rattle.opc_answers.specs.declared.wanted.Wanted.TheVariants as wanted
use Rattle.opc_answers.specs.Needed.{is_logon, line_in, need_in, unit_in}

-- for a command: what it needs, if it needs anything, what its unit was taken for, and what the line needs that it
-- asks for; or why the text is no command
abbrev pub wanted_by : Result (Option Need) Fault → (unit : Option UnitKindAt) → (line : Option Need)
    → Result (Option Wanted) Fault
wanted_by (Ok None) unit line = Ok None
wanted_by (Ok (Some need)) unit line = Ok (Some (wanted.Command (record { need = need; unit = unit; line = line })))
wanted_by (Err fault) unit line = Err fault

-- for a LOGON: the console at which it is typed
abbrev pub logon_at : (console : Option (List ℕ)) → Result (Option Wanted) Fault
logon_at None = Err NoConsole
logon_at (Some name) = Ok (Some (wanted.Logon name))

abbrev pub wanted_of : About → (console : Option (List ℕ)) → Result (Option Wanted) Fault
wanted_of (Command text kind) console =
    if is_logon text.now then logon_at console else
    wanted_by (need_in text.now kind) (unit_in text.now kind) (line_in text.now)
wanted_of (Access class resource level) console = Ok (Some (wanted.Access class resource level))
