-- What happens to consoles.
use Rattle.std.specs.Prelude.{Bool, true, false, not, ◌&&◌, if◌then◌else◌, List, [], ◌∷◌, Option, Some, None}
use Rattle.opc_names.specs.declared.auth.Auth.{Auth}
use Rattle.opc_terms.specs.declared.mode.Mode.{Mode}
use Rattle.opc_rows.specs.Ordered.{put, changed}
use Rattle.opc_board.specs.declared.rows.ConsoleRow.{ConsoleRow}
use Rattle.opc_board.specs.declared.board.BoardRows.{BoardRows}
use Rattle.opc_board.specs.declared.fault.BoardFault.{BoardFault}
use Rattle.opc_board.specs.declared.fault.BoardFault.TheVariants.{NoTarget, LastMaster}
use Rattle.opc_board.specs.Invariants.{Name, is, console_before, console_at, has_master}
use Rattle.opc_board.specs.Outcome.{BoardOutcome, done, faults_or, found, ◌>>=◌}

-- consoles with this row in place of the one of its name
abbrev pub replaced : ConsoleRow → List ConsoleRow → List ConsoleRow
replaced row consoles = changed (λ c. is c.name row.name) (λ c. row) consoles

abbrev pub with_console : ConsoleRow → BoardRows → BoardRows
with_console row b = record b { consoles = replaced row b.consoles }

-- The last online console with AUTH MASTER is lost: there was one before, and there is none after.
abbrev pub loses_master : List ConsoleRow → List ConsoleRow → Bool
loses_master old new = has_master old && not (has_master new)

-- a console becomes this row, unless that loses the last master
abbrev pub vary_faults : ConsoleRow → BoardRows → List (Bool × BoardFault)
vary_faults row b = (loses_master b.consoles (replaced row b.consoles), LastMaster) ∷ []

abbrev pub varied : ConsoleRow → BoardRows → BoardOutcome
varied row b = faults_or (vary_faults row b) (done (with_console row b))

-- V CN(name),ONLINE
abbrev pub vary_console_online : Name → BoardRows → BoardOutcome
vary_console_online name b = do
  console ← found NoTarget (console_at b name)
  varied (record console { online = true }) b

-- V CN(name),OFFLINE: nobody is logged on there afterwards, unless it was offline already
abbrev pub put_offline : ConsoleRow → ConsoleRow
put_offline c = if c.online then record c { online = false; user = None } else c

abbrev pub vary_console_offline : Name → BoardRows → BoardOutcome
vary_console_offline name b = do
  console ← found NoTarget (console_at b name)
  varied (put_offline console) b

-- V CN(name),AUTH=auth
abbrev pub vary_console_auth : Name → Auth → BoardRows → BoardOutcome
vary_console_auth name auth b = do
  console ← found NoTarget (console_at b name)
  varied (record console { auth = auth }) b

-- E CN(name): nobody is logged on there afterwards
abbrev pub reset_console : Name → BoardRows → BoardOutcome
reset_console name b = do
  console ← found NoTarget (console_at b name)
  done (with_console (record console { user = None }) b)

-- the board with a change at one console
abbrev pub at_console : Name → (ConsoleRow → ConsoleRow) → BoardRows → BoardRows
at_console name change b = record b { consoles = changed (λ c. is c.name name) change b.consoles }

-- MN and PM: whether the console shows job messages
abbrev pub monitored : Name → Bool → BoardRows → BoardRows
monitored name monitor b = at_console name (λ c. record c { monitor = monitor }) b

-- a user logs on at a console, or off
abbrev pub logged_on : Name → Name → BoardRows → BoardRows
logged_on name user b = at_console name (λ c. record c { user = Some user }) b

abbrev pub logged_off : Name → BoardRows → BoardRows
logged_off name b = at_console name (λ c. record c { user = None }) b

-- a console with this authority and mode: a new one is online with nobody logged on, and another keeps all else
abbrev pub new_console : Name → Auth → Mode → ConsoleRow
new_console name auth mode = record {
  name = name;
  auth = auth;
  mode = mode;
  online = true;
  user = None;
  monitor = false;
}

abbrev pub defined : Name → Auth → Mode → Option ConsoleRow → BoardRows → BoardRows
defined name auth mode None b = record b { consoles = put console_before (new_console name auth mode) b.consoles }
defined name auth mode (Some console) b = with_console (record console { auth = auth; mode = mode }) b

abbrev pub console_defined : Name → Auth → Mode → BoardRows → BoardRows
console_defined name auth mode b = defined name auth mode (console_at b name) b
