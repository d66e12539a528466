-- What the access machine may be asked: all six kinds of request.
use Rattle.std.specs.Prelude.{ℕ, List, Option, Some, None, map}
use Rattle.opc_names.specs.declared.class.Class.{Class}
use Rattle.opc_policy_members.specs.declared.row.Row.{Row}
use Rattle.opc_board.specs.declared.event.Event.{Event as BoardEvent}
use Rattle.opc_machine.specs.declared.request.Request.{Request}
use Rattle.opc_machine.specs.declared.request.Request.TheVariants as request
use Rattle.opc_machine.specs.declared.operation.Operation.{Operation}

pub data Input : Type 0 where
  -- a command line as it was typed at a console
  Command : (console text : List ℕ) → Input
  Admin : (console : List ℕ) → (operation : Operation) → Input
  -- the profiles of a class
  ListProfiles : (console : List ℕ) → (class : Class) → Input
  -- rows of the account from a number on, at most this many
  ListAccount : (console : List ℕ) → (from count : ℕ) → Input
  -- the rows of a written policy, as a batch with a number
  Import : (console : List ℕ) → (batch : ℕ) → (rows : List Row) → Input
  -- what happens in the machine room
  Event : (event : BoardEvent) → Input

abbrev pub input_of : Request → Input
input_of (request.Command console text) = Command console text
input_of (request.Admin console op) = Admin console op
input_of (request.ListProfiles console class) = ListProfiles console class
input_of (request.ListAccount console from count) = ListAccount console from count
input_of (request.Import console batch rows) = Import console batch rows
input_of (request.Event event) = Event event

-- requests and their timestamps
abbrev pub inputs_of : List (ℕ × Request) → List (ℕ × Input)
inputs_of requests = map (λ (r : ℕ × Request). (r.0, input_of r.1)) requests

-- the console that is named
abbrev pub console_of : Input → Option (List ℕ)
console_of (Command console text) = Some console
console_of (Admin console operation) = Some console
console_of (ListProfiles console class) = Some console
console_of (ListAccount console from count) = Some console
console_of (Import console batch rows) = Some console
console_of (Event event) = None
