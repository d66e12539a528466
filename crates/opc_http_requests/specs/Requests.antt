-- The request that a head and the bytes after it are.
use Rattle.std.specs.Prelude.{ℕ, List, length, map, nat_le, take, Result, Ok, Err, if◌then◌else◌}
use Rattle.httparse.specs.Grammar.{RequestHead}
use Rattle.httparse.specs.Spans.{name_and_value}
use Rattle.opc_machine.specs.declared.request.Request.{Request}
use Rattle.opc_machine.specs.declared.request.Request.TheVariants as request
use Rattle.opc_http_requests.specs.Refusals.{◌>>=◌}
use Rattle.opc_http_requests.specs.declared.origins.Origins.{Origins}
use Rattle.opc_http_requests.specs.declared.refusal.HttpRefusal.{HttpRefusal}
use Rattle.opc_http_requests.specs.declared.refusal.HttpRefusal.TheVariants.{BadRequest}
use Rattle.opc_http_requests.specs.declared.refusal.InvalidPart.TheVariants.{CutShort}
use Rattle.opc_http_requests.specs.declared.routes.Route.{Route}
use Rattle.opc_http_requests.specs.declared.routes.Route.TheVariants.{Command, Admin, Import, ListProfiles, ListAccount}
use Rattle.opc_http_requests.specs.BodyValues.{command_in, operation_in, rows_in}
use Rattle.opc_http_requests.specs.Paths.{batch_in, class_in, console_in, count_in, from_in, path_in}
use Rattle.opc_http_requests.specs.Plans.{plan_of}
use Rattle.opc_http_requests.specs.declared.plan.Plan.{Plan}

-- this many bytes, if there are as many
abbrev pub body_in : ℕ → List ℕ → Result (List ℕ) HttpRefusal
body_in n left = if nat_le n (length left) then Ok (take n left) else Err (BadRequest CutShort)

-- what a route asks for at a console: the other values of the path, and then the body
abbrev pub request_by : Route → (console path body : List ℕ) → Result Request HttpRefusal
request_by Command console path body = do
  text ← command_in body
  Ok (request.Command console text)
request_by Admin console path body = do
  operation ← operation_in body
  Ok (request.Admin console operation)
request_by Import console path body = do
  batch ← batch_in path
  rows ← rows_in body
  Ok (request.Import console batch rows)
request_by ListProfiles console path body = do
  class ← class_in path
  Ok (request.ListProfiles console class)
request_by ListAccount console path body = do
  from ← from_in path
  count ← count_in path
  Ok (request.ListAccount console from count)

-- the console comes first
abbrev pub request_at : Route → (path body : List ℕ) → Result Request HttpRefusal
request_at route path body = do
  console ← console_in path
  request_by route console path body

-- the outcome of a plan, with the bytes that follow the head
abbrev pub planned : (target left : List ℕ) → Plan → Result Request HttpRefusal
planned target left plan = do
  body ← body_in plan.length left
  path ← path_in target
  request_at plan.route path body

-- the outcome of a head, with the bytes that follow it
abbrev pub request_of : Origins → RequestHead → List ℕ → Result Request HttpRefusal
request_of origins head left =
    plan_of origins head.method head.target (map name_and_value head.fields) >>= planned head.target left
