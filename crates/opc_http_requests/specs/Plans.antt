-- What the head of a request states about its route and its body.
use Rattle.std.specs.Prelude.{ℕ, List, codes, map, take, Result, Ok, Err, if◌then◌else◌}
use Rattle.std.specs.Str.{bytes_eq}
use Rattle.httparse.specs.Spans.{header_bytes, span_bytes}
use Rattle.httparse.specs.declared.spans.HeaderSpan.{HeaderSpan}
use Rattle.httparse.specs.declared.spans.RequestSpans.{RequestSpans}
use Rattle.opc_http_requests.specs.Framing.{FieldLine, body_length}
use Rattle.opc_http_requests.specs.Origins.{admitted}
use Rattle.opc_http_requests.specs.Refusals.{◌>>=◌}
use Rattle.opc_http_requests.specs.declared.origins.Origins.{Origins}
use Rattle.opc_http_requests.specs.declared.refusal.Method.{Method}
use Rattle.opc_http_requests.specs.declared.refusal.Method.TheVariants.{Get, Post}
use Rattle.opc_http_requests.specs.declared.refusal.HttpRefusal.{HttpRefusal}
use Rattle.opc_http_requests.specs.declared.refusal.HttpRefusal.TheVariants.{MethodNotAllowed}
use Rattle.opc_http_requests.specs.declared.routes.Route.{Route}
use Rattle.opc_http_requests.specs.declared.routes.Route.TheVariants.{Command, Admin, Import, ListProfiles, ListAccount}
use Rattle.opc_http_requests.specs.Paths.{path_in, route_in}
use Rattle.opc_http_requests.specs.declared.plan.Plan.{Plan}

-- the one method of a route
abbrev pub method_of : Route → Method
method_of Command = Post
method_of Admin = Post
method_of Import = Post
method_of ListProfiles = Get
method_of ListAccount = Get

abbrev pub method_text : Method → List ℕ
method_text Get = codes "GET"
method_text Post = codes "POST"

-- the request has the one method of its path
abbrev pub has_method : (name : List ℕ) → Method → Result Unit HttpRefusal
has_method name method = if bytes_eq name (method_text method) then Ok tt else Err (MethodNotAllowed method)

-- the route and the length of the body, or the first refusal: that it is not accepted from there comes first
abbrev pub plan_of : Origins → (method target : List ℕ) → (fields : List FieldLine) → Result Plan HttpRefusal
plan_of origins method target fields = do
  _ ← admitted origins fields
  path ← path_in target
  route ← route_in path
  _ ← has_method method (method_of route)
  length ← body_length fields
  Ok (record { route = route; length = length })

-- the same for the head that these bytes begin with, if the spans find its parts
abbrev pub plan_in : Origins → List ℕ → List HeaderSpan → RequestSpans → Result Plan HttpRefusal
plan_in origins buf headers spans = plan_of origins (span_bytes buf spans.method) (span_bytes buf spans.path)
    (map (header_bytes buf) (take spans.headers headers))
