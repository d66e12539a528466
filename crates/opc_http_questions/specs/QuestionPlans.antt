-- What the head of a request to `decide` states about its route and its body.
use Rattle.std.specs.Prelude.{ℕ, List, map, take, Option, Some, None, Result, Ok, Err}
use Rattle.httparse.specs.Spans.{header_bytes, span_bytes}
use Rattle.httparse.specs.declared.spans.HeaderSpan.{HeaderSpan}
use Rattle.httparse.specs.declared.spans.RequestSpans.{RequestSpans}
use Rattle.opc_http_requests.specs.Framing.{FieldLine, body_length}
use Rattle.opc_http_requests.specs.Origins.{admitted}
use Rattle.opc_http_requests.specs.Plans.{has_method}
use Rattle.opc_http_requests.specs.Refusals.{◌>>=◌}
use Rattle.opc_http_requests.specs.declared.origins.Origins.{Origins}
use Rattle.opc_http_requests.specs.declared.refusal.HttpRefusal.{HttpRefusal}
use Rattle.opc_http_requests.specs.declared.refusal.HttpRefusal.TheVariants.{NotFound}
use Rattle.opc_http_questions.specs.DecideRoutes.{method_of, route_of}
use Rattle.opc_http_questions.specs.declared.plan.QuestionPlan.{QuestionPlan}
use Rattle.opc_http_questions.specs.declared.routes.DecideRoute.{DecideRoute}

-- a path without a route is not found
abbrev pub found : Option DecideRoute → Result DecideRoute HttpRefusal
found None = Err NotFound
found (Some route) = Ok route

-- the route and the length of the body, or the first refusal: that it is not accepted from there comes first
abbrev pub plan_of : Origins → (method target : List ℕ) → (fields : List FieldLine) → Result QuestionPlan HttpRefusal
plan_of origins method target fields = do
  _ ← admitted origins fields
  route ← found (route_of target)
  _ ← has_method method (method_of route)
  length ← body_length fields
  Ok (record { route = route; length = length })

-- the same for the head that these bytes begin with, if the spans find its parts
abbrev pub plan_in : Origins → List ℕ → List HeaderSpan → RequestSpans → Result QuestionPlan HttpRefusal
plan_in origins buf headers spans = plan_of origins (span_bytes buf spans.method) (span_bytes buf spans.path)
    (map (header_bytes buf) (take spans.headers headers))
