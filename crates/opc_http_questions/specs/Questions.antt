-- What the bytes of a connection ask of `decide`, and how many of them are read.
use Rattle.std.specs.Prelude.{◌≡◌, ◌⊎◌, ℕ, List, drop, length, map, None, Result, Ok, Err}
use Rattle.httparse.specs.Grammar.{RequestHead, print_request}
use Rattle.httparse.specs.Spans.{name_and_value}
use Rattle.opc_http_requests.specs.Head.{HasHead, NoHead}
use Rattle.opc_http_requests.specs.Messages.{MayReadMessage}
use Rattle.opc_http_requests.specs.Refusals.{◌>>=◌}
use Rattle.opc_http_requests.specs.Requests.{body_in}
use Rattle.opc_http_requests.specs.declared.origins.Origins.{Origins}
use Rattle.opc_http_requests.specs.declared.refusal.HttpRefusal.{HttpRefusal}
use Rattle.opc_http_requests.specs.declared.refusal.HttpRefusal.TheVariants.{BadRequest}
use Rattle.opc_http_requests.specs.declared.refusal.InvalidPart.TheVariants.{Head}
use Rattle.opc_http_questions.specs.Asked.{Asked}
use Rattle.opc_http_questions.specs.QuestionPlans.{plan_of}
use Rattle.opc_http_questions.specs.RequestIds.{request_id}
use Rattle.opc_http_questions.specs.declared.plan.QuestionPlan.{QuestionPlan}
use Rattle.opc_http_questions.specs.declared.question.DecideRequest.{DecideRequest}

-- the outcome of a plan, with the bytes that follow the head
abbrev pub planned : (left : List ℕ) → QuestionPlan → Result Asked HttpRefusal
planned left plan = do
  body ← body_in plan.length left
  Ok (record { route = plan.route; body = body })

-- the length of the body that is read, if one is
abbrev pub body_part : Result QuestionPlan HttpRefusal → ℕ
body_part (Ok plan) = plan.length
body_part (Err why) = 0

-- a request whose head is none has no id
abbrev pub headless : DecideRequest
headless = record { id = None; question = Err (BadRequest Head) }

-- if requests are accepted from there
module _ (origins : Origins) where
  abbrev pub plan_by : RequestHead → Result QuestionPlan HttpRefusal
  plan_by head = plan_of origins head.method head.target (map name_and_value head.fields)

  -- how many bytes of a body are read after a head; of one that is refused no body is read
  abbrev pub question_length : RequestHead → ℕ
  question_length head = body_part (plan_by head)

  -- when a read may be made, by the bytes before it and how many it gives
  abbrev pub MayReadQuestion : List ℕ → ℕ → Type 0
  MayReadQuestion before count = MayReadMessage question_length before count

  -- the request that a head and the bytes after it are
  abbrev pub request_of : RequestHead → (left : List ℕ) → DecideRequest
  request_of head left = record {
    id = request_id (map name_and_value head.fields);
    question = plan_by head >>= planned left;
  }

  -- the bytes have a head, and this is the request
  pub record PutsByHead (all : List ℕ) (request : DecideRequest) : Type 0 where
    pub head : RequestHead
    pub has : HasHead all head
    pub is : request ≡ request_of head (drop (length (print_request head)) all)

  -- the request that the bytes of a connection put: a question, or the first refusal
  abbrev pub Puts : List ℕ → DecideRequest → Type 0
  Puts all request = (NoHead all × (request ≡ headless)) ⊎ PutsByHead all request

  -- and no other
  pub record PutsOnly (all : List ℕ) (request : DecideRequest) : Type 0 where
    pub puts : Puts all request
    pub only : (other : DecideRequest) → Puts all other → other ≡ request
