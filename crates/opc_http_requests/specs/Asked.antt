-- What the bytes of a connection ask for, and how many of them are read.
use Rattle.std.specs.Prelude.{◌≡◌, ◌⊎◌, ℕ, List, drop, length, map, Option, Result, Ok, Err}
use Rattle.httparse.specs.Grammar.{RequestHead, print_request}
use Rattle.httparse.specs.Spans.{name_and_value}
use Rattle.opc_machine.specs.declared.request.Request.{Request}
use Rattle.opc_http_requests.specs.Head.{HasHead, NoHead}
use Rattle.opc_http_requests.specs.declared.origins.Origins.{Origins}
use Rattle.opc_http_requests.specs.declared.refusal.HttpRefusal.{HttpRefusal}
use Rattle.opc_http_requests.specs.declared.refusal.HttpRefusal.TheVariants.{BadRequest}
use Rattle.opc_http_requests.specs.declared.refusal.InvalidPart.TheVariants.{Head}
use Rattle.opc_http_requests.specs.Messages.{MayReadMessage, StopsAtMessage}
use Rattle.opc_http_requests.specs.Plans.{plan_of}
use Rattle.opc_http_requests.specs.Requests.{request_of}
use Rattle.opc_http_requests.specs.declared.plan.Plan.{Plan}

-- the length of the body that is read, if one is
abbrev pub body_part : Result Plan HttpRefusal → ℕ
body_part (Ok plan) = plan.length
body_part (Err why) = 0

-- if requests are accepted from there
module _ (origins : Origins) where
  -- the bytes have a head, and this is its outcome
  pub record AsksByHead (all : List ℕ) (asked : Result Request HttpRefusal) : Type 0 where
    pub head : RequestHead
    pub has : HasHead all head
    pub is : asked ≡ request_of origins head (drop (length (print_request head)) all)

  -- what the bytes of a connection ask for: a request, or the first refusal
  abbrev pub Asks : List ℕ → Result Request HttpRefusal → Type 0
  Asks all asked = (NoHead all × (asked ≡ Err (BadRequest Head))) ⊎ AsksByHead all asked

  -- and nothing else
  pub record AsksOnly (all : List ℕ) (asked : Result Request HttpRefusal) : Type 0 where
    pub asks : Asks all asked
    pub only : (other : Result Request HttpRefusal) → Asks all other → other ≡ asked

  -- how many bytes of a body are read after a head; of one that is refused no body is read
  abbrev pub body_length_of : RequestHead → ℕ
  body_length_of head = body_part (plan_of origins head.method head.target (map name_and_value head.fields))

  -- when a read may be made, by the bytes before it and how many it gives
  abbrev pub MayRead : List ℕ → ℕ → Type 0
  MayRead before count = MayReadMessage body_length_of before count

  -- No read goes past the end of the body, except the last one of those that look for the head.
  abbrev pub StopsAtEnd : (all : List ℕ) (after : Option (List ℕ)) → Type 0
  StopsAtEnd all after = StopsAtMessage body_length_of all after
