-- What strictness means for those who run a decision point.
use Rattle.std.specs.Prelude.{◌≡◌, ℕ, List, Err}
use Rattle.opc_http_requests.specs.Laws.{IsFromHere, MayBeFromPage}
use Rattle.opc_http_requests.specs.declared.origins.Origins.TheVariants.{Any, Only}
use Rattle.opc_http_requests.specs.declared.refusal.HttpRefusal.TheVariants.{Forbidden}
use Rattle.opc_http_questions.specs.Questions.{PutsOnly}
use Rattle.opc_http_questions.specs.declared.question.DecideRequest.{DecideRequest}

-- What a web page may have sent is forbidden.
abbrev pub WebPagesPutNothing : Type 0
WebPagesPutNothing = (port : ℕ) (all : List ℕ) (request : DecideRequest) → MayBeFromPage port all
    → PutsOnly (Only port) all request → request.question ≡ Err Forbidden

-- What comes from this computer puts the same request as without strictness.
abbrev pub PutsTheSame : Type 0
PutsTheSame = (port : ℕ) (all : List ℕ) (request : DecideRequest) → IsFromHere port all
    → PutsOnly Any all request → PutsOnly (Only port) all request
