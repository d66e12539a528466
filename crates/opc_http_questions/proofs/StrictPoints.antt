-- What a strict decision point accepts.
use Rattle.std.proofs.Common.{◌≡◌, ◌∙◌, ℕ, List, Err, inl, inr, true, false, drop, length, map, refl, subst, sym}
use Rattle.httparse.specs.Grammar.{RequestHead, print_request}
use Rattle.httparse.specs.Spans.{name_and_value}
use Rattle.opc_http_requests.specs.Laws.{IsFromHere, MayBeFromPage}
use Rattle.opc_http_requests.specs.Origins.{is_local}
use Rattle.opc_http_requests.specs.declared.origins.Origins.TheVariants.{Any, Only}
use Rattle.opc_http_requests.specs.declared.refusal.HttpRefusal.TheVariants.{Forbidden}
use Rattle.opc_http_requests.proofs.Requester.{one-head}
use Rattle.opc_http_questions.specs.Questions.{Puts, plan_by, request_of}
use Rattle.opc_http_questions.specs.StrictQuestions.{PutsTheSame, WebPagesPutNothing}
use Rattle.opc_http_questions.specs.declared.question.DecideRequest.{DecideRequest}
use Rattle.opc_http_questions.proofs.Putting.{puts-only}

refused : (port : ℕ) (head : RequestHead) → is_local port (map name_and_value head.fields) ≡ false → plan_by (Only port) head ≡ Err Forbidden
refused port head is = rw is refl

taken : (port : ℕ) (head : RequestHead) (left : List ℕ) → is_local port (map name_and_value head.fields) ≡ true
    → request_of (Only port) head left ≡ request_of Any head left
taken port head left is = rw is refl

forbidden : (port : ℕ) (all : List ℕ) (request : DecideRequest) → MayBeFromPage port all → Puts (Only port) all request
    → request.question ≡ Err Forbidden
forbidden port all request page (inl none) = absurd (none.0 page.head page.has)
forbidden port all request page (inr by) =
    let same : page.head ≡ by.head = one-head all page.head by.head page.has by.has in
    let other : is_local port (map name_and_value by.head.fields) ≡ false =
    subst (λ (head : RequestHead). is_local port (map name_and_value head.fields) ≡ false) same page.is in
    rw (by.is, refused port by.head other) refl

pub web_pages_put_nothing : WebPagesPutNothing
web_pages_put_nothing port all request page puts = forbidden port all request page puts.puts

by_head : (port : ℕ) (all : List ℕ) (request : DecideRequest) → IsFromHere port all → Puts Any all request → Puts (Only port) all request
by_head port all request here (inl none) = inl none
by_head port all request here (inr by) =
    let same : here.head ≡ by.head = one-head all here.head by.head here.has by.has in
    let local : is_local port (map name_and_value by.head.fields) ≡ true =
    subst (λ (head : RequestHead). is_local port (map name_and_value head.fields) ≡ true) same here.is in
    inr (record {
      head = by.head;
      has = by.has;
      is = by.is ∙ sym (taken port by.head (drop (length (print_request by.head)) all) local);
    })

pub puts_the_same : PutsTheSame
puts_the_same port all request here puts = puts-only (Only port) all request (by_head port all request here puts.puts)
