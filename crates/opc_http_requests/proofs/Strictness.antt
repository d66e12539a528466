-- What a strict service accepts.
use Rattle.std.proofs.Common.{◌≡◌, ◌∙◌, ℕ, List, Ok, Err, inl, inr, true, false, drop, length, map, refl, subst, sym}
use Rattle.std.specs.Prelude.{Result}
use Rattle.std.proofs.lemmas.Bool.{cases_Bool}
use Rattle.httparse.specs.Grammar.{RequestHead, print_request}
use Rattle.httparse.specs.Spans.{name_and_value}
use Rattle.opc_machine.specs.declared.request.Request.{Request}
use Rattle.opc_http_requests.specs.Origins.{is_local}
use Rattle.opc_http_requests.specs.declared.origins.Origins.TheVariants.{Any, Only}
use Rattle.opc_http_requests.specs.declared.refusal.HttpRefusal.{HttpRefusal}
use Rattle.opc_http_requests.specs.declared.refusal.HttpRefusal.TheVariants.{BadRequest, Forbidden}
use Rattle.opc_http_requests.specs.declared.refusal.InvalidPart.TheVariants.{Head}
use Rattle.opc_http_requests.specs.Asked.{Asks, AsksOnly}
use Rattle.opc_http_requests.specs.Laws.{AsksForTheSame, IsFromHere, WebPagesAreForbidden, WhatIsAskedIsFromHere}
use Rattle.opc_http_requests.specs.Requests.{request_of}
use Rattle.opc_http_requests.proofs.Requester.{asks-only, one-head}

refused : (port : ℕ) (head : RequestHead) (left : List ℕ) → is_local port (map name_and_value head.fields) ≡ false
    → request_of (Only port) head left ≡ Err Forbidden
refused port head left is = rw is refl

taken : (port : ℕ) (head : RequestHead) (left : List ℕ) → is_local port (map name_and_value head.fields) ≡ true
    → request_of (Only port) head left ≡ request_of Any head left
taken port head left is = rw is refl

pub web_pages_are_forbidden : WebPagesAreForbidden
web_pages_are_forbidden port all page =
    asks-only (Only port) all (Err Forbidden) (inr (record {
      head = page.head;
      has = page.has;
      is = sym (refused port page.head (drop (length (print_request page.head)) all) page.is);
    }))

no_refusal : (request : Request) (why : HttpRefusal) → Path (Result Request HttpRefusal) (Ok request) (Err why) → ⊥
no_refusal request why e = cc

from_here : (port : ℕ) (all : List ℕ) (request : Request) → AsksOnly (Only port) all (Ok request)
    → Asks (Only port) all (Ok request) → IsFromHere port all
from_here port all request asks (inl none) = absurd (no_refusal request (BadRequest Head) none.1)
from_here port all request asks (inr by) = elim (cases_Bool (is_local port (map name_and_value by.head.fields))) [
  | inl is ↦ record { head = by.head; has = by.has; is = is }
  | inr other ↦ absurd (no_refusal request Forbidden
      (sym (asks.only (Err Forbidden) (web_pages_are_forbidden port all (record { head = by.head; has = by.has; is = other })).asks)))
]

pub what_is_asked_is_from_here : WhatIsAskedIsFromHere
what_is_asked_is_from_here port all request asks = from_here port all request asks asks.asks

by_head : (port : ℕ) (all : List ℕ) (asked : Result Request HttpRefusal) → IsFromHere port all → Asks Any all asked → Asks (Only port) all asked
by_head port all asked here (inl none) = inl none
by_head port all asked here (inr by) =
    let same : here.head ≡ by.head = one-head all here.head by.head here.has by.has in
    let local : is_local port (map name_and_value by.head.fields) ≡ true =
    subst (λ (head : RequestHead). is_local port (map name_and_value head.fields) ≡ true) same here.is in
    inr (record {
      head = by.head;
      has = by.has;
      is = by.is ∙ sym (taken port by.head (drop (length (print_request by.head)) all) local);
    })

pub asks_for_the_same : AsksForTheSame
asks_for_the_same port all asked here asks = asks-only (Only port) all asked (by_head port all asked here asks.asks)
