-- What strictness means for those who run a service.
use Rattle.std.specs.Prelude.{◌≡◌, ℕ, true, false, List, map, Result, Ok, Err}
use Rattle.httparse.specs.Grammar.{RequestHead}
use Rattle.httparse.specs.Spans.{name_and_value}
use Rattle.opc_machine.specs.declared.request.Request.{Request}
use Rattle.opc_http_requests.specs.Head.{HasHead}
use Rattle.opc_http_requests.specs.Origins.{is_local}
use Rattle.opc_http_requests.specs.declared.origins.Origins.TheVariants.{Any, Only}
use Rattle.opc_http_requests.specs.declared.refusal.HttpRefusal.{HttpRefusal}
use Rattle.opc_http_requests.specs.declared.refusal.HttpRefusal.TheVariants.{Forbidden}
use Rattle.opc_http_requests.specs.Asked.{AsksOnly}

-- The bytes have a head that no web page sent, by its fields, and that is for what is served at the port; or a head
-- whose fields do not state this.
pub record IsFromHere (port : ℕ) (all : List ℕ) : Type 0 where
  pub head : RequestHead
  pub has : HasHead all head
  pub is : is_local port (map name_and_value head.fields) ≡ true

pub record MayBeFromPage (port : ℕ) (all : List ℕ) : Type 0 where
  pub head : RequestHead
  pub has : HasHead all head
  pub is : is_local port (map name_and_value head.fields) ≡ false

-- What a web page may have sent is forbidden.
abbrev pub WebPagesAreForbidden : Type 0
WebPagesAreForbidden = (port : ℕ) (all : List ℕ) → MayBeFromPage port all → AsksOnly (Only port) all (Err Forbidden)

-- What is requested comes from this computer.
abbrev pub WhatIsAskedIsFromHere : Type 0
WhatIsAskedIsFromHere = (port : ℕ) (all : List ℕ) (request : Request)
    → AsksOnly (Only port) all (Ok request) → IsFromHere port all

-- What comes from this computer asks for the same as without strictness.
abbrev pub AsksForTheSame : Type 0
AsksForTheSame = (port : ℕ) (all : List ℕ) (asked : Result Request HttpRefusal) → IsFromHere port all
    → AsksOnly Any all asked → AsksOnly (Only port) all asked
