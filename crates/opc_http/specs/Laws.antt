-- The outcome of an exchange with a web page if a service is strict.
use Rattle.std.specs.Prelude.{◌≡◌, ℕ, false, List, Option, Some}
use Rattle.std.specs.Io.KnownBytes.{Appends}
use Rattle.opc_http_requests.specs.declared.origins.Origins.TheVariants.{Only}
use Rattle.opc_http_requests.specs.declared.refusal.HttpRefusal.TheVariants.{Forbidden}
use Rattle.opc_http_requests.specs.Laws.{MayBeFromPage}
use Rattle.opc_http_responses.specs.Responses.{refusal_response}
use Rattle.opc_state.specs.Meaning.{Meaning}
use Rattle.opc_http.specs.Exchange.{IsServed}
use Rattle.opc_http.specs.declared.exchanging.Served.{Served}

module _ {T K : Type 0} (m : Meaning T) (held : K → Option (List ℕ)) where
  -- Nothing was handled and nothing changed, and the response that states this was written.
  pub record IsForbidden (before after : K) (old new : T) (served : Served) : Type 0 where
    pub same : new ≡ old
    pub handled : served.handled ≡ false
    pub status : served.status ≡ 403
    pub written : Appends (held before) (held after) (refusal_response Forbidden)

  -- An exchange that is served is forbidden if a web page may have sent its bytes.
  abbrev pub WebPagesChangeNothing : Type 0
  WebPagesChangeNothing = (port : ℕ) (all : List ℕ) (before after : K) (old new : T) (moment : ℕ) (served : Served)
      → MayBeFromPage port all → IsServed (Only port) m held (Some all) before after old new moment served
      → IsForbidden before after old new served
