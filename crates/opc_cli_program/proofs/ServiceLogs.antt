-- The log of a service, stated without the tables.
use Rattle.std.proofs.Common.{◌≡◌, ℕ, Bool, List, Option, Some, None, Result, Ok, Err}
use Rattle.std.specs.Prelude.{⊤}
use Rattle.std.specs.declared.io.Error.{Error}
use Rattle.std.specs.declared.time.Duration.{Duration}
use Rattle.opc_terms.specs.declared.store_fault.StoreFault.{StoreFault}
use Rattle.opc_state.specs.Meaning.{Meaning}
use Rattle.opc_machine.specs.declared.request.Request.{Request}
use Rattle.opc_http_connections.specs.Links.{Link}
use Rattle.opc_http_requests.specs.declared.origins.Origins.{Origins}
use Rattle.opc_http_requests.specs.Asked.{MayRead}
use Rattle.opc_http_log.specs.declared.entry.LogEntry.{LogEntry}
use Rattle.opc_http.specs.Exchange.{Reply}
use Rattle.opc_http.specs.Told.{IsEntry, IsTold}
use Rattle.opc_http.specs.declared.exchanging.LinkFault.{LinkFault}
use Rattle.opc_http.specs.declared.exchanging.Served.{Served}
use Rattle.opc_http_serve.specs.Logging.{IsLogged, IsServiceExchange}
use Rattle.opc_http_serve.specs.Serving.{ServesClients}
use Rattle.opc_http_serve.specs.declared.arrival.ServeFault.{ServeFault}
use Rattle.opc_http_serve.specs.declared.service.Service.{Service}
use Rattle.opc_http_serve.proofs.Projecting.{all_served, cut_short}
use Rattle.opc_cli_program.specs.ServiceLogs.{AreShown, IsExchangeEntry, IsLineAdded}

module _ (origins : Origins) {T : Type 0} (m : Meaning T) where
  module _ (left : Option (List ℕ)) (old new : T) (moment : ℕ) (before after : Option (List ℕ)) (ended : Result Served LinkFault) where
    shown : (user : Result (Option (List ℕ)) StoreFault) (row : Result (Option ℕ) StoreFault) (request : Option Request) (reply : Option Reply)
        → IsTold origins m left old new moment before after ended user row request reply
        → AreShown origins left moment before after ended request reply
    shown user row (Some request) (Some (Ok answer)) told = (told.asked, told.written)
    shown user row (Some request) (Some (Err refusal)) told = absurd told
    shown user row (Some request) None told = absurd told
    shown user row None (Some (Ok answer)) told = absurd told
    shown user row None (Some (Err refusal)) told = (told.asked, told.written)
    shown user row None None told = told.unread

    entry_of : (entry : LogEntry) → IsEntry origins m left old new moment before after ended entry
        → IsExchangeEntry origins left moment before after ended entry
    entry_of entry is = record {
      at = is.at;
      status = is.status;
      shown = shown entry.user entry.row entry.request entry.reply is.told;
    }

    module _ {K : Type 0} (held : K → Option (List ℕ)) (has_failed : K → Bool) (entry : Option LogEntry) where
      line_added : (first last : Option K)
          → IsLogged held has_failed (λ told. (entry ≡ Some told) × IsEntry origins m left old new moment before after ended told) first last
          → IsLineAdded held has_failed origins first left moment before after ended last
      line_added None None logged = tt
      line_added None (Some log) logged = absurd logged
      line_added (Some log) None logged = absurd logged
      line_added (Some first) (Some last) (told, (same, is), line) = (told, entry_of told is, line)

  module _ {C G K N A : Type 0} (held : K → Option (List ℕ)) (has_failed : K → Bool) (holds : N → (folder text : List ℕ) → Bool → Type 0)
      (writes : N → (folder text : List ℕ) → A → Type 0) (publishes : N → (folder name : List ℕ) → A → Type 0) (link : Link C G)
      (comes : Result (Option (C × C)) Error → Type 0) (timer : G) (timeout : Option Duration) (old new : Service T K N) (count : ℕ) where
    -- the log of the clients that were served
    pub logged : {B : Type 0} (end : Result B ServeFault)
        → ServesClients link origins (IsServiceExchange held has_failed holds writes publishes origins m) comes timer timeout old count end new
        → ServesClients link origins (IsLineAdded held has_failed origins) comes timer timeout old.trail.log count end new.trail.log
    logged (Ok all) are =
        all_served {D = ⊤} link (λ _ _. ⊤) (MayRead origins) (IsServiceExchange held has_failed holds writes publishes origins m)
        (IsLineAdded held has_failed origins) (λ s. s.trail.log)
        (λ was left moment before after ended is one.
        line_added left was.gate is.gate moment before after ended held has_failed one.entry was.trail.log is.trail.log one.logged)
        (λ _ handles _. comes handles) (λ _ _ _. ⊤) timer timeout tt old count tt new (Ok all) are
    logged {B = B} (Err fault) cut =
        cut_short {D = ⊤} link (λ _ _. ⊤) (MayRead origins) (IsServiceExchange held has_failed holds writes publishes origins m)
        (IsLineAdded held has_failed origins) (λ s. s.trail.log)
        (λ was left moment before after ended is one.
        line_added left was.gate is.gate moment before after ended held has_failed one.entry was.trail.log is.trail.log one.logged)
        (λ _ handles _. comes handles) (λ _ _ _. ⊤) timer timeout tt old {A = B} count tt new (Err fault) cut
