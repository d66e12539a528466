-- An exchange with a web page if a service is strict.
use Rattle.std.proofs.Common.{◌≡◌, ℕ, List, Option, Result, Ok, Err, Some, subst}
use Rattle.opc_machine.specs.declared.request.Request.{Request}
use Rattle.opc_http_requests.specs.declared.origins.Origins.TheVariants.{Only}
use Rattle.opc_http_requests.specs.declared.refusal.HttpRefusal.{HttpRefusal}
use Rattle.opc_http_requests.specs.declared.refusal.HttpRefusal.TheVariants.{Forbidden}
use Rattle.opc_http_requests.specs.Asked.{AsksOnly}
use Rattle.opc_http_requests.proofs.Strictness.{web_pages_are_forbidden}
use Rattle.opc_state.specs.Meaning.{Meaning}
use Rattle.opc_http.specs.Exchange.{IsReplyWritten, Replies, Reply}
use Rattle.opc_http.specs.Laws.{IsForbidden, WebPagesChangeNothing}
use Rattle.opc_http.specs.declared.exchanging.Served.{Served}

no_request : (request : Request) (why : HttpRefusal) → Path (Result Request HttpRefusal) (Ok request) (Err why) → ⊥
no_request request why e = cc

same_refusal : (one other : HttpRefusal) → Path (Result Request HttpRefusal) (Err one) (Err other) → one ≡ other
same_refusal one other e = cc

module _ {T K : Type 0} (m : Meaning T) (held : K → Option (List ℕ)) where
  forbidden : (port : ℕ) (all : List ℕ) (before after : K) (old new : T) (moment : ℕ) (served : Served)
      → AsksOnly (Only port) all (Err Forbidden) → (reply : Reply) → Replies (Only port) m (Some all) old new moment reply
      → IsReplyWritten held reply before after served → IsForbidden m held before after old new served
  forbidden port all before after old new moment served asks (Ok answer) step reported =
      absurd (no_request step.request Forbidden (asks.only (Ok step.request) step.asked.asks))
  forbidden port all before after old new moment served asks (Err refusal) replies reported =
      let is : refusal ≡ Forbidden = same_refusal refusal Forbidden (asks.only (Err refusal) replies.0.asks) in
      let forbids : IsReplyWritten held (Err Forbidden) before after served =
      subst (λ (why : HttpRefusal). IsReplyWritten held (Err why) before after served) is reported in
      record { same = replies.1; handled = forbids.handled; status = forbids.status; written = forbids.written }

  pub web_pages_change_nothing : WebPagesChangeNothing m held
  web_pages_change_nothing port all before after old new moment served page is =
      forbidden port all before after old new moment served (web_pages_are_forbidden port all page) is.reply is.replies is.reported
