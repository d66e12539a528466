-- The folder of a service, stated for the states that its tables represent.
use Rattle.std.proofs.Common.{◌≡◌, ◌∙◌, inl, inr, ℕ, Bool, List, Option, Some, None, Result, Ok, Err, ap, refl, subst, sym}
use Rattle.std.specs.Prelude.{IfSome, zero, suc, ⊤}
use Rattle.std.specs.Borrow.{Bor}
use Rattle.std.specs.declared.io.Error.{Error}
use Rattle.std.specs.declared.time.Duration.{Duration}
use Rattle.opc_state.specs.Meaning.{Meaning}
use Rattle.opc_state.specs.State.{State}
use Rattle.opc_http_connections.specs.Links.{Link}
use Rattle.opc_http_requests.specs.declared.origins.Origins.{Origins}
use Rattle.opc_http_requests.specs.Asked.{MayRead}
use Rattle.opc_http_log.specs.declared.entry.LogEntry.{LogEntry}
use Rattle.opc_http.specs.declared.exchanging.LinkFault.{LinkFault}
use Rattle.opc_http.specs.declared.exchanging.Served.{Served}
use Rattle.opc_http_serve.specs.Logging.{IsLogged, IsServiceExchange}
use Rattle.opc_http_serve.specs.Policies.{IsPolicyKept}
use Rattle.opc_http_serve.specs.Serving.{AreServed, IsTurn, ServesClients, by_bytes}
use Rattle.opc_http_serve.specs.declared.arrival.ServeFault.{ServeFault}
use Rattle.opc_http_serve.specs.declared.policies.PolicyFolder.{PolicyFolder}
use Rattle.opc_http_serve.specs.declared.service.Service.{Service}
use Rattle.opc_http_serve.specs.declared.service.ServiceTrail.{ServiceTrail}
use Rattle.opc_cli_program.specs.ServicePolicies.{IsPolicyExchange, IsStarted}

-- a start is sure only of tables that were
pub sure_before : {T : Type 0} (m : Meaning T) (path : Option (Bor (List ℕ))) (old new : T) → IsStarted m path old new
    → m.is_sure new → m.is_sure old
sure_before m None old new same sure = subst m.is_sure same sure
sure_before m (Some path) old new kept sure = kept.sure sure

-- what the entry has, if there is one, the entry has that was logged
line_of : {K : Type 0} (held : K → Option (List ℕ)) (has_failed : K → Bool) (has is : LogEntry → Type 0) (entry : Option LogEntry)
    (first last : Option K) → IfSome entry has → IsLogged held has_failed (λ told. (entry ≡ Some told) × is told) first last
    → IsLogged held has_failed has first last
line_of held has_failed has is entry None None so logged = tt
line_of held has_failed has is entry None (Some log) so logged = absurd logged
line_of held has_failed has is entry (Some log) None so logged = absurd logged
line_of held has_failed has is entry (Some first) (Some last) so (told, (same, _), line) =
    (told, subst (λ (e : Option LogEntry). IfSome e has) same so, line)

module _ {T K N A : Type 0} (held : K → Option (List ℕ)) (has_failed : K → Bool)
    (holds : N → (folder text : List ℕ) → Bool → Type 0) (writes : N → (folder text : List ℕ) → A → Type 0)
    (publishes : N → (folder name : List ℕ) → A → Type 0) (origins : Origins) (m : Meaning T) where
  -- an exchange leads from a state that the tables represent to one that they represent then
  exchanged : (old new : Service T K N) (left : Option (List ℕ)) (moment : ℕ) (before after : Option (List ℕ)) (ended : Result Served LinkFault)
      → IsServiceExchange held has_failed holds writes publishes origins m old left moment before after ended new → m.is_sure new.gate
      → (s : State) → m.represents old.gate s
      → (t : State) × m.represents new.gate t
      × IsPolicyExchange holds writes publishes held has_failed origins (s, old.trail) left moment before after ended (t, new.trail)
  exchanged old new left moment before after ended one sure s h = elim one.trailed [
    | inl un ↦ (
      s,
      subst (λ (t : T). m.represents t s) (sym un.same) h,
      inl (record {
        same = refl;
        folder = one.folder ∙ ap (λ (t : ServiceTrail K N). t.folder) un.unmoved;
        told = line_of held has_failed _ _ one.entry old.trail.log new.trail.log un.nothing one.logged;
      }),
    )
    | inr is ↦ let done = is.followed sure s h in (
      done.next,
      done.represented,
      inr (record {
        request = is.request;
        answer = is.answer;
        kept = is.kept;
        asked = is.asked;
        step = done.step;
        brought =
            subst (λ (folder : Option (PolicyFolder N)). IsPolicyKept holds writes publishes done.next moment is.request is.answer is.kept
            old.trail.folder folder) (sym one.folder) done.followed;
        written = is.written;
        told = line_of held has_failed _ _ one.entry old.trail.log new.trail.log is.told one.logged;
      }),
    )
  ]

  module _ {C G : Type 0} (link : Link C G) (comes : Result (Option (C × C)) Error → Type 0) (timer : G) (timeout : Option Duration) where
    turn : (met last : Unit {0}) (was new : Service T K N)
        → IsTurn link (λ _ _. ⊤) (MayRead origins) (by_bytes (IsServiceExchange held has_failed holds writes publishes origins m)) {D = ⊤}
        (λ _ handles _. comes handles) (λ _ _ _. ⊤) timer timeout met was last new
        → (m.is_sure new.gate → m.is_sure was.gate) × (m.is_sure new.gate → (s : State) → m.represents was.gate s
        → (t : State) × m.represents new.gate t
        × IsTurn link (λ _ _. ⊤) (MayRead origins) (by_bytes (IsPolicyExchange holds writes publishes held has_failed origins)) {D = ⊤}
        (λ _ handles _. comes handles) (λ _ _ _. ⊤) timer timeout met (s, was.trail) last (t, new.trail))
    turn met last was new (inl client) = (
      client.served.made.exchanged.sure,
      λ sure s h.
          let led = exchanged was new _ _ _ _ client.served.ended client.served.made sure s h in (
            led.0,
            led.1,
            inl (record {
              came = client.came;
              gone = client.gone;
              arrival = client.arrival;
              served = record {
                ended = client.served.ended;
                made = led.2;
                last = client.served.last;
                read = client.served.read;
                few = client.served.few;
                drained = client.served.drained;
              };
            }),
          ),
    )
    turn met last was new (inr (lost, idle)) = (
      λ sure. subst (λ (x : Service T K N). m.is_sure x.gate) idle sure,
      λ sure s h. (
        s,
        subst (λ (x : Service T K N). m.represents x.gate s) (sym idle) h,
        inr (lost, ap (λ (x : Service T K N). (s, x.trail)) idle),
      ),
    )

    module _ (old : Service T K N) where
      served : (n : ℕ) (last : Unit {0}) (new : Service T K N)
          → AreServed link (λ _ _. ⊤) (MayRead origins) (by_bytes (IsServiceExchange held has_failed holds writes publishes origins m)) {D = ⊤}
          (λ _ handles _. comes handles) (λ _ _ _. ⊤) timer timeout tt old n last new
          → m.is_sure new.gate → (s : State) → m.represents old.gate s
          → (t : State) × m.represents new.gate t
          × AreServed link (λ _ _. ⊤) (MayRead origins) (by_bytes (IsPolicyExchange holds writes publishes held has_failed origins)) {D = ⊤}
          (λ _ handles _. comes handles) (λ _ _ _. ⊤) timer timeout tt (s, old.trail) n last (t, new.trail)
      served zero last new are sure s h = (
        s,
        subst (λ (x : Service T K N). m.represents x.gate s) (sym are.1) h,
        (are.0, ap (λ (x : Service T K N). (s, x.trail)) are.1),
      )
      served (suc n) last new (met, was, are, one) sure s h =
          let there = turn met last was new one in
          let first = served n met was are (there.0 sure) s h in
          let more = there.1 sure first.0 first.1 in
          (more.0, more.1, (met, (first.0, was.trail), first.2, more.2))

      pub kept : {B : Type 0} (count : ℕ) (new : Service T K N) (end : Result B ServeFault)
          → ServesClients link origins (IsServiceExchange held has_failed holds writes publishes origins m) comes timer timeout old count end new
          → m.is_sure new.gate → (s : State) → m.represents old.gate s
          → (last : State × ServiceTrail K N) × m.represents new.gate last.0
          × ServesClients link origins (IsPolicyExchange holds writes publishes held has_failed origins) comes timer timeout (s, old.trail)
          count end last
      kept count new (Ok all) are sure s h = let led = served count tt new are sure s h in ((led.0, new.trail), led.1, led.2)
      kept count new (Err fault) cut sure s h =
          let led = served cut.done cut.met new cut.served sure s h in (
            (led.0, new.trail),
            led.1,
            record {
              done = cut.done;
              fewer = cut.fewer;
              met = cut.met;
              served = led.2;
              failed = cut.failed;
            },
          )
