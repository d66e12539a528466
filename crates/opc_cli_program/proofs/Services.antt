-- The outcome of a service, over tables with a cache and over the tables alone.
use Rattle.std.proofs.Common.{◌≡◌, inl, inr, ℕ, Bool, List, Option, Result, ap, subst, sym}
use Rattle.std.specs.Prelude.{⊤}
use Rattle.opc_state.specs.Meaning.{Meaning}
use Rattle.opc_state.specs.State.{State}
use Rattle.opc_state_cache.specs.Cache.{IsCached}
use Rattle.opc_state_cache.specs.Meaning.{cached_meaning}
use Rattle.opc_state_cache.specs.declared.cached.Cached.{Cached}
use Rattle.opc_http_connections.specs.Links.{ClientSource}
use Rattle.opc_http_requests.specs.declared.origins.Origins.{Origins}
use Rattle.opc_http_serve.specs.Handled.{Handled, IsRunOf}
use Rattle.opc_http_serve.specs.declared.service.ServiceTrail.{ServiceTrail}
use Rattle.opc_cli_failures.specs.declared.failure.Failure.{Failure}
use Rattle.opc_cli_failures.specs.declared.status.Status.{Status}
use Rattle.opc_cli_tasks.specs.declared.work.Address.{Address}
use Rattle.opc_cli_tasks.specs.declared.work.Address.TheVariants.{Port, Socket}
use Rattle.opc_cli_tasks.specs.declared.work.Clients.{Clients}
use Rattle.opc_cli_program.specs.Services.{AreClients, IsNotBegun, IsPortService, IsServiceAt, IsSocketService}
use Rattle.opc_cli_program.proofs.Uncached.{run}

-- What the tables represent at first, they represent with their cache.
module _ {T : Type 0} (m : Meaning T) (old new : Cached T)
    (above : (s : State) → m.represents old.tables s → IsCached m old.tables old.recent old.flags s) where
  requests : (handled : Handled) → IsRunOf (cached_meaning m) old new
      handled → IsRunOf m old.tables new.tables handled
  requests handled were = record {
    moments = were.moments;
    run = λ is s h. run m (cached_meaning m) (λ (c : Cached T). c.tables) (λ _ _ _ _. ⊤) (λ _ _ _ _. ⊤) old new (λ _ _ told. told)
        (λ sure. sure) above (λ s h. h.represented) (λ s l. l) (λ s l. l) s handled.requests handled.answers (were.run is s (above s h));
    idle = λ none. ap (λ (c : Cached T). c.tables) (were.idle none);
  }

  not_begun : (end : Result Status Failure) → IsNotBegun old new end → IsNotBegun old.tables new.tables end
  not_begun end none = record { failed = none.failed; same = ap (λ (c : Cached T). c.tables) none.same }

  module _ {W N A : Type 0} (held : W → Option (List ℕ)) (has_failed : W → Bool) (holds : N → (folder text : List ℕ) → Bool → Type 0)
      (writes : N → (folder text : List ℕ) → A → Type 0) (publishes : N → (folder name : List ℕ) → A → Type 0) (trail : ServiceTrail W N)
      (terms : Clients) (end : Result Status Failure) where
    clients : {C K : Type 0} (source : ClientSource C K) (origins : Origins)
        → AreClients (cached_meaning m) held has_failed holds writes publishes old new trail terms end source origins
        → AreClients m held has_failed holds writes publishes old.tables new.tables trail terms end source origins
    clients source origins are = record {
      served = are.served;
      handled = record {
        handled = are.handled.handled;
        timer = are.handled.timer;
        served = are.handled.served;
        run = requests are.handled.handled are.handled.run;
      };
      timer = are.timer;
      last = are.last;
      logged = are.logged;
      kept = λ sure s h. let led = are.kept sure s (above s h) in (led.0, led.1.represented, led.2);
      ends = are.ends;
    }

    -- `clients_of` states what is known of the clients of a listener
    module _ {C K L : Type 0} (clients_of : L → ClientSource C K) where
      at_port : (said wanted : L → ℕ → Type 0) → ((listener : L) (port : ℕ) → said listener port → wanted listener port)
          → IsPortService (cached_meaning m) held has_failed holds writes publishes old new trail terms end clients_of said
          → IsPortService m held has_failed holds writes publishes old.tables new.tables trail terms end clients_of wanted
      at_port said wanted says (inl none) = inl (not_begun end none)
      at_port said wanted says (inr (listener, port, reported, are)) =
          inr (listener, port, says listener port reported, clients (clients_of listener) _ are)

      at_socket : (said wanted : L → Type 0) → ((socket : L) → said socket → wanted socket)
          → IsSocketService (cached_meaning m) held has_failed holds writes publishes old new trail terms end clients_of said
          → IsSocketService m held has_failed holds writes publishes old.tables new.tables trail terms end clients_of wanted
      at_socket said wanted says (inl none) = inl (not_begun end none)
      at_socket said wanted says (inr (socket, reported, are)) = inr (socket, says socket reported, clients (clients_of socket) _ are)

    module _ {C D K L S : Type 0} (ports : L → ClientSource C K) (sockets : S → ClientSource D K)
        (said_of_port of_port : (asked : ℕ) → L → (port : ℕ) → Type 0) (said_of_socket of_socket : List ℕ → ℕ → S → Type 0)
        (by_port : (asked : ℕ) (listener : L) (port : ℕ) → said_of_port asked listener port → of_port asked listener port)
        (by_socket : (path : List ℕ) (mode : ℕ) (socket : S) → said_of_socket path mode socket → of_socket path mode socket) where
      uncached : (address : Address)
          → IsServiceAt (cached_meaning m) held has_failed holds writes publishes old new trail terms end ports sockets said_of_port said_of_socket address
          → IsServiceAt m held has_failed holds writes publishes old.tables new.tables trail terms end ports sockets of_port of_socket address
      uncached (Port asked) service = at_port ports (said_of_port asked) (of_port asked) (by_port asked) service
      uncached (Socket path mode) service =
          at_socket sockets (said_of_socket path.now mode) (of_socket path.now mode) (by_socket path.now mode) service

      -- the same over tables that are these
      pub handed_back : (first last : T) → old.tables ≡ first → last ≡ new.tables → (address : Address)
          → IsServiceAt (cached_meaning m) held has_failed holds writes publishes old new trail terms end ports sockets said_of_port said_of_socket address
          → IsServiceAt m held has_failed holds writes publishes first last trail terms end ports sockets of_port of_socket address
      handed_back first last is was address service =
          subst (λ (t : T). IsServiceAt m held has_failed holds writes publishes t last trail terms end ports sockets of_port of_socket address) is
          (subst (λ (t : T). IsServiceAt m held has_failed holds writes publishes old.tables t trail terms end ports sockets of_port of_socket address)
          (sym was) (uncached address service))

-- the same clients, by routes from these origins
pub from_origins : {T W N A C K : Type 0} (m : Meaning T) (held : W → Option (List ℕ)) (has_failed : W → Bool)
    (holds : N → (folder text : List ℕ) → Bool → Type 0) (writes : N → (folder text : List ℕ) → A → Type 0)
    (publishes : N → (folder name : List ℕ) → A → Type 0) (old new : T) (trail : ServiceTrail W N) (terms : Clients) (end : Result Status Failure)
    (source : ClientSource C K) (routes origins : Origins) → routes ≡ origins
    → AreClients m held has_failed holds writes publishes old new trail terms end source routes
    → AreClients m held has_failed holds writes publishes old new trail terms end source origins
from_origins m held has_failed holds writes publishes old new trail terms end source routes origins same are =
    subst (AreClients m held has_failed holds writes publishes old new trail terms end source) same are

-- nothing was handled at any address
pub not_served : {T W N A C D K L S : Type 0} (m : Meaning T) (held : W → Option (List ℕ)) (has_failed : W → Bool)
    (holds : N → (folder text : List ℕ) → Bool → Type 0) (writes : N → (folder text : List ℕ) → A → Type 0)
    (publishes : N → (folder name : List ℕ) → A → Type 0) (old new : T) (trail : ServiceTrail W N) (terms : Clients) (end : Result Status Failure)
    (ports : L → ClientSource C K) (sockets : S → ClientSource D K) (of_port : (asked : ℕ) → L → (port : ℕ) → Type 0)
    (of_socket : List ℕ → ℕ → S → Type 0) (address : Address)
    → IsNotBegun old new end → IsServiceAt m held has_failed holds writes publishes old new trail terms end ports sockets of_port of_socket address
not_served m held has_failed holds writes publishes old new trail terms end ports sockets of_port of_socket (Port asked) none = inl none
not_served m held has_failed holds writes publishes old new trail terms end ports sockets of_port of_socket (Socket path mode) none = inl none
