-- How the program ends after serving many clients.
use Rattle.std.specs.Prelude.{◌≡◌, ◌⊎◌, ℕ, Bool, List, Option, Result, Ok, Err, IsErrAnd, if◌then◌else◌}
use Rattle.std.specs.Io.KnownBytes.{Appends}
use Rattle.opc_io.specs.declared.watched.Watched.{Watched}
use Rattle.opc_state.specs.Meaning.{Meaning}
use Rattle.opc_state.specs.State.{State}
use Rattle.opc_http_connections.specs.Links.{ClientSource}
use Rattle.opc_http_requests.specs.declared.origins.Origins.{Origins}
use Rattle.opc_http_requests.specs.declared.origins.Origins.TheVariants.{Any, Only}
use Rattle.opc_http_serve.specs.declared.arrival.ServeFault.{ServeFault}
use Rattle.opc_http_serve.specs.declared.arrival.ServeFault.TheVariants.{Accept, Clock}
use Rattle.opc_http_serve.specs.Handled.{AreHandled}
use Rattle.opc_http_serve.specs.Serving.{ServesClients}
use Rattle.opc_http_serve.specs.declared.policies.PolicyFolder.{PolicyFolder}
use Rattle.opc_http_serve.specs.declared.service.ServiceTrail.{ServiceTrail}
use Rattle.opc_cli_failures.specs.declared.failure.Failure.{Failure}
use Rattle.opc_cli_failures.specs.declared.failure.Place.TheVariants as place
use Rattle.opc_cli_failures.specs.declared.status.Status.{Status}
use Rattle.opc_cli_failures.specs.declared.status.Status.TheVariants.{Done, Failed}
use Rattle.opc_cli_failures.specs.Statuses.{IsErrorAt, status_of_end}
use Rattle.opc_cli_tasks.specs.declared.work.Address.{Address}
use Rattle.opc_cli_tasks.specs.declared.work.Address.TheVariants.{Port, Socket}
use Rattle.opc_cli_tasks.specs.declared.work.Clients.{Clients}
use Rattle.opc_cli_tasks.specs.declared.work.Serve.{Serve}
use Rattle.opc_cli_program.specs.Listening.{listening_line, socket_line}
use Rattle.opc_cli_program.specs.ServiceLogs.{IsLineAdded, IsLogFor}
use Rattle.opc_cli_program.specs.ServicePolicies.{IsFolder, IsPolicyExchange, IsStarted}

-- How the program ends if serving had this outcome: done, or with the error of the call that failed.
abbrev pub IsEndOfService : {A : Type 0} → Result A ServeFault → Result Status Failure → Type 0
IsEndOfService (Ok all) end = end ≡ Ok Done
IsEndOfService (Err (Accept error)) end = IsErrAnd end (IsErrorAt place.Connection error)
IsEndOfService (Err (Clock error)) end = IsErrAnd end (IsErrorAt place.Clock error)

-- from where a service at this port accepts requests
abbrev pub origins_at : (strict : Bool) → (port : ℕ) → Origins
origins_at strict port = if strict then Only port else Any

-- It failed before its first client, and nothing was handled.
pub record IsNotBegun {T : Type 0} (old new : T) (end : Result Status Failure) : Type 0 where
  pub failed : status_of_end end ≡ Failed
  pub same : new ≡ old

module _ {T : Type 0} (m : Meaning T) {W N A : Type 0} (held : W → Option (List ℕ)) (has_failed : W → Bool)
    (holds : N → (folder text : List ℕ) → Bool → Type 0) (writes : N → (folder text : List ℕ) → A → Type 0)
    (publishes : N → (folder name : List ℕ) → A → Type 0)
    (old new : T) (trail : ServiceTrail W N) (terms : Clients) (end : Result Status Failure) where
  module _ {C K : Type 0} (source : ClientSource C K) where
    -- As many connections as requested were served, with the requested timeout; or fewer were, and then none could be
    -- accepted. The exchanges are in the log, if there is one, and the states that they led to in the folder, if there
    -- is one. The program ended accordingly.
    pub record AreClients (origins : Origins) : Type 0 where
      pub served : Result (Unit {0}) ServeFault
      pub handled : AreHandled origins m source.link source.comes terms.timeout old new terms.count served
      pub timer : K
      pub last : Option W
      pub logged : ServesClients source.link origins (IsLineAdded held has_failed origins) source.comes timer
          terms.timeout trail.log terms.count served last
      pub kept : m.is_sure new → (s : State) → m.represents old s
          → (gone : State × ServiceTrail W N) × m.represents new gone.0
          × ServesClients source.link origins (IsPolicyExchange holds writes publishes held has_failed origins)
          source.comes timer terms.timeout (s, trail) terms.count served gone
      pub ends : IsEndOfService served end

    -- It failed before its first client; or it printed its socket, and then clients were served.
    abbrev pub AreClientsAfter : (said : Type 0) → Type 0
    AreClientsAfter said = IsNotBegun old new end ⊎ (said × AreClients Any)

  -- `clients_of` states what is known of the clients of a listener.
  module _ {C K L : Type 0} (clients_of : L → ClientSource C K) where
    -- It failed before its first client; or it listened at a port, which it printed, and then the clients of that
    -- listener were served, strictly if that was requested.
    abbrev pub IsPortService : (said : L → ℕ → Type 0) → Type 0
    IsPortService said =
        IsNotBegun old new end
        ⊎ ((listener : L) × (port : ℕ) × said listener port
        × AreClients (clients_of listener) (origins_at terms.strict port))

    -- It failed before its first client; or it printed its socket, and then the clients of that one were served.
    abbrev pub IsSocketService : (said : L → Type 0) → Type 0
    IsSocketService said =
        IsNotBegun old new end ⊎ ((socket : L) × said socket × AreClients (clients_of socket) Any)

  module _ {C D K L S : Type 0} (ports : L → ClientSource C K) (sockets : S → ClientSource D K) where
    -- The service at an address, which it printed.
    abbrev pub IsServiceAt : (of_port : (asked : ℕ) → L → (port : ℕ) → Type 0) → (of_socket : List ℕ → ℕ → S → Type 0)
        → Address → Type 0
    IsServiceAt of_port of_socket (Port asked) = IsPortService ports (of_port asked)
    IsServiceAt of_port of_socket (Socket path mode) = IsSocketService sockets (of_socket path.now mode)

-- The policy is in its folder, if one is named; and the output states where the program listens, and then clients were
-- served.
pub record IsServiceBegun {T : Type 0} (m : Meaning T) {C D K L S W N A : Type 0} (ports : L → ClientSource C K)
    (sockets : S → ClientSource D K) (old started new : T) (contents : W → Option (List ℕ))
    (holds : N → (folder text : List ℕ) → Bool → Type 0) (writes : N → (folder text : List ℕ) → A → Type 0)
    (publishes : N → (folder name : List ℕ) → A → Type 0) (folders : N) (log : Option (Watched W)) (serve : Serve)
    (end : Result Status Failure) (before written : Option (List ℕ)) : Type 0 where
  pub folder : Option (PolicyFolder N)
  pub brought : m.is_sure started → (s : State) → m.represents old s
      → IsFolder holds writes publishes folders serve.policies s folder
  pub serves : IsServiceAt m (λ (w : Watched W). contents w.inner) (λ (w : Watched W). w.failed) holds writes publishes
      started new (record { log = log; folder = folder }) serve.clients end ports sockets
      (λ asked listener port. Appends before written (listening_line port))
      (λ path mode socket. Appends before written (socket_line path)) serve.clients.address

-- Exchanges are logged, and the policy is brought into a folder, if that is requested. It failed before its first
-- client, or clients were served.
pub record IsService {T : Type 0} (m : Meaning T) {C D K L S W N A : Type 0} (ports : L → ClientSource C K)
    (sockets : S → ClientSource D K) (old new : T) (is_for_logs : W → Type 0) (contents : W → Option (List ℕ))
    (holds : N → (folder text : List ℕ) → Bool → Type 0) (writes : N → (folder text : List ℕ) → A → Type 0)
    (publishes : N → (folder name : List ℕ) → A → Type 0) (folders : N) (serve : Serve) (end : Result Status Failure)
    (before written : Option (List ℕ)) : Type 0 where
  pub log : Option (Watched W)
  pub log_is : IsLogFor is_for_logs serve.clients.log log
  pub started : T
  pub start : IsStarted m serve.policies old started
  pub serves : IsNotBegun started new end
      ⊎ IsServiceBegun m ports sockets old started new contents holds writes publishes folders log serve end before
      written
