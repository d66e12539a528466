-- How the program answers the questions of other programs, and ends.
use Rattle.std.specs.Prelude.{◌≡◌, ◌⊎◌, ℕ, List, Option, Result, codes, unwrap_or}
use Rattle.std.specs.Borrow.{Bor}
use Rattle.std.specs.Option.{option_copied}
use Rattle.std.specs.declared.io.Error.{Error}
use Rattle.opc_io.specs.declared.watched.Watched.{Watched}
use Rattle.opc_decide_present.specs.declared.decider.DecidedAnswer.{DecidedAnswer}
use Rattle.opc_decide_present.specs.declared.files.FoundFile.{FoundFile}
use Rattle.opc_decide_present.specs.declared.files.ReadFile.{ReadFile}
use Rattle.opc_decide_present.specs.declared.kind.QuestionKind.{QuestionKind}
use Rattle.opc_http_connections.specs.Links.{ClientSource}
use Rattle.opc_http_decide.specs.Configurations.{local_base}
use Rattle.opc_http_decide.specs.DecideExchanges.{IsPointExchange}
use Rattle.opc_http_decide.specs.declared.point.DecisionPoint.{DecisionPoint}
use Rattle.opc_http_questions.specs.Questions.{MayReadQuestion}
use Rattle.opc_http_requests.specs.declared.origins.Origins.{Origins}
use Rattle.opc_http_requests.specs.declared.origins.Origins.TheVariants.{Any}
use Rattle.opc_http_serve.specs.Serving.{AreClientsServed}
use Rattle.opc_http_serve.specs.declared.arrival.ServeFault.{ServeFault}
use Rattle.opc_cli_failures.specs.declared.failure.Failure.{Failure}
use Rattle.opc_cli_failures.specs.declared.status.Status.{Status}
use Rattle.opc_cli_failures.specs.declared.status.Status.TheVariants.{Failed}
use Rattle.opc_cli_failures.specs.Statuses.{status_of_end}
use Rattle.opc_cli_tasks.specs.declared.work.Address.{Address}
use Rattle.opc_cli_tasks.specs.declared.work.Address.TheVariants.{Port, Socket}
use Rattle.opc_cli_tasks.specs.declared.work.Clients.{Clients}
use Rattle.opc_cli_tasks.specs.declared.work.Decide.{Decide}
use Rattle.opc_cli_program.specs.ServiceLogs.{IsLogFor}
use Rattle.opc_cli_program.specs.Services.{IsEndOfService, origins_at}

-- the URL at which clients find the service: the one that is given, or that of its port,
abbrev pub base_at : Option (Bor (List ℕ)) → (port : ℕ) → List ℕ
base_at base port = unwrap_or (option_copied base) (local_base port)

-- or at a socket
abbrev pub socket_base : Option (Bor (List ℕ)) → List ℕ
socket_base base = unwrap_or (option_copied base) (codes "http://localhost")

-- Questions are decided by the policy file at a place, or by none.
module _ {S F D W : Type 0} (finds : S → Result (FoundFile F) Error → S → Type 0)
    (reads : S → F → Result ReadFile Error → S → Type 0) (refuses : D → (file : List ℕ) → Type 0)
    (answers : D → (file : List ℕ) → QuestionKind → (body : List ℕ) → DecidedAnswer → Type 0)
    (is_for_logs : W → Type 0) (contents : W → Option (List ℕ)) (policy : S × D) where
  -- As many connections as requested were served, with the requested timeout; or fewer were, and then none could be
  -- accepted. The exchanges are in the log, if one is requested. The program ended accordingly.
  pub record AreAnswered (terms : Clients) (end : Result Status Failure) {C K : Type 0} (source : ClientSource C K)
      (origins : Origins) (base : List ℕ) : Type 0 where
    pub first : DecisionPoint (S × D) (Watched W)
    pub by : first.policy ≡ policy
    pub at : first.base.now ≡ base
    pub log_is : IsLogFor is_for_logs terms.log first.log
    pub served : Result (Unit {0}) ServeFault
    pub timer : K
    pub last : DecisionPoint (S × D) (Watched W)
    pub exchanged : AreClientsServed source.link (MayReadQuestion origins)
        (IsPointExchange finds reads refuses answers (λ (w : Watched W). contents w.inner) (λ (w : Watched W). w.failed)
        origins) source.comes timer terms.timeout first terms.count served last
    pub ends : IsEndOfService served end

  module _ (decide : Decide) (end : Result Status Failure) where
    -- It failed before its first client; or it printed its socket, and then clients were served.
    abbrev pub AreAnsweredAfter : {C K : Type 0} → ClientSource C K → (said : Type 0) → Type 0
    AreAnsweredAfter source said = (status_of_end end ≡ Failed)
        ⊎ (said × AreAnswered decide.clients end source Any (socket_base decide.base))

    -- `clients_of` states what is known of the clients of a listener.
    module _ {C K L : Type 0} (clients_of : L → ClientSource C K) where
      -- It failed before its first client; or it listened at a port, which it printed, and then the clients of that
      -- listener were served, strictly if that was requested.
      abbrev pub IsPortDecision : (said : L → ℕ → Type 0) → Type 0
      IsPortDecision said = (status_of_end end ≡ Failed)
          ⊎ ((listener : L) × (port : ℕ) × said listener port
          × AreAnswered decide.clients end (clients_of listener) (origins_at decide.clients.strict port)
          (base_at decide.base port))

      -- It failed before its first client; or it printed its socket, and then the clients of that one were served.
      abbrev pub IsSocketDecision : (said : L → Type 0) → Type 0
      IsSocketDecision said = (status_of_end end ≡ Failed)
          ⊎ ((socket : L) × said socket
          × AreAnswered decide.clients end (clients_of socket) Any (socket_base decide.base))

    module _ {C E K L P : Type 0} (ports : L → ClientSource C K) (sockets : P → ClientSource E K) where
      -- The service at an address, which it printed.
      abbrev pub IsDecisionService : (of_port : (asked : ℕ) → L → (port : ℕ) → Type 0)
          → (of_socket : List ℕ → ℕ → P → Type 0) → Address → Type 0
      IsDecisionService of_port of_socket (Port asked) = IsPortDecision ports (of_port asked)
      IsDecisionService of_port of_socket (Socket path mode) = IsSocketDecision sockets (of_socket path.now mode)
