-- The outcome of a service that answers other programs.
use Rattle.std.proofs.Common.{◌≡◌, inl, inr, ℕ, List, Option, Result, subst}
use Rattle.std.specs.declared.io.Error.{Error}
use Rattle.opc_decide_present.specs.declared.decider.DecidedAnswer.{DecidedAnswer}
use Rattle.opc_decide_present.specs.declared.files.FoundFile.{FoundFile}
use Rattle.opc_decide_present.specs.declared.files.ReadFile.{ReadFile}
use Rattle.opc_decide_present.specs.declared.kind.QuestionKind.{QuestionKind}
use Rattle.opc_http_connections.specs.Links.{ClientSource}
use Rattle.opc_http_requests.specs.declared.origins.Origins.{Origins}
use Rattle.opc_cli_failures.specs.declared.failure.Failure.{Failure}
use Rattle.opc_cli_failures.specs.declared.status.Status.{Status}
use Rattle.opc_cli_tasks.specs.declared.work.Address.{Address}
use Rattle.opc_cli_tasks.specs.declared.work.Address.TheVariants.{Port, Socket}
use Rattle.opc_cli_tasks.specs.declared.work.Clients.{Clients}
use Rattle.opc_cli_tasks.specs.declared.work.Decide.{Decide}
use Rattle.opc_cli_program.specs.Decisions.{AreAnswered, IsDecisionService}

module _ {S F D W : Type 0} (finds : S → Result (FoundFile F) Error → S → Type 0)
    (reads : S → F → Result ReadFile Error → S → Type 0) (refuses : D → (file : List ℕ) → Type 0)
    (answers : D → (file : List ℕ) → QuestionKind → (body : List ℕ) → DecidedAnswer → Type 0)
    (is_for_logs : W → Type 0) (contents : W → Option (List ℕ)) (policy : S × D) where
  module _ {C K : Type 0} (terms : Clients) (end : Result Status Failure) (source : ClientSource C K) where
    -- the same at a URL that is this one
    pub at_base : (origins : Origins) (base own : List ℕ) → own ≡ base
        → AreAnswered finds reads refuses answers is_for_logs contents policy terms end source origins own
        → AreAnswered finds reads refuses answers is_for_logs contents policy terms end source origins base
    at_base origins base own is are =
        subst (AreAnswered finds reads refuses answers is_for_logs contents policy terms end source origins) is are

    -- the same from origins that are these
    pub from_there : (origins there : Origins) (base : List ℕ) → there ≡ origins
        → AreAnswered finds reads refuses answers is_for_logs contents policy terms end source there base
        → AreAnswered finds reads refuses answers is_for_logs contents policy terms end source origins base
    from_there origins there base is are =
        subst (λ o. AreAnswered finds reads refuses answers is_for_logs contents policy terms end source o base) is are

  -- the same service, of which less is stated about where it listens
  module _ {C E K L P : Type 0} (decide : Decide) (end : Result Status Failure) (ports : L → ClientSource C K) (sockets : P → ClientSource E K)
      (said_of_port of_port : (asked : ℕ) → L → (port : ℕ) → Type 0) (said_of_socket of_socket : List ℕ → ℕ → P → Type 0)
      (by_port : (asked : ℕ) (listener : L) (port : ℕ) → said_of_port asked listener port → of_port asked listener port)
      (by_socket : (path : List ℕ) (mode : ℕ) (socket : P) → said_of_socket path mode socket → of_socket path mode socket) where
    pub listens_somewhere : (address : Address)
        → IsDecisionService finds reads refuses answers is_for_logs contents policy decide end ports sockets said_of_port said_of_socket address
        → IsDecisionService finds reads refuses answers is_for_logs contents policy decide end ports sockets of_port of_socket address
    listens_somewhere (Port asked) (inl none) = inl none
    listens_somewhere (Port asked) (inr (listener, port, said, are)) = inr (listener, port, by_port asked listener port said, are)
    listens_somewhere (Socket path mode) (inl none) = inl none
    listens_somewhere (Socket path mode) (inr (socket, said, are)) = inr (socket, by_socket path.now mode socket said, are)
