-- How other programs are answered by the policy file at a path.
use Rattle.std.specs.Prelude.{◌≡◌, ℕ, List, Option, None, Result, Ok, Err}
use Rattle.std.specs.Io.KnownBytes.{Appends}
use Rattle.std.specs.declared.fs.File.{File}
use Rattle.std.specs.declared.io.Error.{Error}
use Rattle.std.specs.declared.net.tcp.TcpListener.{TcpListener}
use Rattle.std.specs.declared.net.tcp.TcpStream.{TcpStream}
use Rattle.std.specs.declared.rt.LibcRuntime.{LibcRuntime}
use Rattle.opc_check.specs.declared.unread.TheConstants.{POLICY_LIMIT}
use Rattle.opc_decide_files.specs.Answering.{IsAnswer}
use Rattle.opc_decide_files.specs.DecidingFiles.{policy_in}
use Rattle.opc_decide_files.specs.declared.decider.FileDecider.{FileDecider}
use Rattle.opc_decide_present.specs.declared.files.FoundFile.{FoundFile}
use Rattle.opc_decide_present.specs.declared.files.ReadFile.{ReadFile}
use Rattle.opc_decide_present.specs.declared.system.PolicyPath.{PolicyPath}
use Rattle.opc_http_connections.specs.declared.unix.UnixClient.{UnixClient}
use Rattle.opc_http_connections.specs.declared.unix.SocketListener.{SocketListener}
use Rattle.opc_http_serve.specs.Coming.{unknown_clients}
use Rattle.opc_cli_failures.specs.declared.failure.Failure.{Failure}
use Rattle.opc_cli_failures.specs.declared.status.Status.{Status}
use Rattle.opc_cli_tasks.specs.declared.work.Decide.{Decide}
use Rattle.opc_cli_questions.specs.Sides.{IsSideRead}
use Rattle.opc_cli_questions.specs.declared.sides.PolicySide.{PolicySide}
use Rattle.opc_cli_program.specs.Decisions.{IsDecisionService}
use Rattle.opc_cli_program.specs.Listening.{listening_line, socket_line}
use Rattle.opc_cli.specs.Works.{unknown_stream, unknown_text}

-- the outcome of reading a policy
abbrev pub IsOutcomeOf : (read : Result PolicySide Failure) → Result (Unit {0}) Failure → Type 0
IsOutcomeOf (Ok side) tried = tried ≡ Ok tt
IsOutcomeOf (Err failure) tried = tried ≡ Err failure

-- The policy file was read, and its rows make a policy; or this is why not. Nothing is known about what the files of
-- the system hold.
abbrev pub IsTried : Result (Unit {0}) Failure → Type 0
IsTried tried = (read : Result PolicySide Failure) × IsSideRead None read × IsOutcomeOf read tried

-- Nor about what its calls on the policy file find and read.
abbrev pub unknown_found : PolicyPath LibcRuntime → Result (FoundFile File) Error → PolicyPath LibcRuntime → Type 0
unknown_found place found next = Unit {0}

abbrev pub unknown_read : PolicyPath LibcRuntime → File → Result ReadFile Error → PolicyPath LibcRuntime → Type 0
unknown_read place file read next = Unit {0}

-- Questions were answered by the policy file at the path that is named, of any length that a policy file may have, at
-- the address that was printed.
pub record IsServedBy {W : Type 0} (contents : W → Option (List ℕ)) (before written : W) (decide : Decide)
    (end : Result Status Failure) : Type 0 where
  pub place : PolicyPath LibcRuntime
  pub decider : FileDecider
  pub path : place.path.now ≡ decide.policy.now
  pub limit : place.limit ≡ POLICY_LIMIT
  pub serves : IsDecisionService unknown_found unknown_read (λ _ file. policy_in file ≡ None) (λ _. IsAnswer)
      unknown_stream unknown_text
      (place, decider) decide end (unknown_clients TcpListener {C = TcpStream} {K = LibcRuntime})
      (unknown_clients SocketListener {C = UnixClient})
      (λ asked listener port. Appends (contents before) (contents written) (listening_line port))
      (λ path mode socket. Appends (contents before) (contents written) (socket_line path)) decide.clients.address
