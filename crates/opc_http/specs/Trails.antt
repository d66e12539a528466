-- What follows an exchange besides its response: it is done once a request is handled, before the response is written.
use Rattle.std.specs.Prelude.{◌≡◌, ◌⊎◌, ℕ, List, Option, None, Result, Ok, IfSome}
use Rattle.opc_policy_folder.specs.declared.fault.PolicyFault.{PolicyFault}
use Rattle.opc_state.specs.Meaning.{Meaning}
use Rattle.opc_state.specs.State.{State}
use Rattle.opc_machine.specs.declared.request.Request.{Request}
use Rattle.opc_machine.specs.declared.request.Answer.{Answer}
use Rattle.opc_machine.specs.Inputs.{input_of}
use Rattle.opc_machine.specs.Machine.{Step}
use Rattle.opc_http_requests.specs.declared.origins.Origins.{Origins}
use Rattle.opc_http_log.specs.declared.entry.LogEntry.{LogEntry}
use Rattle.opc_http.specs.Exchange.{IsAsked}
use Rattle.opc_http.specs.Told.{IsWritten}
use Rattle.opc_http.specs.declared.exchanging.LinkFault.{LinkFault}
use Rattle.opc_http.specs.declared.exchanging.Served.{Served}

-- what became of the policy: the name of its state, if one was brought into its folder, or why it was not
abbrev pub Kept : Type 0
Kept = Result (Option (List ℕ)) PolicyFault

module _ {R : Type 0}
    (follows : R → State → ℕ → Request → Answer → (held : Option (List ℕ)) → Kept → R → Type 0) {T : Type 0}
    (m : Meaning T) (new : T)
  where
    -- The answer is a step of the machine, and the trail followed the state that it led to, while a writer held this.
    pub record IsFollowed (s : State) (moment : ℕ) (request : Request) (answer : Answer) (held : Option (List ℕ))
        (kept : Kept) (before after : R) : Type 0 where
      pub next : State
      pub step : Step s moment (input_of request) answer next
      pub represented : m.represents new next
      pub followed : follows before next moment request answer held kept after

module _ {R : Type 0}
    (follows : R → State → ℕ → Request → Answer → (held : Option (List ℕ)) → Kept → R → Type 0)
    (stays : R → R → Type 0) (origins : Origins) {T : Type 0} (m : Meaning T) (left : Option (List ℕ)) (old new : T)
    (moment : ℕ) (before after : Option (List ℕ)) (ended : Result Served LinkFault) (entry : Option LogEntry)
    (met gone : R)
  where
    -- Nothing was handled, and nothing followed.
    pub record IsUntrailed : Type 0 where
      pub same : new ≡ old
      pub unmoved : gone ≡ met
      pub nothing : IfSome entry (λ told. told.policy ≡ Ok None)

    -- What was requested was handled, and the trail followed it, while the writer held what it had held before. Then the
    -- response was written, or a part of it.
    pub record IsAnswerTrailed : Type 0 where
      pub request : Request
      pub answer : Answer
      pub kept : Kept
      pub asked : IsAsked origins left (Ok request)
      pub followed : m.is_sure new → (s : State) → m.represents old s
          → IsFollowed follows m new s moment request answer before kept met gone
      pub stayed : stays met gone
      pub written : IsWritten (Ok answer) before after ended
      pub told : IfSome entry (λ told. told.policy ≡ kept)

    abbrev pub IsTrailed : Type 0
    IsTrailed = IsUntrailed ⊎ IsAnswerTrailed
