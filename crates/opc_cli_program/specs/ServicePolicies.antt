-- The folder into which a service brings its policy.
use Rattle.std.specs.Prelude.{◌≡◌, ◌⊎◌, ℕ, Bool, false, List, Option, Some, None, Result, Ok}
use Rattle.std.specs.Borrow.{Bor}
use Rattle.opc_state.specs.Changes.{IsKept}
use Rattle.opc_state.specs.Meaning.{Meaning}
use Rattle.opc_state.specs.State.{State}
use Rattle.opc_machine.specs.declared.request.Answer.{Answer}
use Rattle.opc_machine.specs.declared.request.Request.{Request}
use Rattle.opc_machine.specs.Inputs.{input_of}
use Rattle.opc_machine.specs.Machine.{Step}
use Rattle.opc_http_requests.specs.declared.origins.Origins.{Origins}
use Rattle.opc_http.specs.Exchange.{IsAsked}
use Rattle.opc_http.specs.Told.{IsWritten}
use Rattle.opc_http.specs.Trails.{Kept}
use Rattle.opc_http.specs.declared.exchanging.LinkFault.{LinkFault}
use Rattle.opc_http.specs.declared.exchanging.Served.{Served}
use Rattle.opc_http_serve.specs.Logging.{IsLogged}
use Rattle.opc_http_serve.specs.Policies.{IsBrought, IsPolicyKept}
use Rattle.opc_http_serve.specs.declared.policies.PolicyFolder.{PolicyFolder}
use Rattle.opc_http_serve.specs.declared.service.ServiceTrail.{ServiceTrail}

-- The policy was loaded at the start only if it is brought into a folder.
abbrev pub IsStarted : {T : Type 0} → Meaning T → Option (Bor (List ℕ)) → (old new : T) → Type 0
IsStarted m None old new = new ≡ old
IsStarted m (Some path) old new = IsKept m old new

module _ {N A : Type 0} (holds : N → (folder text : List ℕ) → Bool → Type 0)
    (writes : N → (folder text : List ℕ) → A → Type 0) (publishes : N → (folder name : List ℕ) → A → Type 0) where
  -- If a path is named, this is the folder there, and the policy file of the state is its present one.
  abbrev pub IsFolder : (folders : N) → Option (Bor (List ℕ)) → State → Option (PolicyFolder N) → Type 0
  IsFolder folders None s folder = folder ≡ None
  IsFolder folders (Some path) s None = ⊥
  IsFolder folders (Some path) s (Some folder) =
      (folder.folders.now ≡ folders) × (folder.path.now ≡ path.now) × (folder.is_due ≡ false)
      × ((moment : ℕ) × (name : Option (List ℕ)) × IsBrought holds writes publishes folders path.now moment s name)

  -- a state, and what follows the exchanges that led to it
  module _ {K : Type 0} (held : K → Option (List ℕ)) (has_failed : K → Bool) (origins : Origins)
      (old : State × ServiceTrail K N) (left : Option (List ℕ)) (moment : ℕ) (before after : Option (List ℕ))
      (ended : Result Served LinkFault) (new : State × ServiceTrail K N) where
    -- What became of the policy is in the line of the exchange.
    abbrev pub IsPolicyTold : Kept → Type 0
    IsPolicyTold kept = IsLogged held has_failed (λ entry. entry.policy ≡ kept) old.1.log new.1.log

    -- Nothing was handled, and nothing brought.
    pub record IsPolicyLeft : Type 0 where
      pub same : new.0 ≡ old.0
      pub folder : new.1.folder ≡ old.1.folder
      pub told : IsPolicyTold (Ok None)

    -- What was requested was handled, the policy of the state that it led to was brought into the folder, if there is
    -- one, and then the response was written, or a part of it.
    pub record IsPolicyServed : Type 0 where
      pub request : Request
      pub answer : Answer
      pub kept : Kept
      pub asked : IsAsked origins left (Ok request)
      pub step : Step old.0 moment (input_of request) answer new.0
      pub brought : IsPolicyKept holds writes publishes new.0 moment request answer kept old.1.folder new.1.folder
      pub written : IsWritten (Ok answer) before after ended
      pub told : IsPolicyTold kept

    abbrev pub IsPolicyExchange : Type 0
    IsPolicyExchange = IsPolicyLeft ⊎ IsPolicyServed
