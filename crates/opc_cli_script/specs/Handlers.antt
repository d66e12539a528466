-- Requests that are handled one after another, by a gate or by what has more beside it.
use Rattle.std.specs.Prelude.{◌≡◌, ℕ, List, [], ◌∷◌, ◌++◌}
use Rattle.opc_state.specs.Meaning.{Meaning}
use Rattle.opc_machine.specs.declared.request.Answer.{Answer}
use Rattle.opc_machine.specs.declared.request.Request.{Request}
use Rattle.opc_cli_script.specs.Listening.{IsEndedRun, IsHeardRun}

-- Each request was handled, with its answer, and made another of what handles them.
abbrev pub AreSteps : {T : Type 0} → (T → ℕ → Request → Answer → T → Type 0) → (from to : T) → List (ℕ × Request)
    → List Answer → Type 0
AreSteps handled from to [] [] = to ≡ from
AreSteps handled from to (r ∷ requests) (answer ∷ answers) =
    (next : _) × handled from r.0 r.1 answer next × AreSteps handled next to requests answers
AreSteps handled from to [] (answer ∷ answers) = ⊥
AreSteps handled from to (r ∷ requests) [] = ⊥

-- A gate by itself does nothing more.
abbrev pub nothing_more : {T : Type 0} → T → ℕ → Request → Answer → T → Type 0
nothing_more old moment request answer new = Unit {0}

module _ {T L : Type 0} (m : Meaning T) (handled : T → ℕ → Request → Answer → T → Type 0)
    (heard : L → ℕ → Answer → L → Type 0) where
  -- All requests were handled, and their answers received.
  pub record IsHeardBy (old new : T) (requests : List (ℕ × Request)) (from to : L) : Type 0 where
    pub run : IsHeardRun m heard old new requests from to
    pub steps : AreSteps handled old new requests run.answers

  -- The run ended at the first request whose answer was not received.
  pub record IsEndedBy {F : Type 0} (missed : L → ℕ → Answer → L → F → Type 0) (old new : T)
      (requests : List (ℕ × Request)) (from to : L) (fault : F) : Type 0 where
    pub run : IsEndedRun m heard missed old new requests from to fault
    pub steps : AreSteps handled old new (run.before ++ run.request ∷ []) (run.answers ++ run.answer ∷ [])
