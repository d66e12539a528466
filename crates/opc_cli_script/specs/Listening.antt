-- A run of requests whose answers are received one after another.
use Rattle.std.specs.Prelude.{◌≡◌, ℕ, List, [], ◌∷◌, ◌++◌}
use Rattle.opc_state.specs.Meaning.{Meaning}
use Rattle.opc_state.specs.State.{State}
use Rattle.opc_machine.specs.declared.request.Request.{Request}
use Rattle.opc_machine.specs.declared.request.Answer.{Answer}
use Rattle.opc_gate.specs.Handling.{IsRun}

-- Each answer was received with the timestamp of its request, and the listener became another each time.
abbrev pub AreHeard : {L : Type 0} → (L → ℕ → Answer → L → Type 0) → List (ℕ × Request) → List Answer → L → L → Type 0
AreHeard heard [] [] from to = to ≡ from
AreHeard heard (r ∷ requests) (answer ∷ answers) from to =
    (next : _) × heard from r.0 answer next × AreHeard heard requests answers next to
AreHeard heard [] (answer ∷ answers) from to = ⊥
AreHeard heard (r ∷ requests) [] from to = ⊥

module _ {T L : Type 0} (m : Meaning T)
    (heard : L → ℕ → Answer → L → Type 0) where
  -- All requests are handled, and their answers are received. If the tables are sure, these are the answers of a run of
  -- the machine.
  pub record IsHeardRun (old new : T) (requests : List (ℕ × Request)) (from to : L) : Type 0 where
    pub answers : List Answer
    pub run : m.is_sure new → (s : State) → m.represents old s → IsRun m old new s requests answers
    pub heard_all : AreHeard heard requests answers from to

  -- The run ended at the first request whose answer was not received. That request is the last one that is handled.
  pub record IsEndedRun {F : Type 0} (missed : L → ℕ → Answer → L → F → Type 0) (old new : T)
      (requests : List (ℕ × Request)) (from to : L) (fault : F) : Type 0 where
    pub before : List (ℕ × Request)
    pub request : ℕ × Request
    pub later : List (ℕ × Request)
    pub are : requests ≡ before ++ request ∷ later
    pub answers : List Answer
    pub answer : Answer
    pub run : m.is_sure new → (s : State) → m.represents old s
        → IsRun m old new s (before ++ request ∷ []) (answers ++ answer ∷ [])
    pub met : L
    pub heard_before : AreHeard heard before answers from met
    pub missed_last : missed met request.0 answer to fault
