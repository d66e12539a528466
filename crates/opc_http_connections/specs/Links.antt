-- What is known of the connections to clients, and of the clock beside them.
use Rattle.std.specs.Prelude.{ℕ, Bool, List, Option, Some, None, Result, Ok, Err, ⊤}
use Rattle.std.specs.declared.io.Error.{Error}
use Rattle.std.specs.declared.time.Duration.{Duration}

-- waits were limited, the clock showed this, a read was made; what reads will give, and what was written
pub record Link (C K : Type 0) : Type 1 where
  pub limits : C → Duration → Bool → Type 0
  pub shows : K → Result Duration Error → Type 0
  pub reads : C → Result ℕ Error → C → Type 0
  pub remaining : C → Option (List ℕ)
  pub contents : C → Option (List ℕ)

abbrev pub link_of : {C K : Type 0} → (C → Duration → Bool → Type 0) → (K → Result Duration Error → Type 0)
    → (C → Result ℕ Error → C → Type 0) → (remaining contents : C → Option (List ℕ)) → Link C K
link_of limits shows reads remaining contents = record {
  limits = limits;
  shows = shows;
  reads = reads;
  remaining = remaining;
  contents = contents;
}

-- The result of the next connection: two handles of it; or none, since it has no second one; or why none was accepted.
abbrev pub Comes : {L C : Type 0} → (accepts : L → Result C Error → Type 0) → (clones : C → Result C Error → Type 0)
    → Result (Option (C × C)) Error → Type 0
Comes {L = L} {C = C} accepts clones (Ok (Some handles)) =
    (listener : L) × accepts listener (Ok handles.0) × clones handles.0 (Ok handles.1)
Comes {L = L} {C = C} accepts clones (Ok None) =
    (listener : L) × (reader : C) × (error : Error) × accepts listener (Ok reader) × clones reader (Err error)
Comes {L = L} {C = C} accepts clones (Err error) = (listener : L) × accepts listener (Err error)

-- where clients connect: what is known of their connections, and the result of each
pub record ClientSource (C K : Type 0) : Type 1 where
  pub link : Link C K
  pub comes : Result (Option (C × C)) Error → Type 0

abbrev pub source_of : {C K : Type 0} → Link C K → (comes : Result (Option (C × C)) Error → Type 0) → ClientSource C K
source_of link comes = record { link = link; comes = comes }

-- nothing is known of them
abbrev pub unknown_source : (L : Type 0) → {C K : Type 0} → ClientSource C K
unknown_source L = source_of (link_of (λ _ _ _. ⊤) (λ _ _. ⊤) (λ _ _ _. ⊤) (λ _. None) (λ _. None))
    (Comes {L = L} (λ _ _. ⊤) (λ _ _. ⊤))
