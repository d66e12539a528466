-- Clients that come to one listener.
use Rattle.std.specs.Prelude.{◌≡◌, None, Option, Result, ⊤}
use Rattle.std.specs.declared.io.Error.{Error}
use Rattle.opc_http_connections.specs.Links.{ClientSource, Comes, Link, link_of, source_of}

-- the result of the next connection at this listener
abbrev pub ComesTo : {L C : Type 0} → (accepts : L → Result C Error → Type 0) → (clones : C → Result C Error → Type 0)
    → L → Result (Option (C × C)) Error → Type 0
ComesTo accepts clones listener = Comes (λ at accepted. (at ≡ listener) × accepts at accepted) clones

-- where the clients of this listener connect
abbrev pub source_at : {C K L : Type 0} → Link C K → (accepts : L → Result C Error → Type 0)
    → (clones : C → Result C Error → Type 0) → L → ClientSource C K
source_at link accepts clones listener = source_of link (ComesTo accepts clones listener)

-- nothing is known of them
abbrev pub unknown_clients : (L : Type 0) → {C K : Type 0} → L → ClientSource C K
unknown_clients L listener = source_at (link_of (λ _ _ _. ⊤) (λ _ _. ⊤) (λ _ _ _. ⊤) (λ _. None) (λ _. None))
    (λ _ _. ⊤) (λ _ _. ⊤) listener
