-- Which files of sockets are removed.
use Rattle.std.specs.Prelude.{◌≡◌, ◌⊎◌, ℕ, Bool, true, false, List, Option, Some, None, IfSome}
use Rattle.opc_http_connections.specs.declared.socket_paths.FileId.{FileId}

module _ {N : Type 0} (finds : N → List ℕ → Option FileId → Type 0) where
  -- The file at the path was removed. Or it is of no socket, or somebody listens there, or it cannot be removed.
  abbrev pub IsCleared : (refuses removes : N → List ℕ → Bool → Type 0) → N → List ℕ → (cleared : Bool) → Type 0
  IsCleared refuses removes paths path true = removes paths path true
  IsCleared refuses removes paths path false =
      finds paths path None ⊎ refuses paths path false ⊎ removes paths path false

  -- If the socket that was found at the path is the one that was made, its file was removed or could not be.
  abbrev pub IsRemovedIfMade : (removes : N → List ℕ → Bool → Type 0) → N → List ℕ → (made : Option FileId) → Type 0
  IsRemovedIfMade removes paths path made = (found : Option FileId) × finds paths path found
      × IfSome found (λ file. made ≡ Some file → (able : Bool) × removes paths path able)
