-- Clients that come to one listener, as they come.
use Rattle.std.proofs.Common.{◌≡◌, ◌∙◌, Option, Result, subst}
use Rattle.std.specs.declared.io.Error.{Error}
use Rattle.std.specs.declared.time.Duration.{Duration}
use Rattle.opc_http_serve.specs.Coming.{ComesTo}

module _ {D L : Type 0} (listener_of : D → L) (listener : L) where
  pub stays_there : (a : D) (reading : Result Duration Error) (b : D) → listener_of a ≡ listener
      → listener_of b ≡ listener_of a → listener_of b ≡ listener
  stays_there a reading b there same = same ∙ there

  pub comes_there : {C : Type 0} (accepts : L → Result C Error → Type 0) (clones : C → Result C Error → Type 0)
      (a : D) (handles : Result (Option (C × C)) Error) (b : D) → listener_of a ≡ listener
      → ComesTo accepts clones (listener_of a) handles × (listener_of b ≡ listener_of a)
      → ComesTo accepts clones listener handles × (listener_of b ≡ listener)
  comes_there accepts clones a handles b there came =
      (subst (λ at. ComesTo accepts clones at handles) there came.0, came.1 ∙ there)
