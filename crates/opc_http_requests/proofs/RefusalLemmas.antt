-- Step by step.
use Rattle.std.proofs.Common.{◌≡◌, Ok, refl}
use Rattle.std.specs.Prelude.{Result}
use Rattle.opc_http_requests.specs.Refusals.{◌>>=◌, Refuses}
use Rattle.opc_http_requests.specs.declared.refusal.AskFault.{AskFault}
use Rattle.opc_http_requests.specs.declared.refusal.AskFault.TheVariants as fault
use Rattle.opc_http_requests.specs.declared.refusal.HttpRefusal.{HttpRefusal}

-- a step that is refused refuses the whole
pub refuses-then : {A B : Type 0} (why : AskFault) (r : Result A HttpRefusal) (f : A → Result B HttpRefusal) → Refuses why r → Refuses why (r >>= f)
refuses-then (fault.Refused reason) r f h = rw h refl
refuses-then fault.NoMemory r f h = tt

-- a step that succeeds leaves the rest
pub ok-then : {A B : Type 0} (r : Result A HttpRefusal) (a : A) (f : A → Result B HttpRefusal) → r ≡ Ok a → (r >>= f) ≡ f a
ok-then r a f h = rw h refl
