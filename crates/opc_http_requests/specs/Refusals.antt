-- A request that is read step by step, or the first refusal.
use Rattle.std.specs.Prelude.{◌≡◌, Option, Some, None, Result, Ok, Err, ⊤}
use Rattle.opc_http_requests.specs.declared.refusal.AskFault.{AskFault}
use Rattle.opc_http_requests.specs.declared.refusal.AskFault.TheVariants as fault
use Rattle.opc_http_requests.specs.declared.refusal.HttpRefusal.{HttpRefusal}
use Rattle.opc_http_requests.specs.declared.refusal.HttpRefusal.TheVariants.{BadRequest}
use Rattle.opc_http_requests.specs.declared.refusal.InvalidPart.{InvalidPart}

-- the second step, if the first gave a value
infixl 10 ◌>>=◌
abbrev pub ◌>>=◌ : {A B : Type 0} → Result A HttpRefusal → (A → Result B HttpRefusal) → Result B HttpRefusal
Ok x >>= f = f x
Err e >>= f = Err e

-- without a valid value this part of the request is invalid
abbrev pub required : {A : Type 0} → InvalidPart → Option A → Result A HttpRefusal
required part None = Err (BadRequest part)
required part (Some x) = Ok x

-- a fault states the refusal, or that an allocation failed
abbrev pub Refuses : {A : Type 0} → AskFault → Result A HttpRefusal → Type 0
Refuses (fault.Refused why) asked = asked ≡ Err why
Refuses fault.NoMemory asked = ⊤
