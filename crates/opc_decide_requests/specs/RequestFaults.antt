-- Why a body asks no question: step by step, and as a text.
use Rattle.std.specs.Prelude.{ℕ, List, ◌++◌, codes, Result, Ok, Err}
use Rattle.opc_terms.specs.declared.fault.Fault.{Fault}
use Rattle.opc_terms.specs.Faults as fault
use Rattle.opc_decide_requests.specs.RequestKeys.{key_path}
use Rattle.opc_decide_requests.specs.declared.fault.RequestFault.{RequestFault}
use Rattle.opc_decide_requests.specs.declared.fault.RequestFault.TheVariants as request
use Rattle.opc_decide_requests.specs.declared.key.RequestKey.TheVariants.{ResourceId}

-- the second step, if the first gave a value
infixl 10 ◌>>=◌
abbrev pub ◌>>=◌ : {A B : Type 0} → Result A RequestFault → (A → Result B RequestFault) → Result B RequestFault
(Ok x) >>= f = f x
(Err why) >>= f = Err why

-- the code and the text of a fault, after the key that has the command
abbrev pub command_text : Fault → List ℕ
command_text f =
    key_path ResourceId ++ codes ": " ++ fault.fault_code f ++ codes " " ++ fault.fault_text f

abbrev pub fault_text : RequestFault → List ℕ
fault_text request.NotJson = codes "the body is no JSON"
fault_text request.NotObject = codes "the body is no object"
fault_text (request.Missing key) = codes "the key " ++ key_path key ++ codes " is missing"
fault_text (request.Invalid key) = codes "the key " ++ key_path key ++ codes " is invalid"
fault_text (request.NoCommand f) = command_text f
fault_text request.NeedsNothing = key_path ResourceId ++ codes ": the command needs nothing"
