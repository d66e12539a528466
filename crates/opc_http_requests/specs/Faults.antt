-- Why no request was read, step by step and as a whole.
use Rattle.std.specs.Prelude.{⊤, Bool, true, false, Result, Ok, Err}
use Rattle.opc_http_requests.specs.declared.refusal.AskFault.{AskFault}
use Rattle.opc_http_requests.specs.declared.refusal.AskFault.TheVariants as asking
use Rattle.opc_http_requests.specs.declared.refusal.HttpRefusal.{HttpRefusal}
use Rattle.opc_io.specs.declared.source.SourceFault.{SourceFault}
use Rattle.opc_io.specs.declared.source.SourceFault.TheVariants as reading
use Rattle.opc_http_requests.specs.declared.fault.ReadingFault.{ReadingFault}
use Rattle.opc_http_requests.specs.declared.fault.ReadingFault.TheVariants.{NoMemory, Read, Refused}

abbrev pub by_asking : AskFault → ReadingFault
by_asking (asking.Refused refusal) = Refused refusal
by_asking asking.NoMemory = NoMemory

abbrev pub by_reading : SourceFault → ReadingFault
by_reading reading.Read = Read
by_reading reading.NoMemory = NoMemory

-- the fault is that a read failed
abbrev pub is_read : {A : Type 0} → Result A ReadingFault → Bool
is_read (Ok a) = false
is_read (Err (Refused refusal)) = false
is_read (Err Read) = true
is_read (Err NoMemory) = false

-- what holds of the refusal, if the fault is one
abbrev pub IfRefused : ReadingFault → (HttpRefusal → Type 0) → Type 0
IfRefused (Refused refusal) holds = holds refusal
IfRefused Read holds = ⊤
IfRefused NoMemory holds = ⊤
