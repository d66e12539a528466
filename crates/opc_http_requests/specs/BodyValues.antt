-- What the bytes of a body mean.
use Rattle.std.specs.Prelude.{ℕ, List, Option, None, Result, Ok, Err, if◌then◌else◌}
use Rattle.std.specs.Str.{is_utf8}
use Rattle.serde_json.specs.Data.{Data}
use Rattle.serde_json.specs.Read.{read}
use Rattle.opc_policy_members.specs.declared.row.Row.{Row}
use Rattle.opc_import.specs.Files.{policy_of}
use Rattle.opc_import.specs.declared.fault.ImportFault.{ImportFault}
use Rattle.opc_import.specs.declared.fault.ImportFault.TheVariants as import
use Rattle.opc_machine.specs.declared.operation.Operation.{Operation}
use Rattle.opc_http_requests.specs.declared.body_key.BodyKey.TheVariants as key
use Rattle.opc_http_requests.specs.declared.refusal.HttpRefusal.{HttpRefusal}
use Rattle.opc_http_requests.specs.declared.refusal.HttpRefusal.TheVariants.{BadRequest, BadRow}
use Rattle.opc_http_requests.specs.declared.refusal.InvalidPart.{InvalidPart}
use Rattle.opc_http_requests.specs.declared.refusal.InvalidPart.TheVariants.{Json, Utf8}
use Rattle.opc_http_requests.specs.Refusals as step
use Rattle.opc_http_requests.specs.Refusals.{required}
use Rattle.opc_http_requests.specs.Keys.{◌>>=◌, has_keys, text_at}
use Rattle.opc_http_requests.specs.Operations.{operation_of}

-- the value of some bytes, as `serde_json` reads it
abbrev pub value_of : List ℕ → Option Data
value_of bytes = if is_utf8 bytes then read bytes else None

-- an object with the one key `text`
abbrev pub text_of : Data → Result (List ℕ) InvalidPart
text_of value = do
  text ← text_at key.Text value
  _ ← has_keys 1 value
  Ok text

abbrev pub value_in : List ℕ → Result Data HttpRefusal
value_in body = required Json (value_of body)

-- a value with an invalid part makes a bad request
abbrev pub in_request : {A : Type 0} → Result A InvalidPart → Result A HttpRefusal
in_request (Ok x) = Ok x
in_request (Err part) = Err (BadRequest part)

-- the text of a command
abbrev pub command_in : List ℕ → Result (List ℕ) HttpRefusal
command_in body = step.◌>>=◌ (value_in body) (λ value. in_request (text_of value))

-- an operation of administration
abbrev pub operation_in : List ℕ → Result Operation HttpRefusal
operation_in body = step.◌>>=◌ (value_in body) (λ value. in_request (operation_of value))

-- a failed allocation is not a refusal, and never follows from a text
abbrev pub refused_row : Result (List Row) ImportFault → Result (List Row) HttpRefusal
refused_row (Ok rows) = Ok rows
refused_row (Err (import.Row row why)) = Err (BadRow row why)
refused_row (Err import.NoMemory) = Err (BadRequest Utf8)

-- the rows of a policy file
abbrev pub rows_in : List ℕ → Result (List Row) HttpRefusal
rows_in body = if is_utf8 body then refused_row (policy_of body) else Err (BadRequest Utf8)
