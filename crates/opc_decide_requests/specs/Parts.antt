-- The parts of a request: objects, and texts in them.
use Rattle.std.specs.Prelude.{ℕ, List, Option, Some, None, Result, Ok, Err, if◌then◌else◌, is_some}
use Rattle.std.specs.Option.{ok_or, option_or}
use Rattle.serde_json.specs.Data.{Data}
use Rattle.serde_json.specs.Find.{as_object, as_str, get}
use Rattle.opc_decide_requests.specs.RequestFaults.{◌>>=◌}
use Rattle.opc_decide_requests.specs.RequestKeys.{key_text}
use Rattle.opc_decide_requests.specs.declared.fault.RequestFault.{RequestFault}
use Rattle.opc_decide_requests.specs.declared.fault.RequestFault.TheVariants.{Invalid, Missing}
use Rattle.opc_decide_requests.specs.declared.key.RequestKey.{RequestKey}

-- the value of a key of an element or, if it has none, the one that all elements share
abbrev pub member_of : RequestKey → (element shared : Data) → Option Data
member_of key element shared = option_or (get (key_text key) element) (get (key_text key) shared)

-- the value of a key is an object
abbrev pub being_object : RequestKey → Data → Result Unit RequestFault
being_object key value = if is_some (as_object value) then Ok tt else Err (Invalid key)

abbrev pub object_at : RequestKey → (element shared : Data) → Result Data RequestFault
object_at key element shared = do
  found ← ok_or (member_of key element shared) (Missing key)
  _ ← being_object key found
  Ok found

-- the text of a key,
abbrev pub text_in : RequestKey → Data → Result (List ℕ) RequestFault
text_in key value = ok_or (as_str value) (Invalid key)

abbrev pub text_at : RequestKey → Data → Result (List ℕ) RequestFault
text_at key value = ok_or (get (key_text key) value) (Missing key) >>= text_in key

-- which may be missing
abbrev pub text_by : RequestKey → Option Data → Result (Option (List ℕ)) RequestFault
text_by key None = Ok None
text_by key (Some value) = text_in key value >>= (λ text. Ok (Some text))

abbrev pub text_if : RequestKey → Data → Result (Option (List ℕ)) RequestFault
text_if key value = text_by key (get (key_text key) value)
