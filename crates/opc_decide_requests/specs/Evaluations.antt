-- Several questions in one request.
use Rattle.std.specs.Prelude.{ℕ, Bool, false, not, List, [], ◌∷◌, Option, Some, None, Result, Ok, Err, codes, if◌then◌else◌, length, nat_lt}
use Rattle.std.specs.Option.{ok_or, option_map}
use Rattle.std.specs.Str.{bytes_eq}
use Rattle.serde_json.specs.Data.{Data, Items, item, no_items}
use Rattle.serde_json.specs.Find.{as_array, get}
use Rattle.opc_decide_requests.specs.Parts.{being_object, text_if}
use Rattle.opc_decide_requests.specs.RequestFaults.{◌>>=◌}
use Rattle.opc_decide_requests.specs.RequestKeys.{key_text}
use Rattle.opc_decide_requests.specs.declared.evaluations.EvaluationSemantics.{EvaluationSemantics}
use Rattle.opc_decide_requests.specs.declared.evaluations.EvaluationSemantics.TheVariants as semantics
use Rattle.opc_decide_requests.specs.declared.fault.RequestFault.{RequestFault}
use Rattle.opc_decide_requests.specs.declared.fault.RequestFault.TheVariants.{Invalid}
use Rattle.opc_decide_requests.specs.declared.key.RequestKey.TheVariants as key

-- whether a decision is the last one
abbrev pub ends_with : EvaluationSemantics → (decision : Bool) → Bool
ends_with semantics.ExecuteAll decision = false
ends_with semantics.DenyOnFirstDeny decision = not decision
ends_with semantics.PermitOnFirstPermit decision = decision

abbrev pub named_semantics : List ℕ → Option EvaluationSemantics
named_semantics text =
    if bytes_eq text (codes "execute_all") then Some semantics.ExecuteAll else
    if bytes_eq text (codes "deny_on_first_deny") then Some semantics.DenyOnFirstDeny else
    if bytes_eq text (codes "permit_on_first_permit") then Some semantics.PermitOnFirstPermit else None

-- all are answered, if nothing else is said
abbrev pub semantics_by : Option (List ℕ) → Result EvaluationSemantics RequestFault
semantics_by None = Ok semantics.ExecuteAll
semantics_by (Some text) = ok_or (named_semantics text) (Invalid key.Semantic)

abbrev pub semantics_in : Data → Result EvaluationSemantics RequestFault
semantics_in options = do
  _ ← being_object key.Options options
  text ← text_if key.Semantic options
  semantics_by text

abbrev pub options_by : Option Data → Result EvaluationSemantics RequestFault
options_by None = Ok semantics.ExecuteAll
options_by (Some options) = semantics_in options

abbrev pub semantics_at : Data → Result EvaluationSemantics RequestFault
semantics_at body = options_by (get (key_text key.Options) body)

-- the elements of an array, in order
abbrev pub elements_of : Items → List Data
elements_of no_items = []
elements_of (item value more) = value ∷ elements_of more

abbrev pub list_at : Data → Result (List Data) RequestFault
list_at value = ok_or (option_map elements_of (as_array value)) (Invalid key.Evaluations)

-- at most 1,000 questions
abbrev pub up_to_most : List Data → Result (List Data) RequestFault
up_to_most list = if nat_lt 1000 (length list) then Err (Invalid key.Evaluations) else Ok list

abbrev pub elements_by : Option Data → Result (List Data) RequestFault
elements_by None = Ok []
elements_by (Some value) = list_at value >>= up_to_most

-- The questions of a body. Without any, the body is itself a question.
abbrev pub elements_in : Data → Result (List Data) RequestFault
elements_in body = elements_by (get (key_text key.Evaluations) body)
