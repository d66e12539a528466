-- The body of a request.
use Rattle.std.specs.Prelude.{ℕ, List, Option, None, Result, Ok, Err, if◌then◌else◌, is_some}
use Rattle.std.specs.Str.{is_utf8}
use Rattle.serde_json.specs.Data.{Data}
use Rattle.serde_json.specs.Find.{as_object}
use Rattle.serde_json.specs.Read.{read}
use Rattle.opc_decide_requests.specs.AccessQuestions.{question_of}
use Rattle.opc_decide_requests.specs.Parts.{being_object}
use Rattle.opc_decide_requests.specs.RequestFaults.{◌>>=◌}
use Rattle.opc_decide_requests.specs.declared.fault.RequestFault.{RequestFault}
use Rattle.opc_decide_requests.specs.declared.fault.RequestFault.TheVariants.{NotObject}
use Rattle.opc_decide_requests.specs.declared.key.RequestKey.TheVariants.{Evaluations}
use Rattle.opc_decide_requests.specs.declared.question.AccessQuestion.{AccessQuestion}

-- the value of JSON that some bytes are, as `serde_json` reads it
abbrev pub value_of : List ℕ → Option Data
value_of bytes = if is_utf8 bytes then read bytes else None

abbrev pub being_body : Data → Result Unit RequestFault
being_body body = if is_some (as_object body) then Ok tt else Err NotObject

-- the question that a body is,
abbrev pub request_question : Data → Result AccessQuestion RequestFault
request_question body = do
  _ ← being_body body
  question_of body body

-- and that of one of several elements, which the others share
abbrev pub element_question : (element shared : Data) → Result AccessQuestion RequestFault
element_question element shared = do
  _ ← being_object Evaluations element
  question_of element shared
