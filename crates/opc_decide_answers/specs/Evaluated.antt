-- The answers to the questions of a request.
use Rattle.std.specs.Prelude.{ℕ, Bool, false, List, [], ◌∷◌, Option, Some, None, Result, Ok, Err, codes, if◌then◌else◌}
use Rattle.serde_json.specs.Data.{Data, array, member, no_members, object}
use Rattle.serde_json.specs.View.{items_of}
use Rattle.opc_decide_requests.specs.Evaluations.{elements_in, ends_with, semantics_at}
use Rattle.opc_decide_requests.specs.RequestFaults.{◌>>=◌, fault_text}
use Rattle.opc_decide_requests.specs.Requests.{being_body, element_question, request_question, value_of}
use Rattle.opc_decide_requests.specs.declared.evaluations.EvaluationSemantics.{EvaluationSemantics}
use Rattle.opc_decide_requests.specs.declared.fault.RequestFault.{RequestFault}
use Rattle.opc_decide_requests.specs.declared.fault.RequestFault.TheVariants.{NotJson}
use Rattle.opc_decide_requests.specs.declared.question.AccessQuestion.{AccessQuestion}
use Rattle.opc_decide_answers.specs.DecisionValues.{decision_value, fault_value}
use Rattle.opc_decide_answers.specs.Decisions.{NamedState, decision_of, permits}
use Rattle.opc_decide_answers.specs.Replies.{bad, done}
use Rattle.opc_decide_answers.specs.declared.decision.AccessDecision.{AccessDecision}
use Rattle.opc_decide_answers.specs.declared.reply.DecideReply.{DecideReply}

-- one question
abbrev pub decision_reply : NamedState → AccessDecision → DecideReply
decision_reply p decision = done (decision_value p.name decision)

abbrev pub evaluation_by : NamedState → Result AccessQuestion RequestFault → DecideReply
evaluation_by p (Ok asked) = decision_reply p (decision_of p.state asked)
evaluation_by p (Err why) = bad why

abbrev pub evaluation_in : NamedState → Data → DecideReply
evaluation_in p body = evaluation_by p (request_question body)

abbrev pub evaluation_of : NamedState → Option Data → DecideReply
evaluation_of p None = bad NotJson
evaluation_of p (Some body) = evaluation_in p body

abbrev pub evaluation : NamedState → (body : List ℕ) → DecideReply
evaluation p body = evaluation_of p (value_of body)

-- One of several: an element that does not read is answered in its place, and permits nothing.
abbrev pub element_value : NamedState → Result AccessQuestion RequestFault → Data
element_value p (Ok asked) = decision_value p.name (decision_of p.state asked)
element_value p (Err why) = fault_value (fault_text why)

abbrev pub element_permits : NamedState → Result AccessQuestion RequestFault → Bool
element_permits p (Ok asked) = permits (decision_of p.state asked)
element_permits p (Err why) = false

-- the answers in order, up to the one with which they end
abbrev pub going_on : EvaluationSemantics → (permits : Bool) → List Data → List Data
going_on semantics permits more = if ends_with semantics permits then [] else more

abbrev pub answers : NamedState → EvaluationSemantics → (shared : Data) → List Data → List Data
answers p semantics shared [] = []
answers p semantics shared (element ∷ more) = element_value p (element_question element shared)
    ∷ going_on semantics (element_permits p (element_question element shared)) (answers p semantics shared more)

abbrev pub evaluations_value : List Data → Data
evaluations_value list = object (member (codes "evaluations") (array (items_of list)) no_members)

abbrev pub list_by : NamedState → (body : Data) → List Data → Result EvaluationSemantics RequestFault → DecideReply
list_by p body elements (Ok semantics) = done (evaluations_value (answers p semantics body elements))
list_by p body elements (Err why) = bad why

abbrev pub list_reply : NamedState → (body : Data) → List Data → DecideReply
list_reply p body elements = list_by p body elements (semantics_at body)

-- without a list, the body is itself a question
abbrev pub evaluations_by : NamedState → (body : Data) → Result (List Data) RequestFault → DecideReply
evaluations_by p body (Ok []) = evaluation_in p body
evaluations_by p body (Ok (element ∷ more)) = list_reply p body (element ∷ more)
evaluations_by p body (Err why) = bad why

abbrev pub evaluations_in : NamedState → Data → DecideReply
evaluations_in p body = evaluations_by p body (being_body body >>= (λ _. elements_in body))

abbrev pub evaluations_of : NamedState → Option Data → DecideReply
evaluations_of p None = bad NotJson
evaluations_of p (Some body) = evaluations_in p body

abbrev pub evaluations : NamedState → (body : List ℕ) → DecideReply
evaluations p body = evaluations_of p (value_of body)
