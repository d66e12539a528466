-- What a search may find: with it in its place, the body of the search is a question.
use Rattle.std.specs.Prelude.{ℕ, List, Result, codes}
use Rattle.serde_json.specs.Data.{Data, member, no_members, object, string}
use Rattle.opc_decide_requests.specs.AccessQuestions.{question_by, question_for}
use Rattle.opc_decide_requests.specs.Actions.{action_at, action_text}
use Rattle.opc_decide_requests.specs.Contexts.{context_at}
use Rattle.opc_decide_requests.specs.RequestFaults.{◌>>=◌}
use Rattle.opc_decide_requests.specs.Subjects.{subject_at}
use Rattle.opc_decide_requests.specs.declared.action.AccessAction.{AccessAction}
use Rattle.opc_decide_requests.specs.declared.fault.RequestFault.{RequestFault}
use Rattle.opc_decide_requests.specs.declared.question.AccessQuestion.{AccessQuestion}
use Rattle.opc_decide_requests.specs.declared.subject.AccessSubject.{AccessSubject}
use Rattle.opc_decide_requests.specs.declared.subject.AccessSubject.TheVariants as subject
use Rattle.opc_decide_searches.specs.declared.candidate.AccessCandidate.{AccessCandidate}
use Rattle.opc_decide_searches.specs.declared.candidate.AccessCandidate.TheVariants as candidate

abbrev pub by_subject : AccessSubject → (body : Data) → Result AccessQuestion RequestFault
by_subject who body = do
  action ← action_at body body
  question_by who action body body

abbrev pub by_action : AccessAction → (body : Data) → Result AccessQuestion RequestFault
by_action action body = do
  who ← subject_at body body
  question_by who action body body

-- a console, which is the resource
abbrev pub by_console : (name : List ℕ) → (body : Data) → Result AccessQuestion RequestFault
by_console name body = do
  who ← subject_at body body
  action ← action_at body body
  context ← context_at body body
  question_for who action (codes "CONSOLE") name context

abbrev pub asked : (body : Data) → AccessCandidate → Result AccessQuestion RequestFault
asked body (candidate.User id) = by_subject (subject.User id) body
asked body (candidate.Nobody name) = by_subject (subject.Console name) body
asked body (candidate.Action action) = by_action action body
asked body (candidate.Console name) = by_console name body

-- an id, or a name
abbrev pub candidate_name : AccessCandidate → List ℕ
candidate_name (candidate.User id) = id
candidate_name (candidate.Nobody name) = name
candidate_name (candidate.Action action) = action_text action
candidate_name (candidate.Console name) = name

-- a result
abbrev pub entity : (id kind : List ℕ) → Data
entity id kind = object (member (codes "id") (string id) (member (codes "type") (string kind) no_members))

abbrev pub candidate_value : AccessCandidate → Data
candidate_value (candidate.User id) = entity id (codes "user")
candidate_value (candidate.Nobody name) = entity name (codes "console")
candidate_value (candidate.Action action) = object (member (codes "name") (string (action_text action)) no_members)
candidate_value (candidate.Console name) = entity name (codes "CONSOLE")
