-- Who or what a search finds: those with whom its question is permitted.
use Rattle.std.specs.Prelude.{Bool, if◌then◌else◌, is_ok, List, [], ◌∷◌, Option, Some, None, Result, Ok, Err, filter, map}
use Rattle.std.specs.List.{list_any}
use Rattle.serde_json.specs.Data.{Data}
use Rattle.opc_board.specs.declared.rows.ConsoleRow.{ConsoleRow}
use Rattle.opc_state.specs.State.{State}
use Rattle.opc_answers.specs.declared.members.UserWithGroups.{UserWithGroups}
use Rattle.opc_answers.specs.Made.{members_of}
use Rattle.opc_decide_requests.specs.declared.action.AccessAction.{AccessAction}
use Rattle.opc_decide_requests.specs.declared.fault.RequestFault.{RequestFault}
use Rattle.opc_decide_requests.specs.declared.question.AccessQuestion.{AccessQuestion}
use Rattle.opc_decide_requests.specs.declared.subject.SubjectKind.TheVariants as kind
use Rattle.opc_decide_answers.specs.Decisions.{NamedState}
use Rattle.opc_decide_answers.specs.Evaluated.{element_permits}
use Rattle.opc_decide_searches.specs.declared.candidate.AccessCandidate.{AccessCandidate}
use Rattle.opc_decide_searches.specs.declared.candidate.AccessCandidate.TheVariants as candidate
use Rattle.opc_decide_searches.specs.declared.sought.Sought.{Sought}
use Rattle.opc_decide_searches.specs.declared.sought.Sought.TheVariants.{Actions, Consoles, Subjects}
use Rattle.opc_decide_searches.specs.Candidates.{asked}
use Rattle.opc_decide_searches.specs.Sought.{actions_on}

abbrev pub permitted : NamedState → (body : Data) → List AccessCandidate → List AccessCandidate
permitted p body candidates = filter (λ c. element_permits p (asked body c)) candidates

-- what is wrong with the question, if it reads about none of the candidates: that about the first
abbrev pub fault_of : Result AccessQuestion RequestFault → Option RequestFault
fault_of (Ok question) = None
fault_of (Err why) = Some why

abbrev pub first_fault : (body : Data) → List AccessCandidate → Option RequestFault
first_fault body [] = None
first_fault body (c ∷ more) = fault_of (asked body c)

abbrev pub reads : (body : Data) → AccessCandidate → Bool
reads body c = is_ok (asked body c)

abbrev pub shared_fault : (body : Data) → List AccessCandidate → Option RequestFault
shared_fault body candidates = if list_any (reads body) candidates then None else first_fault body candidates

-- the users of a policy by id,
abbrev pub users_as_candidates : List UserWithGroups → List AccessCandidate
users_as_candidates members = map (λ (m : UserWithGroups). candidate.User m.user.id) members

abbrev pub user_candidates : State → List AccessCandidate
user_candidates s = users_as_candidates (members_of s.policy)

-- its consoles by name, where nobody is logged on, or as resources,
abbrev pub nobody_at : List ConsoleRow → List AccessCandidate
nobody_at consoles = map (λ (c : ConsoleRow). candidate.Nobody c.name) consoles

abbrev pub as_resources : List ConsoleRow → List AccessCandidate
as_resources consoles = map (λ (c : ConsoleRow). candidate.Console c.name) consoles

abbrev pub console_candidates : State → List AccessCandidate
console_candidates s = as_resources s.board.consoles

-- and actions
abbrev pub action_candidates : List AccessAction → List AccessCandidate
action_candidates actions = map candidate.Action actions

-- those that a search tries
abbrev pub candidates_of : State → Sought → List AccessCandidate
candidates_of s (Subjects kind.User) = user_candidates s
candidates_of s (Subjects kind.Console) = nobody_at s.board.consoles
candidates_of s (Actions kind) = action_candidates (actions_on kind)
candidates_of s Consoles = console_candidates s
