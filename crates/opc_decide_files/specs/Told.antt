-- What a log tells of an answer, after the time: the fields of the lines of `serve`, but the verdict in the place of a
-- code, and at the end the policy.
use Rattle.std.specs.Prelude.{ℕ, List, [], ◌∷◌, ◌++◌, Option, Some, None, Result, Ok, Err, codes, decimal, flat_map}
use Rattle.serde_json.specs.Data.{Data}
use Rattle.opc_names.specs.Spellings.{class_text, level_text}
use Rattle.opc_terms.specs.Faults.{fault_code}
use Rattle.opc_board.specs.Texts.{columns, text_or}
use Rattle.opc_http_log.specs.Escapes.{printable}
use Rattle.opc_http_log.specs.Typed.{typed}
use Rattle.opc_http_log.specs.Words.{shown}
use Rattle.opc_answers.specs.declared.wanted.Wanted.{Wanted}
use Rattle.opc_answers.specs.declared.wanted.Wanted.TheVariants.{Access, Command, Logon}
use Rattle.opc_decide_requests.specs.Parts.{object_at, text_at}
use Rattle.opc_decide_requests.specs.RequestFaults.{◌>>=◌, fault_text}
use Rattle.opc_decide_requests.specs.RequestKeys.{key_path}
use Rattle.opc_decide_requests.specs.Requests.{request_question, value_of}
use Rattle.opc_decide_requests.specs.declared.fault.RequestFault.{RequestFault}
use Rattle.opc_decide_requests.specs.declared.fault.RequestFault.TheVariants as fault
use Rattle.opc_decide_requests.specs.declared.key.RequestKey.TheVariants.{Resource, ResourceId}
use Rattle.opc_decide_requests.specs.declared.question.AccessQuestion.{AccessQuestion}
use Rattle.opc_decide_answers.specs.Decisions.{NamedState, decision_of, decision_rule, decision_word}
use Rattle.opc_decide_answers.specs.Replies.{bad}
use Rattle.opc_decide_answers.specs.declared.decision.AccessDecision.{AccessDecision}
use Rattle.opc_decide_answers.specs.declared.reply.DecideReply.{DecideReply}
use Rattle.opc_decide_present.specs.declared.kind.QuestionKind.{QuestionKind}
use Rattle.opc_decide_present.specs.declared.kind.QuestionKind.TheVariants as question
use Rattle.opc_decide_files.specs.Replying.{reply_to}

-- `-` stands for nothing
abbrev pub or_nothing : Option (List ℕ) → List ℕ
or_nothing text = text_or (codes "-") text

-- what is asked for, in quotes, at most 126 bytes of it, in printable ASCII
abbrev pub shown_words : List ℕ → List ℕ
shown_words words = flat_map printable (shown words)

-- a command as it was typed, without a password; a LOGON at a console; a level of access to a resource
abbrev pub asked_words : (id : List ℕ) → Wanted → List ℕ
asked_words id (Command entered) = codes "enter " ++ typed id
asked_words id (Logon name) = columns (codes "LOGON" ∷ name ∷ [])
asked_words id (Access class resource level) = columns (level_text level ∷ class_text class ∷ resource ∷ [])

-- the id of the resource of a body
abbrev pub id_by : Result (List ℕ) RequestFault → List ℕ
id_by (Ok id) = id
id_by (Err why) = []

abbrev pub id_in : Data → List ℕ
id_in body = id_by (object_at Resource body body >>= text_at ResourceId)

-- CONSOLE USER 200 VERDICT "WORDS" RULE POLICY
abbrev pub decision_told : NamedState → (body : Data) → AccessQuestion → AccessDecision → List ℕ
decision_told p body asked decision =
    columns
    (or_nothing asked.console ∷ or_nothing asked.actor ∷ codes "200" ∷ decision_word decision
    ∷ shown_words (asked_words (id_in body) asked.wanted) ∷ or_nothing (decision_rule decision) ∷ p.name ∷ [])

-- What is wrong with a body. The places that the fault of a command names are not told: they depend on how long a
-- password is.
abbrev pub fault_words : RequestFault → List ℕ
fault_words (fault.NoCommand why) = key_path ResourceId ++ codes ": " ++ fault_code why
fault_words why = fault_text why

abbrev pub kind_words : QuestionKind → List ℕ
kind_words question.Evaluation = codes "evaluation"
kind_words question.Evaluations = codes "evaluations"
kind_words question.SubjectSearch = codes "subject search"
kind_words question.ActionSearch = codes "action search"
kind_words question.ResourceSearch = codes "resource search"

abbrev pub reply_words : QuestionKind → Option RequestFault → List ℕ
reply_words kind None = kind_words kind
reply_words kind (Some why) = fault_words why

-- - - STATUS - "KIND" - POLICY, or what is wrong in the place of the kind
abbrev pub reply_told : NamedState → QuestionKind → DecideReply → List ℕ
reply_told p kind reply =
    columns
    (codes "-" ∷ codes "-" ∷ decimal reply.status ∷ codes "-" ∷ shown_words (reply_words kind reply.fault)
    ∷ codes "-" ∷ p.name ∷ [])

abbrev pub evaluation_told : NamedState → (body : Data) → Result AccessQuestion RequestFault → List ℕ
evaluation_told p body (Ok asked) = decision_told p body asked (decision_of p.state asked)
evaluation_told p body (Err why) = reply_told p question.Evaluation (bad why)

abbrev pub evaluation_told_of : NamedState → Option Data → List ℕ
evaluation_told_of p None = reply_told p question.Evaluation (bad fault.NotJson)
evaluation_told_of p (Some body) = evaluation_told p body (request_question body)

abbrev pub told_of : NamedState → QuestionKind → (body : List ℕ) → List ℕ
told_of p question.Evaluation body = evaluation_told_of p (value_of body)
told_of p kind body = reply_told p kind (reply_to p kind body)
