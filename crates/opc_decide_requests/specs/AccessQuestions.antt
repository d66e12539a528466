-- A question of another program, as a question about the policy: may this subject do this action on this resource?
use Rattle.std.specs.Prelude.{◌≡◌, ℕ, List, Option, Some, None, Result, Ok, Err, codes, false, if◌then◌else◌}
use Rattle.std.specs.Option.{ok_or}
use Rattle.std.specs.Str.{bytes_eq}
use Rattle.serde_json.specs.Data.{Data}
use Rattle.opc_names.specs.Names.{console_rule, resource_rule}
use Rattle.opc_names.specs.Spellings.{classes, lookup}
use Rattle.opc_names.specs.declared.level.Level.{Level}
use Rattle.opc_terms.specs.declared.fault.Fault.{Fault}
use Rattle.opc_terms.specs.declared.fault.Fault.TheVariants.{NoConsole}
use Rattle.opc_terms.specs.declared.unit_kind.UnitKindAt.{UnitKindAt}
use Rattle.opc_import.specs.Fields.{name_of}
use Rattle.opc_answers.specs.declared.question.Asks.TheVariants.{Why}
use Rattle.opc_answers.specs.declared.question.Question.{Question}
use Rattle.opc_answers.specs.declared.wanted.Wanted.{Wanted}
use Rattle.opc_answers.specs.declared.wanted.Wanted.TheVariants as wanted
use Rattle.opc_answers.specs.Needed.{is_logon, line_in, need_in, unit_in}
use Rattle.opc_answers.specs.Questions.{logon_at, wanted_by, wanted_of}
use Rattle.opc_decide_requests.specs.Actions.{action_at}
use Rattle.opc_decide_requests.specs.Contexts.{being_at, context_at}
use Rattle.opc_decide_requests.specs.Parts.{object_at, text_at}
use Rattle.opc_decide_requests.specs.RequestFaults.{◌>>=◌}
use Rattle.opc_decide_requests.specs.Subjects.{subject_at}
use Rattle.opc_decide_requests.specs.declared.action.AccessAction.{AccessAction}
use Rattle.opc_decide_requests.specs.declared.action.AccessAction.TheVariants.{Enter, Have, Logon}
use Rattle.opc_decide_requests.specs.declared.context.AccessContext.{AccessContext}
use Rattle.opc_decide_requests.specs.declared.fault.RequestFault.{RequestFault}
use Rattle.opc_decide_requests.specs.declared.fault.RequestFault.TheVariants.{Invalid, Missing, NeedsNothing, NoCommand}
use Rattle.opc_decide_requests.specs.declared.key.RequestKey.TheVariants as key
use Rattle.opc_decide_requests.specs.declared.question.AccessQuestion.{AccessQuestion}
use Rattle.opc_decide_requests.specs.declared.subject.AccessSubject.{AccessSubject}
use Rattle.opc_decide_requests.specs.declared.subject.AccessSubject.TheVariants.{Console, User}

-- as `explain` asks it, without the level that is held behind each pattern
pub record AsksFor (asked : AccessQuestion) (q : Question) : Type 0 where
  pub wanted : wanted_of q.about q.console ≡ Ok (Some asked.wanted)
  pub asks : q.asks ≡ Why asked.actor false
  pub console : q.console ≡ asked.console

-- What is wanted, if a policy decides about it: a text that is no command is refused as the gate refuses it, and a LOGON
-- is typed at a console.
abbrev pub needed : Result (Option Wanted) Fault → Result Wanted RequestFault
needed (Ok (Some w)) = Ok w
needed (Ok None) = Err NeedsNothing
needed (Err NoConsole) = Err (Missing key.Console)
needed (Err fault) = Err (NoCommand fault)

abbrev pub being_kind : (wanted kind : List ℕ) → Result Unit RequestFault
being_kind wanted kind = if bytes_eq kind wanted then Ok tt else Err (Invalid key.ResourceType)

-- a level of access to a resource of a class
abbrev pub access_asked : Level → (kind id : List ℕ) → (actor console : Option (List ℕ)) → Result AccessQuestion RequestFault
access_asked level kind id actor console = do
  class ← ok_or (lookup classes kind) (Invalid key.ResourceType)
  resource ← ok_or (name_of resource_rule id) (Invalid key.ResourceId)
  Ok (record { wanted = wanted.Access class resource level; actor = actor; console = console })

-- a LOGON at a console, which is the resource
abbrev pub logon_asked : (kind id : List ℕ) → (actor console : Option (List ℕ)) → Result AccessQuestion RequestFault
logon_asked kind id actor console = do
  _ ← being_kind (codes "CONSOLE") kind
  name ← ok_or (name_of console_rule id) (Invalid key.ResourceId)
  _ ← being_at name console
  Ok (record { wanted = wanted.Logon name; actor = actor; console = Some name })

-- a command, as its text
abbrev pub command_wanted : (text : List ℕ) → UnitKindAt → (console : Option (List ℕ)) → Result (Option Wanted) Fault
command_wanted text taken console = if is_logon text then logon_at console else
    wanted_by (need_in text taken) (unit_in text taken) (line_in text)

abbrev pub command_asked : (kind id : List ℕ) → UnitKindAt → (actor console : Option (List ℕ))
    → Result AccessQuestion RequestFault
command_asked kind id taken actor console = do
  _ ← being_kind (codes "command") kind
  w ← needed (command_wanted id taken console)
  Ok (record { wanted = w; actor = actor; console = console })

-- an action on a resource
abbrev pub question_about : AccessAction → (kind id : List ℕ) → (actor : Option (List ℕ)) → AccessContext
    → Result AccessQuestion RequestFault
question_about (Have level) kind id actor context = access_asked level kind id actor context.console
question_about Logon kind id actor context = logon_asked kind id actor context.console
question_about Enter kind id actor context = command_asked kind id context.taken actor context.console

-- only users log on
abbrev pub being_no_logon : Wanted → Result Unit RequestFault
being_no_logon (wanted.Logon name) = Err (Invalid key.SubjectType)
being_no_logon other = Ok tt

-- asked by a subject: at a console where nobody is logged on, only commands are entered
abbrev pub by_nobody : (name : List ℕ) → AccessAction → (kind id : List ℕ) → AccessContext
    → Result AccessQuestion RequestFault
by_nobody name Enter kind id context = do
  _ ← being_at name context.console
  asked ← command_asked kind id context.taken None (Some name)
  _ ← being_no_logon asked.wanted
  Ok asked
by_nobody name (Have level) kind id context = Err (Invalid key.SubjectType)
by_nobody name Logon kind id context = Err (Invalid key.SubjectType)

abbrev pub question_for : AccessSubject → AccessAction → (kind id : List ℕ) → AccessContext
    → Result AccessQuestion RequestFault
question_for (User id) action kind name context = question_about action kind name (Some id) context
question_for (Console console) action kind name context = by_nobody console action kind name context

-- with the resource and the context of an element, or else with those that all elements share
abbrev pub question_by : AccessSubject → AccessAction → (element shared : Data) → Result AccessQuestion RequestFault
question_by subject action element shared = do
  resource ← object_at key.Resource element shared
  kind ← text_at key.ResourceType resource
  id ← text_at key.ResourceId resource
  context ← context_at element shared
  question_for subject action kind id context

-- the question of an element; what it does not have is what all elements share
abbrev pub question_of : (element shared : Data) → Result AccessQuestion RequestFault
question_of element shared = do
  subject ← subject_at element shared
  action ← action_at element shared
  question_by subject action element shared
