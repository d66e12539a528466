-- The line of a request of a run in a log: that of an exchange, but that an event has the console `*` and its text.
use Rattle.std.specs.Prelude.{◌≡◌, ℕ, List, ◌++◌, Option, Some, Result, Ok, codes, flat_map}
use Rattle.opc_terms.specs.declared.store_fault.StoreFault.{StoreFault}
use Rattle.opc_board.specs.Texts.{text_or}
use Rattle.opc_machine.specs.Inputs.{console_of, input_of}
use Rattle.opc_machine.specs.declared.request.Answer.{Answer}
use Rattle.opc_machine.specs.declared.request.Request.{Request}
use Rattle.opc_machine.specs.declared.request.Request.TheVariants.{Event}
use Rattle.opc_http_responses.specs.Statuses.{status_of}
use Rattle.opc_http_log.specs.Escapes.{printable}
use Rattle.opc_http_log.specs.LogLines.{code_text, field, reason_text, row_text, status_text, user_text}
use Rattle.opc_http_log.specs.Words.{request_words, shown}
use Rattle.opc_times.specs.Times.{IsTime}
use Rattle.opc_cli_script.specs.Events.{event_text}

-- A request that was handled: when, for whom its console acted before it, and the number of its row of the account. The
-- user and the number may not have been loaded.
pub record LoggedRequest : Type 0 where
  pub moment : ℕ
  pub request : Request
  pub user : Result (Option (List ℕ)) StoreFault
  pub answer : Answer
  pub row : Result (Option ℕ) StoreFault

abbrev pub logged : ℕ → Request → (user : Result (Option (List ℕ)) StoreFault) → Answer
    → (row : Result (Option ℕ) StoreFault) → LoggedRequest
logged moment request user answer row =
    record { moment = moment; request = request; user = user; answer = answer; row = row }

abbrev pub console_text : Request → List ℕ
console_text request = text_or (codes "*") (console_of (input_of request))

-- an event is as a script has it
abbrev pub words_of : Request → List ℕ
words_of (Event event) = shown (event_text event)
words_of request = shown (request_words request)

-- the console, and for whom it acted
abbrev pub who_text : Request → (user : Result (Option (List ℕ)) StoreFault) → List ℕ
who_text request user = field (console_text request) ++ field (user_text user)

-- the outcome, with the status that a response would have
abbrev pub outcome_text : Answer → List ℕ
outcome_text answer = field (status_text (Some (status_of answer))) ++ field (code_text (Some (Ok answer)))

-- what was requested, why it came to that, and the row of the account
abbrev pub what_text : Request → Answer → (row : Result (Option ℕ) StoreFault) → List ℕ
what_text request answer row = field (words_of request) ++ (reason_text (Some (Ok answer)) ++ row_text row)

-- the fields, with the time before them
pub record IsRunText (entry : LoggedRequest) (text : List ℕ) : Type 0 where
  pub time : List ℕ
  pub at : IsTime entry.moment time
  pub is : text ≡ field time ++ (who_text entry.request entry.user
      ++ (outcome_text entry.answer ++ what_text entry.request entry.answer entry.row))

pub record IsRunLine (entry : LoggedRequest) (line : List ℕ) : Type 0 where
  pub text : List ℕ
  pub has : IsRunText entry text
  pub is : line ≡ flat_map printable text ++ codes "\n"
