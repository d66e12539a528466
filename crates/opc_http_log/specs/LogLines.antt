-- The line of an exchange in a log.
use Rattle.std.specs.Prelude.{
  ◌≡◌,
  ℕ,
  Bool,
  true,
  false,
  List,
  [],
  ◌++◌,
  Option,
  Some,
  None,
  Result,
  Ok,
  Err,
  codes,
  decimal,
  flat_map,
  if◌then◌else◌,
}
use Rattle.opc_terms.specs.Faults.{fault_code, fault_text}
use Rattle.opc_terms.specs.Rules.{rule_text_or_none}
use Rattle.opc_terms.specs.declared.fault.Fault.{Fault}
use Rattle.opc_terms.specs.declared.fault.Fault.TheVariants.{AlreadyOn, Exists, InUse, Missing, RowFault}
use Rattle.opc_terms.specs.declared.rule.Rule.{Rule}
use Rattle.opc_terms.specs.declared.store_fault.StoreFault.{StoreFault}
use Rattle.opc_board.specs.Texts.{text_or}
use Rattle.opc_machine.specs.Inputs.{console_of, input_of}
use Rattle.opc_policy_folder.specs.declared.fault.PolicyFault.{PolicyFault}
use Rattle.opc_machine.specs.declared.request.Answer.{Answer}
use Rattle.opc_machine.specs.declared.request.Answer.TheVariants.{Done, Refused}
use Rattle.opc_machine.specs.declared.request.Request.{Request}
use Rattle.opc_http_requests.specs.BodyKeys.{key_text}
use Rattle.opc_http_requests.specs.declared.refusal.HttpRefusal.{HttpRefusal}
use Rattle.opc_http_requests.specs.declared.refusal.HttpRefusal.TheVariants.{
  BadRequest,
  Forbidden,
  NotFound,
  MethodNotAllowed,
  TooLarge,
  BadRow,
}
use Rattle.opc_http_requests.specs.declared.refusal.InvalidPart.{InvalidPart}
use Rattle.opc_http_requests.specs.declared.refusal.InvalidPart.TheVariants as part
use Rattle.opc_http_log.specs.Escapes.{printable}
use Rattle.opc_times.specs.Times.{IsTime}
use Rattle.opc_http_log.specs.Words.{request_words, shown}
use Rattle.opc_http_log.specs.declared.entry.LogEntry.{LogEntry}

-- `-` stands for nothing
abbrev pub nothing : List ℕ
nothing = codes "-"

abbrev pub console_text : Option Request → List ℕ
console_text None = nothing
console_text (Some request) = text_or nothing (console_of (input_of request))

-- `?` for a user who could not be loaded
abbrev pub user_text : Result (Option (List ℕ)) StoreFault → List ℕ
user_text (Ok user) = text_or nothing user
user_text (Err fault) = codes "?"

abbrev pub status_text : Option ℕ → List ℕ
status_text None = nothing
status_text (Some status) = decimal status

-- `H` and the status of its response, or the code of a bad row
abbrev pub refusal_code : HttpRefusal → List ℕ
refusal_code (BadRow row why) = fault_code (RowFault row why)
refusal_code (BadRequest part) = codes "H400"
refusal_code Forbidden = codes "H403"
refusal_code NotFound = codes "H404"
refusal_code (MethodNotAllowed method) = codes "H405"
refusal_code TooLarge = codes "H413"

-- the code of a refusal
abbrev pub code_text : Option (Result Answer HttpRefusal) → List ℕ
code_text None = nothing
code_text (Some (Ok (Done lines rule))) = nothing
code_text (Some (Ok (Refused fault rule))) = fault_code fault
code_text (Some (Err refusal)) = refusal_code refusal

abbrev pub words_text : Option Request → List ℕ
words_text None = nothing
words_text (Some request) = shown (request_words request)

-- A fault that names what stands in the way: a user, a group, a profile or a row. Places in a command are not shown,
-- since they depend on how long a password is.
abbrev pub has_details : Fault → Bool
has_details (AlreadyOn user) = true
has_details (Exists subject) = true
has_details (Missing subject) = true
has_details (InUse subject) = true
has_details (RowFault row why) = true
has_details fault = false

-- its text
abbrev pub details_text : Fault → List ℕ
details_text fault = if has_details fault then fault_text fault else nothing

-- the rule that decided, or what the fault names, if none did
abbrev pub refused_text : Fault → Option Rule → List ℕ
refused_text fault None = details_text fault
refused_text fault (Some rule) = rule_text_or_none (Some rule)

-- which part of a request is invalid
abbrev pub part_text : InvalidPart → List ℕ
part_text part.Head = codes "head"
part_text part.Coding = codes "framing: Transfer-Encoding"
part_text part.Length = codes "framing: Content-Length"
part_text part.CutShort = codes "body: cut short"
part_text part.Console = codes "path: the console"
part_text part.Batch = codes "path: the batch"
part_text part.Class = codes "path: the class"
part_text part.First = codes "path: the first number"
part_text part.Count = codes "path: the count"
part_text part.Json = codes "body: not JSON"
part_text part.Object = codes "body: not an object"
part_text (part.MissingKey key) = codes "body: the key " ++ key_text key ++ codes " is missing"
part_text (part.Value key) = codes "body: the value of " ++ key_text key
part_text part.OtherKeys = codes "body: a key is not known"
part_text part.Utf8 = codes "body: not UTF-8"

-- the invalid part, or the bad row of a policy file
abbrev pub refusal_text : HttpRefusal → List ℕ
refusal_text (BadRow row why) = details_text (RowFault row why)
refusal_text (BadRequest part) = part_text part
refusal_text refusal = nothing

-- why it came to that
abbrev pub reason_text : Option (Result Answer HttpRefusal) → List ℕ
reason_text None = nothing
reason_text (Some (Ok (Done lines rule))) = rule_text_or_none rule
reason_text (Some (Ok (Refused fault rule))) = refused_text fault rule
reason_text (Some (Err refusal)) = refusal_text refusal

-- a field and a space
abbrev pub field : List ℕ → List ℕ
field text = text ++ codes " "

-- the console, and for whom it acted
abbrev pub who_text : LogEntry → List ℕ
who_text entry = field (console_text entry.request) ++ field (user_text entry.user)

-- the outcome
abbrev pub outcome_text : LogEntry → List ℕ
outcome_text entry = field (status_text entry.status) ++ field (code_text entry.reply)

-- the row of the account, if there is one; `#?` for one whose number could not be loaded
abbrev pub row_text : Result (Option ℕ) StoreFault → List ℕ
row_text (Ok None) = []
row_text (Ok (Some number)) = codes " #" ++ decimal number
row_text (Err fault) = codes " #?"

-- what was requested, why it came to that, and the row of the account
abbrev pub what_text : LogEntry → List ℕ
what_text entry = field (words_text entry.request) ++ (reason_text entry.reply ++ row_text entry.row)

abbrev pub fields_of : LogEntry → List ℕ
fields_of entry = who_text entry ++ outcome_text entry ++ what_text entry

-- The name of the state of the policy that was brought into its folder, if one was; or `-` and why it was not, in
-- words of the system, which are not known.
abbrev pub IsPolicyText : Result (Option (List ℕ)) PolicyFault → List ℕ → Type 0
IsPolicyText (Ok None) text = text ≡ []
IsPolicyText (Ok (Some name)) text = text ≡ codes " POLICY " ++ name
IsPolicyText (Err fault) text = (reason : List ℕ) × (text ≡ codes " POLICY - " ++ reason)

-- the fields, with the time before them, and the state of the policy after them
pub record IsLineText (entry : LogEntry) (text : List ℕ) : Type 0 where
  pub time : List ℕ
  pub policy : List ℕ
  pub at : IsTime entry.moment time
  pub kept : IsPolicyText entry.policy policy
  pub is : text ≡ field time ++ fields_of entry ++ policy

pub record IsLogLine (entry : LogEntry) (line : List ℕ) : Type 0 where
  pub text : List ℕ
  pub has : IsLineText entry text
  pub is : line ≡ flat_map printable text ++ codes "\n"
