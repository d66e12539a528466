-- Bodies: what is written of an answer or of a refusal, as JSON without spaces.
use Rattle.std.specs.Prelude.{ℕ, List, ◌++◌, codes, decimal, map, None}
use Rattle.serde_json.specs.Data.{Data, Items, array, member, no_members, object, string}
use Rattle.serde_json.specs.View.{items_of}
use Rattle.serde_json.specs.Written.{compact_text}
use Rattle.opc_board.specs.declared.line.Line.{Line}
use Rattle.opc_terms.specs.Faults.{fault_code, fault_text}
use Rattle.opc_terms.specs.Rules.{rule_text_or_none}
use Rattle.opc_terms.specs.declared.fault.Fault.TheVariants.{RowFault}
use Rattle.opc_machine.specs.declared.request.Answer.{Answer}
use Rattle.opc_machine.specs.declared.request.Answer.TheVariants.{Done, Refused}
use Rattle.opc_http_requests.specs.declared.refusal.HttpRefusal.{HttpRefusal}
use Rattle.opc_http_requests.specs.declared.refusal.HttpRefusal.TheVariants.{
  BadRequest,
  Forbidden,
  NotFound,
  MethodNotAllowed,
  TooLarge,
  BadRow,
}
use Rattle.opc_http_responses.specs.Statuses.{phrase, refusal_status}

-- the lines, as an array of texts
abbrev pub line_items : List Line → Items
line_items lines = items_of (map (λ line. string line.text) lines)

-- a request that is done: its lines and its rule
abbrev pub done_value : List Line → List ℕ → Data
done_value lines rule =
    object (member (codes "lines") (array (line_items lines))
    (member (codes "rule") (string rule)
    (member (codes "status") (string (codes "done")) no_members)))

-- a request that is refused: its code, its rule and its text
abbrev pub refused_value : List ℕ → List ℕ → List ℕ → Data
refused_value code rule text =
    object (member (codes "code") (string code)
    (member (codes "rule") (string rule)
    (member (codes "status") (string (codes "refused"))
    (member (codes "text") (string text) no_members))))

abbrev pub answer_body : Answer → List ℕ
answer_body (Done lines rule) = compact_text (done_value lines (rule_text_or_none rule))
answer_body (Refused fault rule) = compact_text
    (refused_value (fault_code fault) (rule_text_or_none rule) (fault_text fault))

-- a refusal by its status alone: `H` and the status, no rule, the phrase
abbrev pub status_body : ℕ → List ℕ
status_body status = compact_text (refused_value (codes "H" ++ decimal status) (codes "-") (phrase status))

-- a bad row is reported as the fault that it is
abbrev pub refusal_body : HttpRefusal → List ℕ
refusal_body (BadRow row why) = answer_body (Refused (RowFault row why) None)
refusal_body (BadRequest part) = status_body (refusal_status (BadRequest part))
refusal_body Forbidden = status_body (refusal_status Forbidden)
refusal_body NotFound = status_body (refusal_status NotFound)
refusal_body (MethodNotAllowed method) = status_body (refusal_status (MethodNotAllowed method))
refusal_body TooLarge = status_body (refusal_status TooLarge)
