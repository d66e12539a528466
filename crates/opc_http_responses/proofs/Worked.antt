-- Worked responses, computed.
use Rattle.std.proofs.Common.{◌≡◌, ◌∷◌, [], false, map, refl, None, Some}
use Rattle.std.specs.Fmt.{digits}
use Rattle.std.specs.Prelude.{codes, length}
use Rattle.serde_json.proofs.OnLiterals.{serde_json_on_literals}
use Rattle.opc_board.specs.declared.line.Item.TheVariants.{Plain}
use Rattle.opc_names.specs.declared.class.Class.TheVariants.{Opercmds}
use Rattle.opc_names.specs.declared.level.Level.TheVariants as level
use Rattle.opc_terms.specs.declared.fault.Fault.TheVariants.{DeniedProfile}
use Rattle.opc_terms.specs.declared.fault.Why.TheVariants as why
use Rattle.opc_terms.specs.declared.rule.Rule.TheVariants.{Profile}
use Rattle.opc_machine.specs.declared.request.Answer.{Answer}
use Rattle.opc_machine.specs.declared.request.Answer.TheVariants.{Done, Refused}
use Rattle.opc_http_requests.specs.declared.refusal.Method.TheVariants.{Post}
use Rattle.opc_http_requests.specs.declared.refusal.HttpRefusal.TheVariants.{Forbidden, MethodNotAllowed, BadRow}
use Rattle.opc_http_responses.specs.Bodies.{answer_body, refusal_body}
use Rattle.opc_http_responses.specs.Responses.{refusal_response, response_of}
use Rattle.opc_http_responses.specs.Statuses.{fault_status, phrase}

-- a cancel of PAYROLL, for which nothing is held and UPDATE is needed
abbrev pub denied_cancel : Answer
denied_cancel = Refused DeniedProfile (Some (Profile Opercmds (codes "MVS.CANCEL.JOB.PAY*") level.None level.Update false))

pub body_of_denied_cancel : answer_body denied_cancel ≡ codes
    "{\"code\":\"E20\",\"rule\":\"PROFILE OPERCMDS MVS.CANCEL.JOB.PAY* HELD NONE NEEDED UPDATE\",\"status\":\"refused\",\"text\":\"DeniedProfile\"}"
unfolding serde_json_on_literals
body_of_denied_cancel = refl

pub length_of_denied_cancel : length (answer_body denied_cancel) ≡ 126
unfolding serde_json_on_literals
length_of_denied_cancel = refl

pub whole_denied_cancel : response_of denied_cancel ≡ codes
    "HTTP/1.1 403 Forbidden\r\nContent-Type: application/json\r\nContent-Length: 126\r\nConnection: close\r\n\r\n{\"code\":\"E20\",\"rule\":\"PROFILE OPERCMDS MVS.CANCEL.JOB.PAY* HELD NONE NEEDED UPDATE\",\"status\":\"refused\",\"text\":\"DeniedProfile\"}"
unfolding serde_json_on_literals digits fault_status phrase
whole_denied_cancel = refl

pub body_of_display : answer_body (Done (record {
  item = Plain;
  text = codes "07 MOUNT PAY01";
} ∷ []) None) ≡ codes "{\"lines\":[\"07 MOUNT PAY01\"],\"rule\":\"-\",\"status\":\"done\"}"
unfolding serde_json_on_literals
body_of_display = refl

pub whole_other_method : refusal_response (MethodNotAllowed Post) ≡ codes
    "HTTP/1.1 405 Method Not Allowed\r\nContent-Type: application/json\r\nContent-Length: 73\r\nAllow: POST\r\nConnection: close\r\n\r\n{\"code\":\"H405\",\"rule\":\"-\",\"status\":\"refused\",\"text\":\"Method Not Allowed\"}"
unfolding serde_json_on_literals digits phrase
whole_other_method = refl

pub whole_forbidden : refusal_response Forbidden ≡ codes
    "HTTP/1.1 403 Forbidden\r\nContent-Type: application/json\r\nContent-Length: 64\r\nConnection: close\r\n\r\n{\"code\":\"H403\",\"rule\":\"-\",\"status\":\"refused\",\"text\":\"Forbidden\"}"
unfolding serde_json_on_literals digits phrase
whole_forbidden = refl

pub body_of_bad_row : refusal_body (BadRow 3 why.Name) ≡ codes "{\"code\":\"E60\",\"rule\":\"-\",\"status\":\"refused\",\"text\":\"RowFault 3 Name\"}"
unfolding serde_json_on_literals digits
body_of_bad_row = refl

pub phrases : map phrase (200 ∷ 400 ∷ 403 ∷ 404 ∷ 405 ∷ 409 ∷ 413 ∷ 500 ∷ []) ≡ codes "OK" ∷ codes "Bad Request"
    ∷ codes "Forbidden" ∷ codes "Not Found" ∷ codes "Method Not Allowed" ∷ codes "Conflict" ∷ codes "Payload Too Large"
    ∷ codes "Internal Server Error" ∷ []
unfolding phrase
phrases = refl
