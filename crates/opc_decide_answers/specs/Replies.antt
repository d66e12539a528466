-- The status and the body of an answer, and why a body asks no question.
use Rattle.std.specs.Prelude.{Some, None}
use Rattle.serde_json.specs.Data.{Data, string}
use Rattle.serde_json.specs.Written.{compact_text}
use Rattle.opc_decide_requests.specs.RequestFaults.{fault_text}
use Rattle.opc_decide_requests.specs.declared.fault.RequestFault.{RequestFault}
use Rattle.opc_decide_answers.specs.declared.reply.DecideReply.{DecideReply}

-- what is answered to a question
abbrev pub done : Data → DecideReply
done value = record { status = 200; body = compact_text value; fault = None }

-- what is answered to a body that asks no question
abbrev pub bad : RequestFault → DecideReply
bad why = record { status = 400; body = compact_text (string (fault_text why)); fault = Some why }
