-- The status of each answer and of each refusal, and its phrase.
use Rattle.std.specs.Prelude.{ℕ, Bool, List, [], drop, nat_le, unwrap_or, if◌then◌else◌, ◌==◌, ◌&&◌, ◌||◌}
use Rattle.std.specs.Str.Parse.{digits_value}
use Rattle.http.specs.StatusCode.{reason_phrase}
use Rattle.opc_terms.specs.Faults.{fault_code}
use Rattle.opc_terms.specs.declared.fault.Fault.{Fault}
use Rattle.opc_terms.specs.declared.fault.Fault.TheVariants.{RowFault}
use Rattle.opc_machine.specs.declared.request.Answer.{Answer}
use Rattle.opc_machine.specs.declared.request.Answer.TheVariants.{Done, Refused}
use Rattle.opc_http_requests.specs.declared.refusal.HttpRefusal.{HttpRefusal}
use Rattle.opc_http_requests.specs.declared.refusal.HttpRefusal.TheVariants.{
  BadRequest,
  Forbidden,
  NotFound,
  MethodNotAllowed,
  TooLarge,
  BadRow,
}

-- from one code to the other, both included
abbrev pub is_within : ℕ → ℕ → ℕ → Bool
is_within first last code = nat_le first code && nat_le code last

-- What cannot be read is a bad request; what the user may not do is forbidden; a console that is not there is not
-- found; what the state does not allow conflicts with it; the rest are failures of the service.
abbrev pub status_of_code : ℕ → ℕ
status_of_code code =
    if is_within 1 6 code || (code == 60) then 400
    else (if is_within 11 21 code || is_within 50 51 code then 403
    else (if code == 10 then 404
    else (if is_within 30 45 code || is_within 52 56 code then 409
    else 500)))

-- the status of a fault, by the number of its code: 403 for 20, of E20
unfoldable pub fault_status : Fault → ℕ
fault_status fault = status_of_code (digits_value 10 (drop 1 (fault_code fault)))

abbrev pub status_of : Answer → ℕ
status_of (Done lines rule) = 200
status_of (Refused fault rule) = fault_status fault

abbrev pub refusal_status : HttpRefusal → ℕ
refusal_status (BadRequest part) = 400
refusal_status Forbidden = 403
refusal_status NotFound = 404
refusal_status (MethodNotAllowed method) = 405
refusal_status TooLarge = 413
refusal_status (BadRow row why) = fault_status (RowFault row why)

-- the phrase that HTTP has for a status
unfoldable pub phrase : ℕ → List ℕ
phrase status = unwrap_or (reason_phrase status) []
