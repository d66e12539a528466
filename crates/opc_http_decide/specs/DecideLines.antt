-- What a log tells of an exchange of `decide`.
use Rattle.std.specs.Prelude.{◌≡◌, ℕ, List, ◌++◌, codes, decimal, flat_map}
use Rattle.opc_http_log.specs.Escapes.{printable}
use Rattle.opc_http_log.specs.LogLines.{field, refusal_code}
use Rattle.opc_http_requests.specs.declared.refusal.HttpRefusal.{HttpRefusal}
use Rattle.opc_http_responses.specs.Statuses.{refusal_status}
use Rattle.opc_times.specs.Times.{IsTime}

-- what is told if no question was decided: nobody asked, and no policy answered
abbrev pub undecided : (status : ℕ) → (code : List ℕ) → List ℕ
undecided status code = codes "- - " ++ decimal status ++ codes " " ++ code ++ codes " - - -"

-- what is told of a response that repeats where questions are asked
abbrev pub configuration_told : List ℕ
configuration_told = codes "- - 200 - - - -"

-- what is told of a refusal: its status, and the code that the log of `serve` has for it
abbrev pub refusal_told : HttpRefusal → List ℕ
refusal_told refusal = undecided (refusal_status refusal) (refusal_code refusal)

-- A line has the time and what is told, as one line of printable ASCII.
pub record IsToldLine (moment : ℕ) (told line : List ℕ) : Type 0 where
  pub time : List ℕ
  pub at : IsTime moment time
  pub is : line ≡ flat_map printable (field time ++ told) ++ codes "\n"
