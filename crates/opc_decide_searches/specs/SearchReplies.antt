-- The answers to searches.
use Rattle.std.specs.Prelude.{ℕ, List, Option, Some, None, Result, Ok, Err}
use Rattle.serde_json.specs.Data.{Data}
use Rattle.opc_decide_requests.specs.RequestFaults.{◌>>=◌}
use Rattle.opc_decide_requests.specs.Requests.{value_of}
use Rattle.opc_decide_requests.specs.declared.fault.RequestFault.{RequestFault}
use Rattle.opc_decide_requests.specs.declared.fault.RequestFault.TheVariants.{NotJson}
use Rattle.opc_decide_answers.specs.Decisions.{NamedState}
use Rattle.opc_decide_answers.specs.Replies.{bad, done}
use Rattle.opc_decide_answers.specs.declared.reply.DecideReply.{DecideReply}
use Rattle.opc_decide_searches.specs.declared.candidate.AccessCandidate.{AccessCandidate}
use Rattle.opc_decide_searches.specs.declared.sought.SearchKind.{SearchKind}
use Rattle.opc_decide_searches.specs.declared.sought.Sought.{Sought}
use Rattle.opc_decide_searches.specs.Asking.{limit_at, token_at}
use Rattle.opc_decide_searches.specs.Found.{candidates_of, permitted, shared_fault}
use Rattle.opc_decide_searches.specs.Pages.{results_value}
use Rattle.opc_decide_searches.specs.Sought.{sought_at}

abbrev pub being_asked : Option RequestFault → Result Unit RequestFault
being_asked None = Ok tt
being_asked (Some why) = Err why

-- those of the candidates with whom the question of a body is permitted, on the page that it asks for
abbrev pub found_value : NamedState → (body : Data) → List AccessCandidate → Result Data RequestFault
found_value p body candidates = do
  limit ← limit_at body
  token ← token_at body
  _ ← being_asked (shared_fault body candidates)
  Ok (results_value limit token (permitted p body candidates))

abbrev pub reply_of : Result Data RequestFault → DecideReply
reply_of (Ok value) = done value
reply_of (Err why) = bad why

abbrev pub found_reply : NamedState → (body : Data) → List AccessCandidate → DecideReply
found_reply p body candidates = reply_of (found_value p body candidates)

abbrev pub search_by : NamedState → (body : Data) → Result Sought RequestFault → DecideReply
search_by p body (Ok sought) = found_reply p body (candidates_of p.state sought)
search_by p body (Err why) = bad why

abbrev pub search_in : NamedState → SearchKind → (body : Data) → DecideReply
search_in p kind body = search_by p body (sought_at kind body)

-- the answer to a body, by its bytes
abbrev pub search_of : NamedState → SearchKind → Option Data → DecideReply
search_of p kind None = bad NotJson
search_of p kind (Some body) = search_in p kind body

abbrev pub search : NamedState → SearchKind → (body : List ℕ) → DecideReply
search p kind body = search_of p kind (value_of body)
