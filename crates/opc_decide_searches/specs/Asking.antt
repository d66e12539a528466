-- Which page of what it finds a search asks for.
use Rattle.std.specs.Prelude.{ℕ, Bool, ◌&&◌, List, [], Option, Some, None, Result, Ok, if◌then◌else◌, nat_le, option_and_then, unwrap_or}
use Rattle.std.specs.Option.{ok_or}
use Rattle.serde_json.specs.Data.{Data}
use Rattle.serde_json.specs.Find.{as_number, as_u64, get}
use Rattle.opc_decide_requests.specs.Parts.{being_object, text_if}
use Rattle.opc_decide_requests.specs.RequestFaults.{◌>>=◌}
use Rattle.opc_decide_requests.specs.RequestKeys.{key_text}
use Rattle.opc_decide_requests.specs.declared.fault.RequestFault.{RequestFault}
use Rattle.opc_decide_requests.specs.declared.fault.RequestFault.TheVariants.{Invalid}
use Rattle.opc_decide_requests.specs.declared.key.RequestKey.TheVariants as key

-- how many results are on a page: 1 to 1,000, or else 1,000
abbrev pub is_limit : ℕ → Bool
is_limit limit = nat_le 1 limit && nat_le limit 1000

abbrev pub limit_in : Data → Option ℕ
limit_in value =
    option_and_then (λ limit. if is_limit limit then Some limit else None) (option_and_then as_u64 (as_number value))

abbrev pub limit_by : Option Data → Result ℕ RequestFault
limit_by None = Ok 1000
limit_by (Some value) = ok_or (limit_in value) (Invalid key.Limit)

abbrev pub limit_on : Data → Result ℕ RequestFault
limit_on page = do
  _ ← being_object key.Page page
  limit_by (get (key_text key.Limit) page)

abbrev pub limit_by_page : Option Data → Result ℕ RequestFault
limit_by_page None = Ok 1000
limit_by_page (Some page) = limit_on page

abbrev pub limit_at : Data → Result ℕ RequestFault
limit_at body = limit_by_page (get (key_text key.Page) body)

-- the last result of the page before, or an empty text for the first page
abbrev pub token_on : Data → Result (List ℕ) RequestFault
token_on page = do
  _ ← being_object key.Page page
  token ← text_if key.Token page
  Ok (unwrap_or token [])

abbrev pub token_by : Option Data → Result (List ℕ) RequestFault
token_by None = Ok []
token_by (Some page) = token_on page

abbrev pub token_at : Data → Result (List ℕ) RequestFault
token_at body = token_by (get (key_text key.Page) body)
