use Rattle.opc_http_requests.proofs.Strictness.{asks_for_the_same, web_pages_are_forbidden, what_is_asked_is_from_here}
use Rattle.opc_http_requests.proofs.laws.web_pages_ask_for_nothing.Goals as goal

pub returns : goal.returns
returns c = record {
  forbidden = web_pages_are_forbidden;
  from_here = what_is_asked_is_from_here;
  same = asks_for_the_same;
}
