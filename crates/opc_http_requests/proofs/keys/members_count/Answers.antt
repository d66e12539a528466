use Rattle.std.proofs.Common.{◌∙◌, sym}
use Rattle.serde_json.proofs.Views.{members_len-members_view}
use Rattle.opc_http_requests.proofs.Values.{members_count-object}
use Rattle.opc_http_requests.proofs.keys.members_count.Goals as goal

pub returns-in-Some : goal.returns-in-Some
returns-in-Some c = c.len.ensures.len ∙ sym (members_len-members_view c.in-Some.map.now.entries) ∙ members_count-object _ _ c.in-Some.ensures
