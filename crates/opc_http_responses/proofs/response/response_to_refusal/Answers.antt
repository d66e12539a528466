use Rattle.std.proofs.lemmas.List.{append-nil}
use Rattle.opc_http_responses.specs.Responses.{allow_field, allowed}
use Rattle.opc_http_responses.proofs.response.response_to_refusal.Goals as goal

pub returns : goal.returns
returns c = rw (append-nil (allow_field (allowed c.args.refusal.now))) at c.refused_with.ensures
