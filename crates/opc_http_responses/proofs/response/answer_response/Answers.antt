use Rattle.opc_http_responses.proofs.response.answer_response.Goals as goal

pub returns : goal.returns
returns c = rw (c.status_of.ensures, c.as_str.ensures.value, c.in_ok-body.ensures) at c.response_with.ensures
