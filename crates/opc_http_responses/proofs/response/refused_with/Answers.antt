use Rattle.opc_http_responses.proofs.response.refused_with.Goals as goal

pub returns : goal.returns
returns c =
    rw (
      c.refusal_status.ensures,
      c.as_str-2.ensures.value,
      c.as_str.ensures.value,
      c.in_ok-fields.ensures,
      c.in_ok-body.ensures,
    ) at c.response_with.ensures
