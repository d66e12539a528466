use Rattle.opc_http_log.proofs.laws.digests_are_not_shown.Goals as goal

pub returns : goal.returns
returns c = record {
  added = λ console id special auditor restricted one other entry line is. record {
    text = is.text;
    has = record { time = is.has.time; policy = is.has.policy; at = is.has.at; kept = is.has.kept; is = is.has.is };
    is = is.is;
  };
  altered = λ console id special auditor revoked restricted one other entry line is. record {
    text = is.text;
    has = record { time = is.has.time; policy = is.has.policy; at = is.has.at; kept = is.has.kept; is = is.has.is };
    is = is.is;
  };
  imported = λ console batch one other entry line is. record {
    text = is.text;
    has = record { time = is.has.time; policy = is.has.policy; at = is.has.at; kept = is.has.kept; is = is.has.is };
    is = is.is;
  };
}
