use Rattle.std.proofs.Common.{◌++◌}
use Rattle.opc_http_log.proofs.Lines.{all_printable}
use Rattle.opc_http_log.proofs.laws.exchanges_are_one_line.Goals as goal

pub returns : goal.returns
returns c = λ entry line is. record { text = _; is = is.is; printable = all_printable is.text }
