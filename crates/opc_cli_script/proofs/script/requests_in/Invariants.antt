use Rattle.std.proofs.Common.{◌≡◌, map}
use Rattle.std.specs.Str.Lines.{lines}
use Rattle.opc_cli_script.proofs.Lines.{AreRead}
use Rattle.opc_cli_script.proofs.script.requests_in.Given as goal

abbrev pub invariant-loop-at : goal.invariant-loop-at
invariant-loop-at l = (map (λ x. x.now) l.line-items ≡ lines l.fn.script) × AreRead (lines l.fn.script) l.at l.requests.items
