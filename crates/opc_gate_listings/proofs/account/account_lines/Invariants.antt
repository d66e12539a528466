use Rattle.std.proofs.Common.{◌≡◌, map, take}
use Rattle.opc_machine.specs.Listings.{account_line}
use Rattle.opc_gate_listings.proofs.account.account_lines.Given as goal

abbrev pub invariant-loop-number : goal.invariant-loop-number
invariant-loop-number l = l.lines ≡ map account_line (take l.number-index l.rows)
