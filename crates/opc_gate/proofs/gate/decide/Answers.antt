use Rattle.std.proofs.Common.{◌≡◌, [], Some}
use Rattle.opc_gate.proofs.Handled.{nothing_changed}
use Rattle.opc_gate.proofs.gate.decide.Goals as goal

pub returns-after-is_warned-clause-idle : goal.returns-after-is_warned-clause-idle
returns-after-is_warned-clause-idle c = λ s is same.
    let effect = rw c.in-Done.is at is in
    nothing_changed c.in-Done.effect.edits.items c.if-is_warned.account s effect.idle same

pub returns-in_ok-account_row-in-Refused-clause-idle : goal.returns-in_ok-account_row-in-Refused-clause-idle
returns-in_ok-account_row-in-Refused-clause-idle c = λ s is same.
    let none : c.new.result.items ≡ [] = cc in
    nothing_changed c.new.result.items (Some c.in_ok-account_row-in-Refused.field-0) s (λ stays. none) same
