use Rattle.std.proofs.Common.{refl}
use Rattle.std.specs.Prelude.{codes}
use Rattle.opc_gate_rulings.proofs.shared.beginning_of.Goals as goal

pub returns-in-Unit-clause-bounds : goal.returns-in-Unit-clause-bounds
returns-in-Unit-clause-bounds c = (codes "MVS.DISPLAY.JOB", refl, refl)

pub returns-in-Console-clause-bounds : goal.returns-in-Console-clause-bounds
returns-in-Console-clause-bounds c = (codes "MVS.DISPLAY.CN", refl, refl)
