use Rattle.std.proofs.Common.{refl}
use Rattle.opc_gate_footprints.proofs.Growing.{nothing_is}
use Rattle.opc_gate_footprints.proofs.footprint.nothing.Goals as goal

pub returns-clause-part : goal.returns-clause-part
returns-clause-part c = λ s same. nothing_is s _
    (rw (
      c.new.ensures,
      c.new-2.ensures,
      c.new-3.ensures,
      c.new-4.ensures,
      c.new-5.ensures,
      c.new-6.ensures,
      c.new-7.ensures,
      same,
    ) refl)
