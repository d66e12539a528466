use Rattle.std.proofs.Common.{arith, refl, ◌≤◌, length}
use Rattle.opc_names.proofs.Faults.{name_short}
use Rattle.opc_names.proofs.Resources.{name_valid}
use Rattle.opc_names.specs.Names.{console_rule}
use Rattle.opc_answers.proofs.logons.resource_of.Goals as goal

pub as_kind-requires : goal.as_kind-requires
as_kind-requires c = (
  omega arith,
  (
    omega arith,
    λ text h.
        let short : length text ≤ 8 = name_short console_rule text h in
        name_valid console_rule text refl h (omega (arith, short)),
  ),
)
