use Rattle.std.proofs.Common.{◌≤◌, length, arith}
use Rattle.opc_names.proofs.Faults.{name_short}
use Rattle.opc_names.proofs.name.Name.of.Goals as goal

pub copied-requires : goal.copied-requires
copied-requires g c =
    let short = name_short _ c.args.text.now c.requires in
    let fits : length c.args.text.now ≤ g.row.N = omega (arith, g.met.K.NameKind.short) in
    (omega (arith, g.met.K.NameKind.small), rw c.as_bytes.ensures.value fits)
