use Rattle.std.proofs.Common.{[], ◌∷◌, lit<, append_assoc}
use Rattle.opc_names.proofs.Resources.{joined_valid}
use Rattle.opc_names.proofs.resource.joined.Goals as goal

pub of-requires : goal.of-requires
of-requires c =
    let regroup = append_assoc c.args.prefix.now (46 ∷ []) c.args.after.now in
    let valid = rw (← regroup) at (joined_valid _ _ c.requires.prefix c.requires.after c.requires.room) in
    (lit< tt, rw (c.as_str.ensures.value, c.push_str-2.ensures.bytes, c.push.ensures.ascii (lit< tt), c.push_str.ensures.bytes, c.new-text.ensures) valid)
