use Rattle.std.proofs.Common.{◌≡◌, rules, subst}
use Rattle.opc_embedded.specs.Kept.{IsMadeBy}
use Rattle.opc_embedded.proofs.Rooms.{made_of}
use Rattle.opc_embedded.proofs.room.room_of.Goals as goal

pub returns-in-Ok-of_rows : goal.returns-in-Ok-of_rows
returns-in-Ok-of_rows c room is =
    let same : c.in-Ok-of_rows.room ≡ room = (cc) in
    subst (λ room. IsMadeBy c.args.policy.now room) same
    (made_of c.args.policy.now c.in-Ok.file.bytes.items c.in-Ok.file.rows.items c.in-Ok-of_rows.room
    (search rules) (search rules) c.in-Ok-of_rows.ensures.members)
