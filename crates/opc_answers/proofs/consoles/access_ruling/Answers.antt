use Rattle.std.proofs.Common.{Some, ap, ◌∙◌}
use Rattle.std.specs.Option.{option_copied}
use Rattle.opc_answers.proofs.Ruled.{access_by}
use Rattle.opc_answers.specs.Made.{state_of}
use Rattle.opc_answers.specs.Who.{by_decider}
use Rattle.opc_answers.proofs.consoles.access_ruling.Goals as goal

pub returns-in_ok-groups-in-Some : goal.returns-in_ok-groups-in-Some
returns-in_ok-groups-in-Some c =
    let decided = option_copied c.args.decided in
    let user = c.in-Some.user.now in
    let console = c.args.console.now in
    let need = c.args.need.now in
    rw c.in-Some.is (c.by_decider.ensures
    ∙ ap (λ groups. by_decider decided user (Some console.name) groups console.auth need)
    (c.deref.ensures.value ∙ c.in_ok-groups-in-Some.ensures)
    ∙ access_by (state_of c.args.policy.now c.args.board.now) console user need decided c.requires)
