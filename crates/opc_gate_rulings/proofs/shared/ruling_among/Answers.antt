use Rattle.std.proofs.Common.{◌≡◌, ◌∙◌, sym}
use Rattle.opc_policy_members.specs.declared.profile.Profile.{Profile}
use Rattle.opc_gate_rulings.proofs.Together.{one_among}
use Rattle.opc_gate_rulings.specs.Held.{held_in}
use Rattle.opc_gate_rulings.proofs.shared.ruling_among.Goals as goal

pub returns-clause-ruling : goal.returns-clause-ruling
returns-clause-ruling g c sure s was beginning rest loaded is known =
    let p : Profile = c.at-profile.result.now in
    let here = c.at-profile.ensures in
    let held : c.in_ok-held.held ≡ held_in s.policy p c.args.user.now c.args.console.now =
    c.in_ok-held.ensures.level sure s was p known here in
    rw (c.ruling_at.ensures.ruling, held)
    (one_among s beginning rest c.args.need.now.resource c.args.candidates.now loaded is c.args.user.now c.args.console.now
    c.args.need.now.level p (sym here ∙ c.in-Some.ensures.1))
