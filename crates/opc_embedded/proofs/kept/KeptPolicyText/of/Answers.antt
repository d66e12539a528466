use Rattle.std.proofs.Common.{◌≡◌, rules, subst, sym}
use Rattle.opc_embedded.specs.Kept.{IsMadeBy}
use Rattle.opc_embedded.proofs.kept.KeptPolicyText.of.Goals as goal

pub invariant_of-result : goal.invariant_of-result
invariant_of-result c room is =
    let same : c.extend_from_slice.new.self.items ≡ c.args.policy.now = search rules in
    subst (λ text. IsMadeBy text room) (sym same) (c.room_of.ensures room is)
