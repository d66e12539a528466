use Rattle.std.proofs.Common.{◌≡◌, ◌∙◌, rules, subst, sym}
use Rattle.opc_embedded.specs.Kept.{IsMadeBy}
use Rattle.opc_embedded.proofs.kept.KeptPolicyText.ask.Goals as goal

pub reply-requires : goal.reply-requires
reply-requires c room is =
    let same : c.as_slice.result.now ≡ c.self.inside.text.items = search rules in
    subst (λ text. IsMadeBy text room) (sym same) (c.self.invariant room is)

pub invariant_of-self : goal.invariant_of-self
invariant_of-self c room is = c.self.invariant room (sym c.reply.ensures.same ∙ is)
