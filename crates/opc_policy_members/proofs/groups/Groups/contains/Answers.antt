use Rattle.std.proofs.Common.{◌≡◌, sym, ◌∙◌}
use Rattle.std.specs.Cmp.Lexicographic.{texts_ties}
use Rattle.std.specs.List.{list_any}
use Rattle.opc_policy_members.proofs.groups.Groups.contains.Goals as goal

pub returns : goal.returns
returns c =
    let name : c.copied.result ≡ c.args.name.now = c.copied.ensures ∙ c.as_bytes.ensures.value in
    c.contains.ensures ∙ rw (c.self.view_is, name) (λ i. list_any (λ k. sym (texts_ties c.args.name.now k) i) c.args.self.now)
