use Rattle.std.proofs.Common.{◌≡◌, ◌∙◌, ap}
use Rattle.opc_policy_members.proofs.UsersById.{values-with_user, AreById-insert}
use Rattle.opc_policy_members.specs.Members.{with_user}
use Rattle.opc_policy_members.proofs.users.Users.insert.Goals as goal

pub invariant_of-self-2 : goal.invariant_of-self-2
invariant_of-self-2 c =
    let id : c.copied-id.result ≡ c.args.user.id = c.copied-id.ensures ∙ c.as_bytes.ensures.value ∙ c.text.ensures.text in
    rw (c.in_ok-insert.ensures.entries, id) (AreById-insert c.args.user c.self.inside.by_id.entries c.self.invariant)

pub returns-clause-ok : goal.returns-clause-ok
returns-clause-ok c =
    let id : c.copied-id.result ≡ c.args.user.id = c.copied-id.ensures ∙ c.as_bytes.ensures.value ∙ c.text.ensures.text in
    rw (c.in_ok-insert.ensures.entries, id) (values-with_user c.args.user c.self.inside.by_id.entries c.self.invariant)
    ∙ ap (with_user c.args.user) c.self.view_is
