use Rattle.std.proofs.Common.{◌≡◌, ◌∙◌, ap}
use Rattle.opc_policy_members.proofs.UsersById.{lookup-user}
use Rattle.opc_policy_members.specs.Members.{user_of}
use Rattle.opc_policy_members.proofs.users.Users.get.Goals as goal

pub returns : goal.returns
returns c =
    let id : c.copied.result ≡ c.args.id.now = c.copied.ensures ∙ c.as_bytes.ensures.value ∙ c.text.ensures.text in
    c.get.ensures.value ∙ rw id (lookup-user c.args.id.now c.self.inside.by_id.entries c.self.invariant)
    ∙ ap (λ users. user_of users c.args.id.now) c.self.view_is
