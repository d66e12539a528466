use Rattle.std.proofs.Common.{◌≡◌, ◌∙◌, ap, is_some}
use Rattle.opc_policy_members.proofs.UsersById.{lookup-user}
use Rattle.opc_policy_members.specs.Members.{user_of}
use Rattle.opc_policy_members.proofs.users.Users.contains.Goals as goal

pub returns : goal.returns
returns c =
    let name : c.copied.result ≡ c.args.name.now = c.copied.ensures ∙ c.as_bytes.ensures.value in
    c.contains_key.ensures
    ∙ rw name (ap is_some (lookup-user c.args.name.now c.self.inside.by_id.entries c.self.invariant))
    ∙ ap (λ users. is_some (user_of users c.args.name.now)) c.self.view_is
