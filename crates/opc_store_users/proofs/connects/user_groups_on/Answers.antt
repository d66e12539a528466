use Rattle.std.proofs.Common.{◌∙◌, filter, take}
use Rattle.std.specs.Str.{bytes_eq}
use Rattle.std.proofs.lemmas.List.{take-map}
use Rattle.opc_store_sql.proofs.Asked.{never_writes}
use Rattle.opc_policy_members.specs.declared.connect.Connect.{Connect}
use Rattle.opc_store_users.proofs.ConnectLoads.{of_user_asked, of_user_returned}
use Rattle.opc_store_schema.proofs.Kept.{looks_for}
use Rattle.opc_store_users.proofs.connects.user_groups_on.Goals as goal

pub read-requires-clause-quiet : goal.read-requires-clause-quiet
read-requires-clause-quiet g c = never_writes of_user_asked

-- the query of `groups_of` with at most this many
pub returns-clause-found : goal.returns-clause-found
returns-clause-found g c clean s was =
    let user = c.args.user.now in
    let mine = filter (λ (d : Connect). bytes_eq d.user user) s.policy.connects in
    let shown = rw (c.params-to_sql.ensures, c.params-to_sql-2.ensures, c.text.ensures.text) at (c.in_ok-rows.ensures.shown clean) in
    rw (take-map (λ (d : Connect). d.group) c.args.most mine)
    (c.groups_in.ensures (take c.args.most mine)
    (c.as_slice.ensures.value ∙ of_user_returned _ _ s was user c.args.most _ shown))

pub returns-clause-looks : goal.returns-clause-looks
returns-clause-looks g c = looks_for g.S.Store _ c.groups_in.result _ _ c.in_ok-rows.ensures.looks
