use Rattle.std.proofs.Common.{sym, ◌∙◌}
use Rattle.std.specs.BTreeMap.{get}
use Rattle.opc_policy_members.specs.Members.{name_cmp}
use Rattle.opc_check_notes.proofs.Steps.{put_first, stays}
use Rattle.opc_check_notes.proofs.digests.keep.Goals as goal

pub returns-then-contains_key : goal.returns-then-contains_key
returns-then-contains_key c =
    stays c.args.digest c.args.user (get name_cmp c.args.digests.now) (sym c.contains_key.ensures ∙ c.if-contains_key.true)

pub returns : goal.returns
returns c = put_first c.args.digest c.args.user (get name_cmp c.args.digests.now) (get name_cmp c.insert.new.self)
    (sym c.contains_key.ensures ∙ c.if-contains_key.false) c.in_ok-insert.ensures.updates.0
