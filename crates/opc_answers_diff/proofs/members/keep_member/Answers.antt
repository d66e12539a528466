use Rattle.std.specs.BTreeMap.{get}
use Rattle.opc_policy_members.specs.Members.{name_cmp}
use Rattle.opc_answers_diff.proofs.ById.{kept_already, kept_new}
use Rattle.opc_answers_diff.proofs.members.keep_member.Goals as goal

pub returns-then-contains_key : goal.returns-then-contains_key
returns-then-contains_key c = λ id.
    kept_already (get name_cmp c.args.by_id.now) c.args.member.now id c.contains_key.result c.contains_key.ensures c.if-contains_key.true

pub returns : goal.returns
returns c = λ id.
    kept_new (get name_cmp c.args.by_id.now) (get name_cmp c.insert.new.self id) c.args.member.now c.in_ok-copy.copy id c.contains_key.result
    c.contains_key.ensures c.if-contains_key.false c.in_ok-copy.ensures (c.in_ok-insert.ensures.updates.0 id)
