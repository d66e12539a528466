use Rattle.opc_policy_deciders.specs.Between.{IsBetween}
use Rattle.opc_policy_deciders.specs.Forms.{forms}
use Rattle.opc_policy_deciders.proofs.Listing.{all_added}
use Rattle.opc_policy_deciders.proofs.decided.between_all.Goals as goal

pub returns : goal.returns
returns c =
    all_added (IsBetween c.args.include.now c.args.exclude.now) forms c.new-list.result.items c.push_between.new.list.items c.new-list.ensures.items
    c.in_ok-push_between.ensures
