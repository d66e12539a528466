use Rattle.std.proofs.lemmas.List.{take_rest}
use Rattle.opc_policy_witness.proofs.Spreading.{on_ok}
use Rattle.opc_policy_deciders.specs.Between.{IsBetween}
use Rattle.opc_policy_deciders.proofs.Listing.{adds_at_end, adds_more}
use Rattle.opc_policy_deciders.proofs.decided.+push_between.Goals as goal

pub returns-in_default : goal.returns-in_default
returns-in_default t c =
    adds_at_end (IsBetween c.args.include.now c.args.exclude.now) c.args.forms.now c.args.list.now.items c.in_default.len_below

pub returns : goal.returns
returns t c =
    on_ok c.push_between.result _ _ c.push_between.ensures (λ e.
    adds_more (IsBetween c.args.include.now c.args.exclude.now) c.args.forms.now _ c.in_ok-found.found c.args.list.now.items
    c.push.new.self.items c.push_between.new.list.items c.in-len1-up.len_at_least c.in_ok-push.ensures.items c.in_ok-found.ensures
    (rw take_rest at e))
