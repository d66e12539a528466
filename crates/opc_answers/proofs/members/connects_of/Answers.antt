use Rattle.opc_answers.proofs.Grouped.{in_turn, side_by_side}
use Rattle.opc_answers.proofs.members.connects_of.Goals as goal

pub slice_bounds-result-count : goal.slice_bounds-result-count
slice_bounds-result-count c =
    in_turn c.args.user.now c.args.connects.now _ _ c.first_of.ensures.bound c.first_of.ensures.split c.after_of.ensures.split

pub slice_bounds-result-start : goal.slice_bounds-result-start
slice_bounds-result-start c =
    in_turn c.args.user.now c.args.connects.now _ _ c.first_of.ensures.bound c.first_of.ensures.split c.after_of.ensures.split

pub returns : goal.returns
returns c =
    side_by_side c.args.user.now c.args.connects.now _ _
    (in_turn c.args.user.now c.args.connects.now _ _ c.first_of.ensures.bound c.first_of.ensures.split c.after_of.ensures.split)
    c.after_of.ensures.bound c.first_of.ensures.split c.after_of.ensures.split
