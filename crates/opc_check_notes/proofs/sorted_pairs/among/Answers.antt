use Rattle.opc_check_notes.proofs.Listing.{found_at, in_turn}
use Rattle.opc_check_notes.proofs.sorted_pairs.among.Goals as goal

pub slice_bounds-result-start : goal.slice_bounds-result-start
slice_bounds-result-start g c =
    in_turn g.K.Ord.cmp c.args.key.now c.args.pairs.now c.start_of-start.result c.end_of-end.result c.start_of-start.ensures.within
    c.end_of-end.ensures.within c.start_of-start.ensures.parts c.end_of-end.ensures.parts

pub slice_bounds-result-count : goal.slice_bounds-result-count
slice_bounds-result-count g c =
    in_turn g.K.Ord.cmp c.args.key.now c.args.pairs.now c.start_of-start.result c.end_of-end.result c.start_of-start.ensures.within
    c.end_of-end.ensures.within c.start_of-start.ensures.parts c.end_of-end.ensures.parts

pub returns : goal.returns
returns g c =
    found_at g.K.Ord.cmp c.args.key.now c.args.pairs.now c.start_of-start.result c.end_of-end.result c.start_of-start.ensures.within
    c.end_of-end.ensures.within c.start_of-start.ensures.parts c.end_of-end.ensures.parts
