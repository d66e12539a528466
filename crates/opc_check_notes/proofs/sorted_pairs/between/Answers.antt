use Rattle.std.proofs.Common.{◌<◌, ap, arith, true, false, sym, ◌∙◌}
use Rattle.std.specs.Ordering.{is_lt}
use Rattle.std.proofs.lemmas.Bool.Decides.{nat_tests}
use Rattle.opc_check_notes.proofs.Listing.{all_below, found_from_to, none_from_to, read_last, starts_below}
use Rattle.opc_check_notes.proofs.sorted_pairs.between.Goals as goal

pub returns-then-end-eq0 : goal.returns-then-end-eq0
returns-then-end-eq0 g c =
    none_from_to g.K.Ord.cmp c.args.from.now c.args.to.now c.args.pairs.now c.start_of-end.result c.start_of-end.ensures.parts
    (λ k d here. absurd (grind (arith, nat_tests, here, c.if-end-eq0.true)))

pub returns-then-is_lt : goal.returns-then-is_lt
returns-then-is_lt g c =
    let some : 0 < c.start_of-end.result = grind (arith, nat_tests, c.if-end-eq0.false) in
    none_from_to g.K.Ord.cmp c.args.from.now c.args.to.now c.args.pairs.now c.start_of-end.result c.start_of-end.ensures.parts
    (all_below g.met.K.Ord.total c.args.from.now c.args.pairs.now c.start_of-end.result c.index-pairs-end.result c.requires some
    c.start_of-end.ensures.within c.index-pairs-end.is (read_last g.K.Ord.cmp c.args.from.now c.args.pairs.now c.start_of-end.result
    c.index-pairs-end.result true c.index-pairs-end.is (ap is_lt (sym c.cmp.ensures) ∙ sym c.is_lt.ensures ∙ c.if-is_lt.true)))

pub returns : goal.returns
returns g c =
    let some : 0 < c.start_of-end.result = grind (arith, nat_tests, c.if-end-eq0.false) in
    found_from_to g.K.Ord.cmp c.args.from.now c.args.to.now c.args.pairs.now c.start_of-start.result c.start_of-end.result
    c.start_of-start.ensures.within c.start_of-end.ensures.within c.start_of-start.ensures.parts c.start_of-end.ensures.parts
    (starts_below g.K.Ord.cmp c.args.from.now c.args.pairs.now c.start_of-start.result c.start_of-end.result c.index-pairs-end.result
    c.start_of-start.ensures.parts some c.index-pairs-end.is (read_last g.K.Ord.cmp c.args.from.now c.args.pairs.now c.start_of-end.result
    c.index-pairs-end.result false c.index-pairs-end.is (ap is_lt (sym c.cmp.ensures) ∙ sym c.is_lt.ensures ∙ c.if-is_lt.false)))
