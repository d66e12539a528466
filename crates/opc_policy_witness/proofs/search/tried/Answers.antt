use Rattle.std.proofs.Common.{◌∙◌, ◌+◌, ◌∷◌, arith, length, map, sym}
use Rattle.opc_policy_witness.proofs.Between.{none_between}
use Rattle.opc_policy_witness.proofs.search.tried.Goals as goal

pub returns-then-one_takes_all : goal.returns-then-one_takes_all
returns-then-one_takes_all c = λ places first s h.
    let masks = map (λ mask. mask.now) c.args.exclude.now in
    let none = none_between (c.args.place ∷ places) (c.args.asked ∷ c.args.include.now) masks (first ∷ s)
    (length c.args.include.now + 1) (omega arith) (sym c.one_takes_all.ensures ∙ c.if-one_takes_all.true) in
    absurd (cc (sym h ∙ none))

pub returns : goal.returns
returns c = λ places first s h. c.candidates.ensures places c.args.include.now first s h
