use Rattle.std.proofs.Common.{arith, map}
use Rattle.opc_policy_witness.specs.declared.search.TheConstants.{CHARACTERS}
use Rattle.opc_policy_witness.proofs.Between.{enough_all, enough_found, one_taken}
use Rattle.opc_policy_witness.proofs.search.candidates.Goals as goal

pub returns-in-Some : goal.returns-in-Some
returns-in-Some c =
    let found = enough_found CHARACTERS.now c.args.place c.args.asked (map (λ mask. mask.now) c.args.exclude.now)
    c.in-Some.at c.in-Some.ensures in
    let one = one_taken CHARACTERS.now c.in-Some.at found.0 in
    λ places include first s h. (0, rw one (omega arith), rw one (found.1 places include first s h))

pub returns-in-None : goal.returns-in-None
returns-in-None c =
    λ places include first s h. enough_all c.args.place places c.args.asked include (map (λ mask. mask.now) c.args.exclude.now) first s h
