use Rattle.std.proofs.Common.{◌∙◌, Global, List, Vec, ℕ, sym}
use Rattle.opc_names.specs.Names.{IsPattern}
use Rattle.opc_policy_deciders.proofs.BothSides.{joined_alike, joined_valid, same_alike, same_lists, same_valid}
use Rattle.opc_policy_deciders.proofs.pairs.joined_once.Goals as goal

pub returns-then-eq-clause-alike : goal.returns-then-eq-clause-alike
returns-then-eq-clause-alike c =
    same_alike (λ (v : Vec (List ℕ) Global). v.items) c.args.one.now c.args.other.now c.joined.result
    (same_lists c.args.one.now c.args.other.now (sym c.eq.ensures ∙ c.if-eq.true)) c.joined.ensures

pub returns-then-eq-clause-valid : goal.returns-then-eq-clause-valid
returns-then-eq-clause-valid c =
    same_valid (λ (v : Vec (List ℕ) Global). v.items) IsPattern c.args.one.now c.joined.result c.requires.one c.joined.ensures

pub returns-clause-alike : goal.returns-clause-alike
returns-clause-alike c =
    joined_alike (λ (v : Vec (List ℕ) Global). v.items) c.args.one.now c.args.other.now c.joined-2.result c.joined-2.ensures

pub returns-clause-valid : goal.returns-clause-valid
returns-clause-valid c =
    joined_valid (λ (v : Vec (List ℕ) Global). v.items) IsPattern c.args.one.now c.args.other.now c.joined-2.result c.requires.one c.requires.other
    c.joined-2.ensures
