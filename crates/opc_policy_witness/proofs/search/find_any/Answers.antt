use Rattle.std.proofs.Common.{◌≡◌, ◌∙◌, ap, map, true, Ok, Option, Bor, List, ℕ}
use Rattle.opc_policy_witness.proofs.Products.{among_one}
use Rattle.opc_policy_witness.proofs.search.find_any.Goals as goal

pub returns-then-branch-clause-found : goal.returns-then-branch-clause-found
returns-then-branch-clause-found c = λ e.
    let was : c.find.result ≡ Ok true = c.in_ok-find.was ∙ ap Ok c.if-branch.true in
    among_one c.args.places.now c.args.include.now c.as_slice.result.now _ _ c.loop-mask.mask-index c.mask-item.result c.find.new.name
    c.loop-mask-test.true c.mask-item.is c.as_slice.ensures.value
    (ap (map (λ (mask : Bor (List (Option ℕ))). mask.now)) c.as_slice-in-loop-mask.ensures.value ∙ c.in_ok-exclude.ensures)
    (c.find.ensures.found was)
