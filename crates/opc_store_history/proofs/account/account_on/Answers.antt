use Rattle.std.proofs.Common.{◌∙◌, ℕ, map, ap}
use Rattle.opc_state.specs.declared.account.AccountRow.{AccountRow}
use Rattle.opc_store_history.proofs.AccountLoads.{page_members}
use Rattle.opc_store_history.proofs.account.account_on.Goals as goal

pub returns-clause-found : goal.returns-clause-found
returns-clause-found g c clean s was =
    c.in_ok-rows.ensures ∙ (ap (map (λ (p : ℕ × AccountRow). p.1)) (c.in_ok-page.ensures.found clean s was) ∙ page_members c.args.from c.args.count s.account)
