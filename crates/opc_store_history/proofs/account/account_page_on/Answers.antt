use Rattle.std.proofs.Common.{◌≡◌, ◌∙◌, ◌-◌, ◌^◌, pos, min, map, take, ap, arith, rules, to_z, of_z, w64}
use Rattle.std.proofs.Math.Facts.{to_z-of_z}
use Rattle.opc_state.specs.Loads.{asked_for, numbered}
use Rattle.opc_store_history.specs.Loads.{numbered_shown}
use Rattle.opc_store_sql.proofs.Asked.{never_writes}
use Rattle.opc_store_history.proofs.AccountLoads.{account_asked, account_params, account_returned, numbered_long, within_table}
use Rattle.opc_store_history.proofs.account.account_page_on.Goals as goal

pub read-requires-clause-quiet : goal.read-requires-clause-quiet
read-requires-clause-quiet g c = never_writes account_asked

pub returns-clause-found : goal.returns-clause-found
returns-clause-found g c clean s was =
    let short = was.ordered.numbered.0 in
    let last = min (c.args.from - 1) (2 ^ 63 - 1) in
    let asked = rw (c.params-to_sql.ensures, c.params-to_sql-2.ensures) at (c.in_ok-rows.ensures.shown clean) in
    let same : c.last_before-last.result ≡ pos last = c.last_before-last.ensures in
    let given : to_z w64 (of_z w64 c.last_before-last.result) ≡ pos last = search (rules, to_z-of_z, same) in
    let shown = account_params _ _ _ last c.args.count _ given asked in
    let are = account_returned _ _ s was last c.args.count _ shown in
    let long = numbered_long 1 s.account in
    let page = ap (λ l. map numbered_shown (take c.args.count l))
    (within_table (c.args.from - 1) (2 ^ 63 - 1) (numbered s.account) (omega (arith, short, long))) in
    c.page_in.ensures (asked_for c.args.from c.args.count s.account) (c.as_slice.ensures.value ∙ (are ∙ page))
