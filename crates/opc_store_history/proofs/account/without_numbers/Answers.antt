use Rattle.std.proofs.Common.{◌≡◌, ◌∙◌, ℕ, List, map, take, length, sym, ap, arith, rules}
use Rattle.std.proofs.lemmas.Iterator.Adapters.{YieldsList-from_vec}
use Rattle.std.proofs.lemmas.Iterator.Consumers.{YieldsList-turn, YieldsList-end}
use Rattle.std.proofs.lemmas.List.{length-map, map-id, take_all, length_push}
use Rattle.opc_store_sql.proofs.Decoded.{more_returned}
use Rattle.opc_state.specs.declared.account.AccountRow.{AccountRow}
use Rattle.opc_store_history.proofs.account.without_numbers.Goals as goal

abbrev rows_of : List (ℕ × AccountRow) → List AccountRow
rows_of page = map (λ (p : ℕ × AccountRow). p.1) page

pub loop-numbered-init : goal.loop-numbered-init
loop-numbered-init c = c.new-rows.ensures ∙ search rules

pub loop-numbered-preserved : goal.loop-numbered-preserved
loop-numbered-preserved c =
    let xs = c.args.page.items in
    let gives = c.into_iter-numbered-iterator.ensures.into_iter_gives in
    let long : c.into_iter-numbered-iterator.result.rest.len ≡ length xs = search rules in
    let t = YieldsList-turn (YieldsList-from_vec xs gives.0 long) c.loop-numbered.yielded
    c.loop-numbered.numbered-iterator c.loop-numbered.yielded_by c.next.result c.next.new.self c.in-Some.numbered
    c.in-Some.is c.next.ensures.steps in
    let y = c.in-Some.numbered in
    c.in_ok-push.ensures.ok
    ∙ (more_returned (λ x. x) (λ (p : ℕ × AccountRow). p.1) xs xs c.loop-numbered.rows (length c.loop-numbered.yielded) y
    y.1 (sym (map-id xs)) t.0 t.1 (λ x e. ap (λ (p : ℕ × AccountRow). p.1) e) c.loop-numbered.invariant
    ∙ ap (λ k. take k (rows_of xs)) (sym (length_push c.loop-numbered.yielded y)))

pub returns : goal.returns
returns c =
    let xs = c.args.page.items in
    let gives = c.into_iter-numbered-iterator.ensures.into_iter_gives in
    let long : c.into_iter-numbered-iterator.result.rest.len ≡ length xs = search rules in
    let t = YieldsList-end (YieldsList-from_vec xs gives.0 long) c.loop-numbered.yielded
    c.loop-numbered.numbered-iterator c.loop-numbered.yielded_by c.next.result c.next.new.self c.in-None.is
    c.next.ensures.steps in
    let many = length-map xs (λ (p : ℕ × AccountRow). p.1) in
    c.loop-numbered.invariant ∙ take_all (length c.loop-numbered.yielded) (rows_of xs) (omega (arith, t.1, many))
