use Rattle.std.proofs.Common.{◌≡◌, ◌∙◌, take, length, sym, ap, arith, rules}
use Rattle.std.proofs.lemmas.Iterator.Adapters.{YieldsList-from_vec}
use Rattle.std.proofs.lemmas.Iterator.Consumers.{YieldsList-turn, YieldsList-end}
use Rattle.std.proofs.lemmas.List.{map-id, take_all, length_push}
use Rattle.opc_store_sql.proofs.Decoded.{more_taken}
use Rattle.opc_store_history.proofs.batches.kept.Goals as goal

pub loop-row-init : goal.loop-row-init
loop-row-init g c = c.new-rows.ensures

pub loop-row-preserved : goal.loop-row-preserved
loop-row-preserved g c =
    let xs = c.args.list.items in
    let gives = c.into_iter-row-iterator.ensures.into_iter_gives in
    let long : c.into_iter-row-iterator.result.rest.len ≡ length xs = search rules in
    let t = YieldsList-turn (YieldsList-from_vec xs gives.0 long) c.loop-row.yielded c.loop-row.row-iterator
    c.loop-row.yielded_by c.next.result c.next.new.self c.in-Some.row c.in-Some.is c.next.ensures.steps in
    c.in_ok-push.ensures.ok
    ∙ (more_taken (λ x. x) xs xs c.loop-row.rows (length c.loop-row.yielded) c.in-Some.row c.in-Some.row
    (sym (map-id xs)) t.0 t.1 (λ x e. e) c.loop-row.invariant
    ∙ ap (λ k. take k xs) (sym (length_push c.loop-row.yielded c.in-Some.row)))

pub returns : goal.returns
returns g c =
    let xs = c.args.list.items in
    let gives = c.into_iter-row-iterator.ensures.into_iter_gives in
    let long : c.into_iter-row-iterator.result.rest.len ≡ length xs = search rules in
    let t = YieldsList-end (YieldsList-from_vec xs gives.0 long) c.loop-row.yielded c.loop-row.row-iterator
    c.loop-row.yielded_by c.next.result c.next.new.self c.in-None.is c.next.ensures.steps in
    c.loop-row.invariant ∙ take_all (length c.loop-row.yielded) xs (omega (arith, t.1))
