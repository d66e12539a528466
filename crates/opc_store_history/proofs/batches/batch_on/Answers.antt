use Rattle.std.proofs.Common.{◌∙◌, ◌==◌, ap, refl}
use Rattle.std.proofs.lemmas.Option.{slice_get_read, slice_get_past}
use Rattle.sqlite.specs.Order.{Row, column}
use Rattle.opc_store_sql.proofs.Asked.{never_writes}
use Rattle.opc_store_sql.proofs.Decoded.{first_returned, none_returned}
use Rattle.opc_import.specs.Lines.{policy_text}
use Rattle.opc_store_history.proofs.BatchLoads.{batch_asked, batch_shown, batch_returned}
use Rattle.opc_store_history.proofs.batches.batch_on.Goals as goal

pub read-requires-clause-quiet : goal.read-requires-clause-quiet
read-requires-clause-quiet g c = never_writes batch_asked

pub returns-in-Some-clause-found : goal.returns-in-Some-clause-found
returns-in-Some-clause-found g c clean s was =
    let number = c.args.number in
    let shown = rw c.params-to_sql.ensures at (c.in_ok-rows.ensures.shown clean) in
    let are = batch_returned _ _ s was number _ shown in
    first_returned batch_shown (λ b. b.number == number) (λ b. policy_text b.rows) s.batches c.as_slice.result.now
    c.in-Some.row.now c.in_ok-text_in-in-Some.field-0 (c.as_slice.ensures.value ∙ are)
    (let h = c.in-Some.ensures.lookup in slice_get_read c.as_slice.result.now _ 0 c.in-Some.row.now refl h.3.0 h.1)
    (λ b is. c.in_ok-text_in-in-Some.ensures (policy_text b.rows) (ap (λ (r : Row). column r 0) is))

pub returns-clause-found : goal.returns-clause-found
returns-clause-found g c clean s was =
    let number = c.args.number in
    let shown = rw c.params-to_sql.ensures at (c.in_ok-rows.ensures.shown clean) in
    let are = batch_returned _ _ s was number _ shown in
    none_returned batch_shown (λ b. b.number == number) (λ b. policy_text b.rows) s.batches c.as_slice.result.now
    (c.as_slice.ensures.value ∙ are) (slice_get_past c.as_slice.result.now 0 c.in-None.ensures.lookup.3)
