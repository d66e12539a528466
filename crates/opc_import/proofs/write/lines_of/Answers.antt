use Rattle.std.proofs.Common.{◌≡◌, Result, Ok, Err, OnOk, arith, sym, take}
use Rattle.std.proofs.lemmas.List.{take_all}
use Rattle.opc_import.proofs.RoundTrip.{all-more, line-added}
use Rattle.opc_import.proofs.write.lines_of.Goals as goal

pub loop-row-preserved : goal.loop-row-preserved
loop-row-preserved c = (
  c.in_ok-put_line-2.ensures.fresh,
  line-added _ _ _ _ _ _ (omega arith) (sym c.row-item.is) c.in_ok-fill.ensures.fields c.in_ok-put_line-2.ensures.bytes c.loop-row.invariant.1,
  all-more _ _ _ (omega arith) (sym c.row-item.is) c.loop-row.invariant.2 c.in_ok-fill.ensures.valid,
)

on_ok : {X E P : Type 0} (r : Result X E) → P → OnOk r P
on_ok (Ok x) p = p
on_ok (Err e) p = tt

pub returns-clause-valid : goal.returns-clause-valid
returns-clause-valid c =
    let whole : take c.loop-row.row-index c.args.rows.now ≡ c.args.rows.now = take_all c.loop-row.row-index c.args.rows.now (omega arith) in
    on_ok c.map_err.result (rw whole at c.loop-row.invariant.2)
