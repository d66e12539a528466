use Rattle.std.proofs.Common.{arith, is_some, rules}
use Rattle.std.specs.BTreeMap.{get}
use Rattle.opc_check_notes.specs.Effect.{key_of}
use Rattle.opc_check_notes.specs.contracts.effect.RowKeyOrd.TheImpl.{ghosts}
use Rattle.opc_check_notes.proofs.Keys.{seen_so}
use Rattle.opc_check_notes.proofs.Rising.{effect_in_order, level_step, list_step, rows_step, seen_more}
use Rattle.opc_check_notes.proofs.effect.rows_in_effect.Goals as goal

pub loop-at-preserved : goal.loop-at-preserved
loop-at-preserved c =
    let rows = c.args.rows.now in
    let at = c.loop-at.at in
    let row = c.index-rows-at.result in
    let old = get ghosts.cmp c.loop-at.map in
    record {
      within = omega arith;
      seen = λ q. seen_more rows at row q _ _ (omega arith) (omega arith) c.index-rows-at.is (c.loop-at.invariant.seen q)
          (seen_so (key_of row) q _ old _ (c.in_ok-keep.ensures.map q));
      rows = λ q. rows_step c.loop-at.list.items _ (record { number = at; row = row }) (is_some (old (key_of row))) q (old q) _
          c.in_ok-keep.ensures.list (c.loop-at.invariant.rows q) (c.in_ok-keep.ensures.map q);
      levels = λ q. level_step c.loop-at.list.items _ (record { number = at; row = row }) q old _
          c.in_ok-keep.ensures.list (c.loop-at.invariant.levels q) (c.in_ok-keep.ensures.map q);
      list = list_step rows at row row _ _ _ (omega arith) (omega arith) c.index-rows-at.is
          (c.loop-at.invariant.seen (key_of row)) c.loop-at.invariant.list c.in_ok-keep.ensures.list;
    }

pub returns-clause-order : goal.returns-clause-order
returns-clause-order c = effect_in_order _ c.args.rows.now (search rules)
