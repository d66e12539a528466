use Rattle.std.proofs.Common.{[], ◌∷◌, take, sym, subst, arith}
use Rattle.std.specs.List.{AllByRecursion}
use Rattle.std.proofs.lemmas.List.{take_all}
use Rattle.sqlite_keyed.proofs.ListLemmas.{all-append}
use Rattle.opc_store_schema.proofs.EditsInOrder.{one_more}
use Rattle.opc_store_profiles.specs.Keys.{IsKeyed}
use Rattle.opc_store_profiles.proofs.profiles.see_each.Goals as goal

pub loop-row-preserved : goal.loop-row-preserved
loop-row-preserved c =
    subst (AllByRecursion IsKeyed) (sym (one_more c.args.rows.now c.loop-row.row-index c.row-item.result (omega arith) c.row-item.is))
    (all-append IsKeyed (take c.loop-row.row-index c.args.rows.now) (c.row-item.result ∷ []) c.loop-row.invariant
    (c.in_ok-_profile.ensures.keys, tt))

pub returns : goal.returns
returns c = subst (AllByRecursion IsKeyed) (take_all c.loop-row.row-index c.args.rows.now (omega arith)) c.loop-row.invariant
