use Rattle.std.proofs.Common.{◌∙◌, suc, List, [], ◌∷◌, ◌++◌, take, drop, sym, ap₂, subst}
use Rattle.std.specs.List.{AllByRecursion}
use Rattle.std.specs.BTreeSet.{replace_key}
use Rattle.opc_store_sql.proofs.Putting.{next, comes_last}
use Rattle.opc_policy_members.specs.declared.entry.Entry.{Entry}
use Rattle.opc_policy_members.specs.Access.{entry_cmp}
use Rattle.opc_store_schema.specs.Represented.{entry_row}
use Rattle.opc_store_schema.specs.State.{IsNamed}
use Rattle.opc_store_schema.proofs.Keys.{entry_total}
use Rattle.opc_store_profiles.proofs.entries.entries_in.Goals as goal

one_named : (prefix : List Entry) (e : Entry) (back : List Entry) → AllByRecursion IsNamed (prefix ++ e ∷ back) → IsNamed e
one_named [] e back named = named.0
one_named (f ∷ prefix) e back named = one_named prefix e back named.1

pub loop-row-preserved : goal.loop-row-preserved
loop-row-preserved c class pattern xs list are =
    let i = c.loop-row.row-index in
    let it = next entry_cmp entry_total (entry_row class pattern) xs list.0 c.args.rows.now i c.row-item.result are c.loop-row-test.true c.row-item.is in
    let named = one_named (take i xs) it.x (drop (suc i) xs) (subst (AllByRecursion IsNamed) it.whole list.1) in
    let read = c.in_ok-entry_in.ensures class pattern it.x named it.here in
    c.in_ok-set.ensures.ok
    ∙ (ap₂ (λ (l : List Entry) (e : Entry). replace_key entry_cmp l e) (c.loop-row.invariant class pattern xs list are)
    read ∙ (comes_last entry_cmp entry_total it.x (take i xs) it.below ∙ sym it.more))
