use Rattle.std.proofs.Common.{◌≡◌, ◌∙◌, ◌++◌, List, [], ◌∷◌, map, take, sym, subst, arith}
use Rattle.std.specs.List.{AllByRecursion}
use Rattle.std.proofs.lemmas.List.{take_all}
use Rattle.sqlite.specs.Held.{state}
use Rattle.sqlite_keyed.proofs.ListLemmas.{all-append}
use Rattle.opc_policy_members.specs.declared.entry.Entry.{Entry}
use Rattle.opc_store_schema.specs.Made.{IsMade}
use Rattle.opc_store_schema.specs.Represented.{entry_row}
use Rattle.opc_store_schema.specs.State.{IsNamed}
use Rattle.sqlite.specs.declared.error.Error.{Error}
use Rattle.opc_store_sql.proofs.StepsInOrder.{stays_then}
use Rattle.opc_store_profiles.proofs.ProfileRows.{entries_so_far}
use Rattle.opc_store_schema.proofs.EditsInOrder.{one_more}
use Rattle.opc_store_profiles.proofs.entries.insert_entries.Goals as goal

pub loop-entry-preserved : goal.loop-entry-preserved
loop-entry-preserved g c =
    let was = c.loop-entry.invariant in
    let now = c.in_ok-insert_entry.ensures in (
      now.same_reference ∙ was.0,
      stays_then g.S.Store _ _ Error Error tt tt _ c.loop-entry.tx.conn.now c.insert_entry.new.tx.conn.now was.1 now.stays,
      subst (AllByRecursion IsNamed) (sym
          (one_more c.args.entries.now c.loop-entry.entry-index c.entry-item.result (omega arith) c.entry-item.is))
          (all-append IsNamed (take c.loop-entry.entry-index c.args.entries.now) (c.entry-item.result ∷ []) was.2
          (now.named, tt)),
      λ clean contents made. entries_so_far _ contents c.args.class c.args.pattern.now
          (take c.loop-entry.entry-index c.args.entries.now) c.entry-item.result _
          (one_more c.args.entries.now c.loop-entry.entry-index c.entry-item.result (omega arith) c.entry-item.is)
          (now.added clean _ (was.3 (omega (arith, now.stays.survives.clean)) contents made)),
    )

pub returns-clause-named : goal.returns-clause-named
returns-clause-named g c =
    let all : take c.loop-entry.entry-index c.args.entries.now ≡ c.args.entries.now = take_all c.loop-entry.entry-index c.args.entries.now (omega arith) in
    subst (AllByRecursion IsNamed) all c.loop-entry.invariant.2

pub returns-clause-added : goal.returns-clause-added
returns-clause-added g c clean contents made =
    let all : take c.loop-entry.entry-index c.args.entries.now ≡ c.args.entries.now = take_all c.loop-entry.entry-index c.args.entries.now (omega arith) in
    subst (λ (l : List Entry). IsMade (record contents
    { entries = map (entry_row c.args.class c.args.pattern.now) l ++ contents.entries })
    (state g.S.Store c.loop-entry.tx.conn.now).now) all (c.loop-entry.invariant.3 clean contents made)
