use Rattle.std.proofs.Common.{◌≡◌, ◌∙◌, Some, None, sym}
use Rattle.std.specs.BTreeMap.{get}
use Rattle.opc_check_notes.specs.Effect.{key_of}
use Rattle.opc_check_notes.specs.contracts.effect.RowKeyOrd.TheImpl.{ghosts}
use Rattle.opc_check_notes.proofs.Keys.{put_back, put_new}
use Rattle.opc_check_notes.proofs.effect.keep.Goals as goal

pub returns-in_ok-put-in-Some-clause-map : goal.returns-in_ok-put-in-Some-clause-map
returns-in_ok-put-in-Some-clause-map c =
    let old = get ghosts.cmp c.args.map.now in
    let had : get ghosts.cmp c.args.map.now c.key_of.result ≡ Some c.in-Some.later = sym c.in_ok-later.ensures.old ∙ c.in-Some.is in
    λ q. put_back (key_of c.args.row.now) c.key_of.result q _ c.in-Some.later old _ _ _ c.key_of.ensures had
    (c.in_ok-later.ensures.updates.0 q) (c.in_ok-put-in-Some.ensures q)

pub returns-in_ok-add-in-None-clause-map : goal.returns-in_ok-add-in-None-clause-map
returns-in_ok-add-in-None-clause-map c =
    let had : get ghosts.cmp c.args.map.now c.key_of.result ≡ None = sym c.in_ok-later.ensures.old ∙ c.in-None.is in
    λ q. put_new (key_of c.args.row.now) c.key_of.result q _ (get ghosts.cmp c.args.map.now) _ c.key_of.ensures had
    (rw c.entry_level.ensures at c.in_ok-later.ensures.updates.0 q)
