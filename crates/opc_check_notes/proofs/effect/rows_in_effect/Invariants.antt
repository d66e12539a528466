use Rattle.std.proofs.Common.{◌≡◌, ◌≤◌, ◌+◌, drop, is_some, length, reverse}
use Rattle.std.specs.BTreeMap.{get}
use Rattle.std.specs.List.{list_any}
use Rattle.opc_policy_members.specs.declared.row.Row.{Row}
use Rattle.opc_check_notes.specs.Effect.{in_effect, key_of, same_key}
use Rattle.opc_check_notes.specs.Levels.{HasLevels, HasRows}
use Rattle.opc_check_notes.specs.contracts.effect.RowKeyOrd.TheImpl.{ghosts}
use Rattle.opc_check_notes.specs.declared.effect.RowKey.{RowKey}
use Rattle.opc_check_notes.proofs.effect.rows_in_effect.Given as goal

abbrev pub invariant-loop-at : goal.invariant-loop-at
invariant-loop-at l = record {
  within : l.at ≤ length l.rows;
  seen : (q : RowKey) → is_some (get ghosts.cmp l.map q)
      ≡ list_any (λ (row : Row). same_key (key_of row) q) (drop l.at l.rows);
  rows : HasRows (reverse l.list.items) l.map;
  levels : HasLevels (reverse l.list.items) l.map;
  list : reverse l.list.items ≡ in_effect (l.at + 1) (drop l.at l.rows);
}

abbrev pub decreases-loop-at : goal.decreases-loop-at
decreases-loop-at l = l.at
