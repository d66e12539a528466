use Rattle.std.proofs.Common.{◌≡◌, ◌+◌, ◌≤◌, ◌++◌, length, false}
use Rattle.opc_names.specs.Patterns.{tokens}
use Rattle.opc_names.specs.Walk.{sort_key_after}
use Rattle.opc_names.proofs.pattern.key_bytes.Given as goal

abbrev pub invariant-loop-token : goal.invariant-loop-token
invariant-loop-token l = record {
  key : l.bytes.items ++ sort_key_after l.opened (tokens l.left) ≡ sort_key_after false (tokens l.text);
  room : length l.bytes.items + length l.left ≤ 39;
}

abbrev pub decreases-loop-token : goal.decreases-loop-token
decreases-loop-token l = length l.left
