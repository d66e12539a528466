use Rattle.std.proofs.Common.{◌≡◌, [], take}
use Rattle.std.specs.BTreeMap.{values}
use Rattle.opc_policy_members.specs.Stored.{AreById}
use Rattle.opc_answers.specs.Made.{users_after}
use Rattle.opc_answers.proofs.room.users_made.Given as goal

abbrev pub invariant-loop-row : goal.invariant-loop-row
invariant-loop-row l = record {
  by_id : AreById l.by_id.entries;
  users : values l.by_id ≡ users_after (take l.row-index l.rows) [];
}
