use Rattle.std.proofs.Common.{◌≤◌, List, length}
use Rattle.opc_policy.proofs.ByHeads.{Asked}
use Rattle.opc_policy_members.specs.Profiles.{AreProfiles, of_class}
use Rattle.opc_policy_members.specs.declared.profile.Profile.{Profile}
use Rattle.opc_policy.proofs.searching.search.Given as goal

abbrev pub invariant-heads : goal.invariant-heads
invariant-heads g l = record {
  within : l.length ≤ length l.name;
  ready : g.S.ProfileSource.is_ready l.source;
  kept : g.S.ProfileSource.is_kept l.fn.source l.source;
  faithful : g.S.ProfileSource.is_faithful l.source → g.S.ProfileSource.is_faithful l.fn.source;
  reported : (profiles : List Profile) → g.S.ProfileSource.has l.fn.source profiles → g.S.ProfileSource.is_faithful l.source → record {
    same : g.S.ProfileSource.has l.source profiles;
    asked : AreProfiles profiles → Asked (of_class l.class profiles) l.name l.length l.rows;
  };
}

abbrev pub decreases-heads : goal.decreases-heads
decreases-heads g l = l.length
