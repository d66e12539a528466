use Rattle.std.proofs.Common.{◌≡◌, ◌-◌, ◌∙◌, take, length, refl, sym, subst, arith, rules}
use Rattle.opc_policy_shared.proofs.Gathered.{AreGathered, gathered_all, gathered_first, gathered_more}
use Rattle.opc_gate_rulings.specs.Shared.{opercmds}
use Rattle.opc_gate_rulings.proofs.shared.candidates_on.Goals as goal

pub loop-length-init : goal.loop-length-init
loop-length-init g c = (
  search rules,
  λ sure s was.
      let loaded = c.in_ok-profiles.ensures in (
        rw (loaded.found.answers sure s was) (gathered_first c.args.beginning.now.first.now c.args.beginning.now.last.now (opercmds s)),
        loaded.keyed sure s was,
        loaded.valid sure s was,
      ),
)

pub loop-length-preserved : goal.loop-length-preserved
loop-length-preserved g c = (
  search rules,
  λ sure s was.
      let first = c.args.beginning.now.first.now in
      let last = c.args.beginning.now.last.now in
      let more = c.in_ok-more.ensures.found in
      let before = more.kept.sure sure in
      let so_far = c.loop-length.invariant.1 before s was in
      let here = c.loop-length.invariant.0.same before s was in
      let whole : c.loop-length.length - 0 ≡ c.loop-length.length = omega arith in
      let head : c.range-head.result.now ≡ take c.loop-length.length first = c.range-head.ensures.value ∙ rw whole refl in
      let found = rw head at (more.answers sure s here) in (
        rw c.in_ok-append.ensures.items
            (gathered_more first last (opercmds s) c.loop-length.length c.loop-length.profiles.items _ so_far.0 found),
        so_far.1,
        so_far.2,
      ),
)

pub returns : goal.returns
returns g c = record {
  kept = c.loop-length.invariant.0;
  answers = λ sure s was.
      let first = c.args.beginning.now.first.now in
      let last = c.args.beginning.now.last.now in
      let so_far = c.loop-length.invariant.1 sure s was in
      let whole : c.loop-length.length ≡ length first = omega arith in
      record {
        loaded = gathered_all first last (opercmds s) c.requires.bounds c.loop-length.profiles.items c.in_ok-of.field-0
            (subst (λ n. AreGathered first last (opercmds s) n c.loop-length.profiles.items) whole so_far.0) c.in_ok-of.ensures;
        valid = so_far.2;
        keyed = so_far.1;
      };
}
