use Rattle.std.proofs.Common.{subst, sym}
use Rattle.opc_state.specs.Changes.{changed_by}
use Rattle.opc_state_cache.specs.Flags.{AreFlagsOf}
use Rattle.opc_state_cache.specs.declared.flags.Flags.{Flags}
use Rattle.opc_state_cache.proofs.KnownFlags.{known_after_change, known_before_change}
use Rattle.opc_state_cache.proofs.Right.{Holds, fewer_hold, held, on_err, on_err_too, on_ok, remembered_holds, with_cache}
use Rattle.opc_state_cache.proofs.tables.CachedTables.commit.Goals as goal

pub returns-in_err-invalidate_for-clause-failed : goal.returns-in_err-invalidate_for-clause-failed
returns-in_err-invalidate_for-clause-failed g c = λ sure s h.
    let t = g.T.Tables in
    let kept = c.invalidate_for.ensures.forgets.kept in
    let same = c.in_err-invalidate_for.ensures.failed in
    let holds : Holds c.invalidate_for.new.self.recent s =
    subst (λ entries. Holds entries s) (sym same)
    (held t.meaning c.args.self.now.tables c.args.self.now.recent c.args.self.now.flags s h) in
    on_err_too c.from_residual.result (with_cache t.meaning c.invalidate_for.new.self.tables
    c.invalidate_for.new.self.recent c.invalidate_for.new.self.flags s (kept.same sure s h.represented) holds
    (subst (λ (flags : Flags). AreFlagsOf s flags) (sym c.invalidate_for.ensures.flags)
    (known_before_change c.args.change.now.edits.items s c.args.self.now.flags h.known)))

pub returns-clause-done : goal.returns-clause-done
returns-clause-done g c = λ sure s h.
    let t = g.T.Tables in
    let kept = c.invalidate_for.ensures.forgets.kept in
    let mid = c.commit.ensures.sure sure in
    let are = c.in_ok-invalidate_for.ensures.forgets.answers mid s h.represented in
    let holds = subst (λ entries. Holds entries (changed_by c.args.change.now s)) (sym are)
    (remembered_holds c.args.change.now s c.args.self.now.recent
    (held t.meaning c.args.self.now.tables c.args.self.now.recent c.args.self.now.flags s h)) in
    let flags = subst (λ (flags : Flags). AreFlagsOf (changed_by c.args.change.now s) flags) (sym c.invalidate_for.ensures.flags)
    (known_after_change c.args.change.now s c.args.self.now.flags h.known) in
    on_ok c.commit.result (λ done. with_cache t.meaning c.commit.new.self
    c.invalidate_for.new.self.recent c.invalidate_for.new.self.flags (changed_by c.args.change.now s) done holds flags)
    (c.commit.ensures.done sure s (kept.same mid s h.represented))

pub returns-clause-failed : goal.returns-clause-failed
returns-clause-failed g c = λ sure s h.
    let t = g.T.Tables in
    let kept = c.invalidate_for.ensures.forgets.kept in
    let mid = c.commit.ensures.sure sure in
    let are = c.in_ok-invalidate_for.ensures.forgets.answers mid s h.represented in
    let holds = subst (λ entries. Holds entries s) (sym are)
    (fewer_hold c.args.change.now s c.args.self.now.recent
    (held t.meaning c.args.self.now.tables c.args.self.now.recent c.args.self.now.flags s h)) in
    let flags = subst (λ (flags : Flags). AreFlagsOf s flags) (sym c.invalidate_for.ensures.flags)
    (known_before_change c.args.change.now.edits.items s c.args.self.now.flags h.known) in
    on_err c.commit.result (λ same. with_cache t.meaning c.commit.new.self
    c.invalidate_for.new.self.recent c.invalidate_for.new.self.flags s same holds flags)
    (c.commit.ensures.failed sure s (kept.same mid s h.represented))
