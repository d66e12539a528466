use Rattle.std.proofs.Common.{◌≡◌, Bool, IfSome, Option, subst, sym}
use Rattle.opc_state.specs.Invariants.{IsKeyed}
use Rattle.opc_state_cache.specs.Flags.{AreFlagsOf}
use Rattle.opc_state_cache.specs.declared.flags.Flags.{Flags}
use Rattle.opc_state_cache.proofs.KnownFlags.{halted_known, known_halted}
use Rattle.opc_state_cache.proofs.Right.{cached_kept}
use Rattle.opc_state_cache.proofs.tables.CachedTables.is_halted.Goals as goal

pub returns-in-Some-clause-keyed : goal.returns-in-Some-clause-keyed
returns-in-Some-clause-keyed g c = λ sure s h. (known_halted s c.args.self.now.flags c.in-Some.halted h.known c.in-Some.is).1

pub returns-clause-halted : goal.returns-clause-halted
returns-clause-halted g c = record {
  kept =
      let t = g.T.Tables in
      cached_kept t.meaning c.args.self.now _ c.is_halted.ensures.halted.kept (λ sure s represented h. h)
      (λ sure s represented h. subst (λ (flags : Flags). AreFlagsOf s flags) (sym c.set_halted.ensures)
      (halted_known s c.args.self.now.flags c.in_ok-halted.halted h (c.in_ok-halted.ensures.halted.answers sure s represented)
      (c.in_ok-halted.ensures.keyed sure s represented)));
  answers = λ sure s h. c.in_ok-halted.ensures.halted.answers sure s h.represented;
}
