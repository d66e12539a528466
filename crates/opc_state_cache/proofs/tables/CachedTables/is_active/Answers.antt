use Rattle.std.proofs.Common.{subst, sym}
use Rattle.opc_state_cache.specs.Flags.{AreFlagsOf}
use Rattle.opc_state_cache.specs.declared.flags.Flags.{Flags}
use Rattle.opc_state_cache.proofs.KnownFlags.{active_known}
use Rattle.opc_state_cache.proofs.Right.{cached_kept}
use Rattle.opc_state_cache.proofs.tables.CachedTables.is_active.Goals as goal

pub returns : goal.returns
returns g c = record {
  kept =
      let t = g.T.Tables in
      cached_kept t.meaning c.args.self.now _ c.is_active.ensures.kept (λ sure s represented h. h)
      (λ sure s represented h. subst (λ (flags : Flags). AreFlagsOf s flags) (sym c.set_active.ensures)
      (active_known s c.args.self.now.flags c.args.class c.in_ok-active.active h (c.in_ok-active.ensures.answers sure s represented)));
  answers = λ sure s h. c.in_ok-active.ensures.answers sure s h.represented;
}
