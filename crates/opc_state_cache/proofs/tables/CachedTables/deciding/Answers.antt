use Rattle.std.proofs.Common.{◌≡◌, ◌∙◌, IfOk, subst, sym, rules}
use Rattle.std.specs.Option.{option_map}
use Rattle.opc_state.specs.Loads.{bare}
use Rattle.opc_state_cache.proofs.Right.{Holds, cached_kept, held, hit_decides, hit_keyed, if_ok, promoted_holds, searched_holds}
use Rattle.opc_state_cache.specs.Flags.{AreFlagsOf}
use Rattle.opc_state_cache.specs.declared.flags.Flags.{Flags}
use Rattle.opc_state_cache.proofs.tables.CachedTables.deciding.Goals as goal

pub returns-in-Some-clause-found : goal.returns-in-Some-clause-found
returns-in-Some-clause-found g c = record {
  kept =
      let t = g.T.Tables in
      cached_kept t.meaning c.args.self.now _ c.cached_pattern.ensures.kept
      (λ sure s represented h. subst (λ entries. Holds entries s) (sym c.get.ensures.first)
      (promoted_holds (c.args.class, c.args.resource.now) c.args.self.now.recent s h))
      (λ sure s represented h. h);
  answers = λ sure s h.
      let t = g.T.Tables in
      let decides = hit_decides (c.args.class, c.args.resource.now) c.args.self.now.recent s c.in-Some.pattern
      (held t.meaning c.args.self.now.tables c.args.self.now.recent c.args.self.now.flags s h)
      (sym c.get.ensures.found ∙ c.in-Some.is) in
      subst (λ o. IfOk c.cached_pattern.result (λ profile. profile ≡ option_map bare o)) decides (c.cached_pattern.ensures.answers sure s h.represented);
}

pub returns-in-Some-clause-keyed : goal.returns-in-Some-clause-keyed
returns-in-Some-clause-keyed g c = λ sure s h.
    let t = g.T.Tables in
    if_ok c.cached_pattern.result (hit_keyed (c.args.class, c.args.resource.now) c.args.self.now.recent s
    c.in-Some.pattern (held t.meaning c.args.self.now.tables c.args.self.now.recent c.args.self.now.flags s h)
    (sym c.get.ensures.found ∙ c.in-Some.is))

pub returns-in-None-clause-found : goal.returns-in-None-clause-found
returns-in-None-clause-found g c = record {
  kept =
      let t = g.T.Tables in
      cached_kept t.meaning c.args.self.now c.search.new.self c.search.ensures.found.kept
      (λ sure s represented h. searched_holds c.search.result c.get.new.self c.search.new.self.recent s (c.args.class, c.args.resource.now)
      (subst (λ entries. Holds entries s) (sym c.get.ensures.first) (promoted_holds (c.args.class, c.args.resource.now) c.args.self.now.recent s h))
      (c.search.ensures.found.answers sure s represented) (c.search.ensures.keyed sure s represented) c.search.ensures.keeps c.search.ensures.failed)
      (λ sure s represented h. subst (λ (flags : Flags). AreFlagsOf s flags) (sym c.search.ensures.flags) h);
  answers = search rules;
}
