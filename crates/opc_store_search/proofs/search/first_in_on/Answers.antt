use Rattle.std.proofs.Common.{◌≡◌, ◌∙◌, [], Option, List, Some, None, length, sym, ap, subst, arith}
use Rattle.std.specs.Option.{option_map_or}
use Rattle.sqlite.specs.Held.{state}
use Rattle.sqlite.specs.State.{HasCleanDisk}
use Rattle.sqlite.specs.Effect.{Database}
use Rattle.opc_store_sql.proofs.Asked.{never_writes}
use Rattle.opc_store_sql.proofs.Looking.{looked}
use Rattle.opc_policy_members.specs.declared.profile.Profile.{Profile}
use Rattle.opc_policy_members.specs.Profiles.{of_class}
use Rattle.opc_policy.specs.Deciding.{deciding}
use Rattle.opc_policy.specs.Examined.{read_until, with_head}
use Rattle.opc_store_schema.specs.Represented.{Represents}
use Rattle.opc_store_search.specs.Search.{chosen}
use Rattle.opc_store_search.proofs.SearchFound.{found_none, found_some, whole}
use Rattle.opc_store_search.proofs.SearchLoads.{by_head_asked, chosen_by_head, selects_chosen}
use Rattle.opc_store_search.proofs.search.first_in_on.Goals as goal

pub first_covering_on-requires-clause-quiet : goal.first_covering_on-requires-clause-quiet
first_covering_on-requires-clause-quiet g c = never_writes by_head_asked

pub returns-in_default-clause-first : goal.returns-in_default-clause-first
returns-in_default-clause-first g c clean s was =
    let resource = c.args.resource.now in
    let n = c.in_ok-taken.taken.rows in
    let this = c.in_ok-taken.ensures.found clean (chosen c.args.class c.args.head.now)
    (rw (c.params-to_sql.ensures, c.params-to_sql-2.ensures, c.text.ensures.text)
    (selects_chosen c.args.class c.args.head.now g.S.Store)) s was in
    let none = found_none s was.ordered c.args.class (Some c.args.head.now) resource n this.1 (sym c.in_default.is ∙ this.0) in
    none.0 ∙ ap (λ (l : List Profile). deciding l resource) (sym (chosen_by_head c.args.class c.args.head.now s.policy.profiles))

pub returns-in_default-clause-rows : goal.returns-in_default-clause-rows
returns-in_default-clause-rows g c clean s was =
    let resource = c.args.resource.now in
    let n = c.in_ok-taken.taken.rows in
    let this = c.in_ok-taken.ensures.found clean (chosen c.args.class c.args.head.now)
    (rw (c.params-to_sql.ensures, c.params-to_sql-2.ensures, c.text.ensures.text)
    (selects_chosen c.args.class c.args.head.now g.S.Store)) s was in
    let none = found_none s was.ordered c.args.class (Some c.args.head.now) resource n this.1 (sym c.in_default.is ∙ this.0) in
    none.1 ∙ ap (λ (l : List Profile). length (read_until None l)) (sym (chosen_by_head c.args.class c.args.head.now s.policy.profiles))

pub returns-clause-first : goal.returns-clause-first
returns-clause-first g c clean s was =
    let early : HasCleanDisk (state g.S.Store c.first_covering_on.new.conn) = omega (arith, c.in_ok-entries.ensures.looks.survives.clean) in
    let resource = c.args.resource.now in
    let n = c.in_ok-taken.taken.rows in
    let this = c.in_ok-taken.ensures.found early (chosen c.args.class c.args.head.now)
    (rw (c.params-to_sql.ensures, c.params-to_sql-2.ensures, c.text.ensures.text)
    (selects_chosen c.args.class c.args.head.now g.S.Store)) s was in
    let q = c.in-Some.profile in
    let w = found_some s was.ordered c.args.class (Some c.args.head.now) resource n this.1 q (sym c.in-Some.is ∙ this.0) in
    let mid = looked g.S.Store _ _ _ _ _ c.in_ok-taken.ensures.looks early (λ (d : Database). Represents d s) was in
    let entries = c.in_ok-entries.ensures.found clean s mid ∙ ap (λ (o : Option Profile). option_map_or (λ (p : Profile). p.entries) o []) w.here in
    let same = whole s was.ordered c.args.class (Some c.args.head.now) resource n this.1 q w _ entries in
    ap (λ (p : Profile). Some p) same ∙ (w.decides
    ∙ ap (λ (l : List Profile). deciding l resource)
    (sym (chosen_by_head c.args.class c.args.head.now s.policy.profiles)))

pub returns-clause-rows : goal.returns-clause-rows
returns-clause-rows g c clean s was =
    let early : HasCleanDisk (state g.S.Store c.first_covering_on.new.conn) = omega (arith, c.in_ok-entries.ensures.looks.survives.clean) in
    let resource = c.args.resource.now in
    let n = c.in_ok-taken.taken.rows in
    let this = c.in_ok-taken.ensures.found early (chosen c.args.class c.args.head.now)
    (rw (c.params-to_sql.ensures, c.params-to_sql-2.ensures, c.text.ensures.text)
    (selects_chosen c.args.class c.args.head.now g.S.Store)) s was in
    let q = c.in-Some.profile in
    let w = found_some s was.ordered c.args.class (Some c.args.head.now) resource n this.1 q (sym c.in-Some.is ∙ this.0) in
    let mid = looked g.S.Store _ _ _ _ _ c.in_ok-taken.ensures.looks early (λ (d : Database). Represents d s) was in
    let entries = c.in_ok-entries.ensures.found clean s mid ∙ ap (λ (o : Option Profile). option_map_or (λ (p : Profile). p.entries) o []) w.here in
    let same = whole s was.ordered c.args.class (Some c.args.head.now) resource n this.1 q w _ entries in
    let read : n ≡ length (read_until (Some w.d)
    (with_head c.args.head.now (of_class c.args.class s.policy.profiles))) = w.reads
    ∙ ap (λ (l : List Profile). length (read_until (Some w.d) l))
    (sym (chosen_by_head c.args.class c.args.head.now s.policy.profiles)) in
    subst (λ (p : Profile). n ≡ length (read_until (Some p) (with_head c.args.head.now (of_class c.args.class s.policy.profiles)))) (sym same) read
