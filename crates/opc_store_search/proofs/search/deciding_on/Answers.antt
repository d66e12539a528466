use Rattle.std.proofs.Common.{rules, ◌∙◌, List, map, length, refl, ap}
use Rattle.sqlite.specs.Held.{state}
use Rattle.sqlite.specs.State.{HasCleanDisk}
use Rattle.opc_policy_members.specs.declared.profile.Profile.{Profile}
use Rattle.opc_policy_members.specs.Profiles.{of_class}
use Rattle.opc_policy.specs.Deciding.{deciding}
use Rattle.opc_policy.specs.Examined.{examined}
use Rattle.opc_state.specs.Loads.{bare}
use Rattle.opc_store_search.proofs.Bare.{deciding_bare, examined_bare, of_class_bare}
use Rattle.opc_store_search.proofs.SearchFound.{on_success}
use Rattle.opc_store_search.proofs.search.deciding_on.Goals as goal

pub returns-clause-found : goal.returns-clause-found
returns-clause-found g c clean s was =
    let here : HasCleanDisk (state g.S.Store c.search.new.source.conn.now) = Prim.search rules in
    let ps = s.policy.profiles in
    let resource = c.args.resource.now in
    on_success c.search.result (c.search.ensures.deciding (map bare ps) (s, was, refl))
    (λ found h. h here ∙ (ap (λ (l : List Profile). deciding l resource) (of_class_bare c.args.class ps) ∙ deciding_bare (of_class c.args.class ps) resource))

pub returns-clause-ranges : goal.returns-clause-ranges
returns-clause-ranges g c clean s was =
    let here : HasCleanDisk (state g.S.Store c.search.new.source.conn.now) = Prim.search rules in
    on_success c.search.result (c.search.ensures.ranges (map bare s.policy.profiles) (s, was, refl)) (λ found h. h here)

pub returns-clause-rows : goal.returns-clause-rows
returns-clause-rows g c clean s was =
    let here : HasCleanDisk (state g.S.Store c.search.new.source.conn.now) = Prim.search rules in
    let ps = s.policy.profiles in
    let resource = c.args.resource.now in
    on_success c.search.result (c.search.ensures.rows (map bare ps) (s, was, refl))
    (λ found h. h here
    ∙ (ap (λ (l : List Profile). length (examined found.profile resource l)) (of_class_bare c.args.class ps)
    ∙ examined_bare found.profile resource (of_class c.args.class ps)))
