use Rattle.std.proofs.Common.{◌∙◌, List, Option, Some, length, option_map, sym, ap}
use Rattle.opc_store_sql.proofs.Asked.{never_writes}
use Rattle.opc_policy_members.specs.declared.profile.Profile.{Profile}
use Rattle.opc_policy.specs.Deciding.{deciding}
use Rattle.opc_policy.specs.Examined.{read_until}
use Rattle.opc_state.specs.Loads.{bare}
use Rattle.opc_store_search.specs.Search.{chosen}
use Rattle.opc_store_search.proofs.SearchFound.{decided, on_success}
use Rattle.opc_store_search.proofs.SearchLoads.{by_head_asked, chosen_by_head, selects_chosen}
use Rattle.opc_store_search.proofs.search.first_with_head_on.Goals as goal

pub first_covering_on-requires-clause-quiet : goal.first_covering_on-requires-clause-quiet
first_covering_on-requires-clause-quiet g c = never_writes by_head_asked

pub returns-clause-first : goal.returns-clause-first
returns-clause-first g c clean s was =
    let class = c.args.class in
    let head = c.args.head.now in
    let resource = c.args.resource.now in
    let found = c.first_covering_on.ensures.found clean (chosen class head)
    (rw (c.params-to_sql.ensures, c.params-to_sql-2.ensures, c.text.ensures.text)
    (selects_chosen class head g.S.Store)) s was in
    let it = decided s was.ordered class (Some head) resource in
    on_success c.first_covering_on.result found
    (λ taken h. h.0 ∙ ap (option_map bare)
    (it.decides ∙ ap (λ (l : List Profile). deciding l resource)
    (sym (chosen_by_head class head s.policy.profiles))))

pub returns-clause-rows : goal.returns-clause-rows
returns-clause-rows g c clean s was =
    let class = c.args.class in
    let head = c.args.head.now in
    let resource = c.args.resource.now in
    let found = c.first_covering_on.ensures.found clean (chosen class head)
    (rw (c.params-to_sql.ensures, c.params-to_sql-2.ensures, c.text.ensures.text)
    (selects_chosen class head g.S.Store)) s was in
    let it = decided s was.ordered class (Some head) resource in
    let mine = chosen class head s in
    on_success c.first_covering_on.result found
    (λ taken h. h.1
    ∙ (it.reads ∙ (ap (λ (o : Option Profile). length (read_until o mine)) it.decides
    ∙ ap (λ (l : List Profile). length (read_until (deciding l resource) l))
    (sym (chosen_by_head class head s.policy.profiles)))))
