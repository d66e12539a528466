use Rattle.std.proofs.Common.{◌≡◌, ◌∙◌, List, [], ap, ap₂, Option}
use Rattle.std.specs.Option.{option_map_or}
use Rattle.opc_policy_members.specs.declared.entry.Entry.{Entry}
use Rattle.opc_policy_members.specs.declared.profile.Profile.{Profile}
use Rattle.opc_state.specs.Loads.{access_list, bare}
use Rattle.opc_store_old_tables.proofs.profiles.profile_on.Goals as goal

pub returns-clause-found : goal.returns-clause-found
returns-clause-found g c clean version s was p is here =
    let read = c.in_ok-profile.profile in
    let definition : read ≡ bare p = c.in_ok-profile.ensures.read p [] is in
    let list = c.in_ok-entries.ensures.found clean version s was in
    let own = ap (λ (q : Profile). access_list s.policy q.class q.pattern) definition
    ∙ ap (λ (o : Option Profile). option_map_or (λ (q : Profile). q.entries) o []) here in
    ap₂ (λ (q : Profile) (entries : List Entry). record q { entries = entries }) definition (list ∙ own)
