use Rattle.std.proofs.Common.{◌∙◌, List, length, sym, ap, subst}
use Rattle.sqlite.specs.Held.{Held, state}
use Rattle.opc_policy_members.specs.declared.profile.Profile.{Profile}
use Rattle.opc_policy_members.specs.Profiles.{of_class}
use Rattle.opc_policy.specs.Deciding.{deciding}
use Rattle.opc_policy.specs.Examined.{read_until, with_head}
use Rattle.opc_store_schema.specs.Represented.{Represents}
use Rattle.opc_store_search.proofs.FirstDeciding.{are_profiles}
use Rattle.opc_store_search.proofs.SearchFound.{on_clean}
use Rattle.opc_store.proofs.source.StoreProfileSource.first_in.Goals as goal

pub returns-clause-profiles : goal.returns-clause-profiles
returns-clause-profiles g c profiles has clean = rw has.2 (are_profiles has.0.policy.profiles has.1.ordered.patterns has.1.ordered.profiles)

pub returns-clause-first : goal.returns-clause-first
returns-clause-first g c profiles has =
    let was = subst (λ (h : Held _). Represents (state g.S.Store h).now has.0) (sym c.self.view_is) has.1 in
    on_clean c.first_in_on.result _ (λ clean. c.first_in_on.ensures.first clean has.0 was)
    (λ taken h. h ∙ sym (ap (λ (ps : List Profile). deciding (with_head c.args.head.now (of_class c.args.class ps)) c.args.resource.now) has.2))

pub returns-clause-rows : goal.returns-clause-rows
returns-clause-rows g c profiles has =
    let was = subst (λ (h : Held _). Represents (state g.S.Store h).now has.0) (sym c.self.view_is) has.1 in
    on_clean c.first_in_on.result _ (λ clean. c.first_in_on.ensures.rows clean has.0 was)
    (λ taken h. h ∙ sym (ap (λ (ps : List Profile). length (read_until taken.profile (with_head c.args.head.now (of_class c.args.class ps)))) has.2))
