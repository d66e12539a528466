use Rattle.std.proofs.Common.{◌≡◌, ◌∙◌, ℕ, List, Option, map, length, sym, ap}
use Rattle.opc_names.specs.declared.class.Class.{Class}
use Rattle.opc_policy_members.specs.declared.profile.Profile.{Profile}
use Rattle.opc_policy_members.specs.Profiles.{of_class}
use Rattle.opc_policy.specs.Deciding.{deciding}
use Rattle.opc_policy.specs.Examined.{read_until, with_head}
use Rattle.opc_state.specs.Loads.{bare}
use Rattle.opc_store_search.proofs.Bare.{bare_are_profiles, deciding_bare, of_class_bare, read_until_bare, with_head_bare}
use Rattle.opc_store_search.proofs.SearchFound.{on_clean, on_clean_both}
use Rattle.opc_store_search.proofs.source.TableProfilesProfileSource.first_in.Goals as goal

-- those of a class with a head, each without its access list
chosen : (class : Class) (head : List ℕ) (ps given : List Profile) → given ≡ map bare ps
    → with_head head (of_class class given) ≡ map bare (with_head head (of_class class ps))
chosen class head ps given are = ap (λ (l : List Profile). with_head head (of_class class l)) are
    ∙ (ap (with_head head) (of_class_bare class ps) ∙ with_head_bare head (of_class class ps))

pub returns-clause-profiles : goal.returns-clause-profiles
returns-clause-profiles g c profiles has clean = rw has.2 (bare_are_profiles has.0.policy.profiles has.1.ordered.patterns has.1.ordered.profiles)

pub returns-clause-first : goal.returns-clause-first
returns-clause-first g c profiles has =
    let ps = has.0.policy.profiles in
    let is = chosen c.args.class c.args.head.now ps profiles has.2 in
    let mine = with_head c.args.head.now (of_class c.args.class ps) in
    on_clean c.first_with_head_on.result _ (λ clean. c.first_with_head_on.ensures.first clean has.0 has.1)
    (λ taken h. h ∙ sym (ap (λ (l : List Profile). deciding l c.args.resource.now) is ∙ deciding_bare mine c.args.resource.now))

pub returns-clause-rows : goal.returns-clause-rows
returns-clause-rows g c profiles has =
    let ps = has.0.policy.profiles in
    let is = chosen c.args.class c.args.head.now ps profiles has.2 in
    let mine = with_head c.args.head.now (of_class c.args.class ps) in
    on_clean_both c.first_with_head_on.result _ (λ clean. c.first_with_head_on.ensures.first clean has.0 has.1)
    (λ clean. c.first_with_head_on.ensures.rows clean has.0 has.1)
    (λ taken first rows. rows ∙ sym (ap (λ (l : List Profile). length (read_until taken.profile l)) is
    ∙ (ap (λ (o : Option Profile). length (read_until o (map bare mine))) first
    ∙ read_until_bare (deciding mine c.args.resource.now) mine)))
