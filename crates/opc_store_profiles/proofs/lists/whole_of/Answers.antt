use Rattle.std.proofs.Common.{◌≡◌, ℕ, List, ◌∙◌, ap, filter}
use Rattle.opc_policy_members.specs.declared.profile.Profile.{Profile}
use Rattle.opc_state.specs.Loads.{bare}
use Rattle.opc_store_profiles.specs.Lists.{is_of}
use Rattle.opc_store_profiles.proofs.lists.whole_of.Goals as goal

pub returns : goal.returns
returns c p is up has =
    let defined : c.in_ok-profile.profile ≡ bare p = c.in_ok-profile.ensures.read p is in
    let text : c.text.result.now ≡ p.pattern = c.text.ensures.text ∙ ap (λ (q : Profile). q.pattern) defined in
    let list = c.rows_of-list.ensures up ∙ (ap (λ (n : List ℕ). filter (is_of n) c.args.entries.now) text ∙ has.0) in
    let entries = c.in_ok-entries_in.ensures p.class p.pattern p.entries has.1 list in
    λ i. record (defined i) { entries = entries i }
