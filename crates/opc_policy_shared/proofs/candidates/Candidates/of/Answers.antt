use Rattle.std.proofs.Common.{◌≡◌, ◌++◌, ◌∷◌, [], refl, rules}
use Rattle.std.specs.Cmp.Lexicographic.{slice_cmp}
use Rattle.std.specs.Ordering.{nat_cmp}
use Rattle.std.proofs.lemmas.List.Elements.{All-push}
use Rattle.std.proofs.lemmas.List.Sorted.{All-permutation}
use Rattle.opc_names.specs.Names.{IsPattern}
use Rattle.opc_names.specs.Order.{sort_key}
use Rattle.opc_policy_members.specs.declared.profile.Profile.{Profile}
use Rattle.opc_policy_shared.proofs.Sorting.{sorted_by_key}
use Rattle.opc_policy_shared.proofs.candidates.Candidates.of.Goals as goal

pub loop-profile-preserved : goal.loop-profile-preserved
loop-profile-preserved c =
    let items : c.push.new.self.items ≡ c.loop-profile.list.items ++ c.of.result ∷ [] = c.in_ok-push.ensures.items in
    let valid : IsPattern c.of.result.pattern = rw c.of.ensures.value c.of.ensures.valid in (
      rw (items, c.loop-profile.invariant.0, c.of.ensures.value) refl,
      rw items (All-push (λ (p : Profile). IsPattern p.pattern) c.loop-profile.list.items c.of.result c.loop-profile.invariant.1 valid),
    )

pub invariant_of-result : goal.invariant_of-result
invariant_of-result c = record {
  patterns = All-permutation (λ (p : Profile). IsPattern p.pattern) c.loop-profile.list.items c.sort_unstable_by_key.new.self.items
      c.sort_unstable_by_key.ensures.permutation c.loop-profile.invariant.1;
  order = sorted_by_key (slice_cmp nat_cmp) (λ (p : Profile). sort_key p.pattern) c.sort_unstable_by_key.new.self.items
      c.sort_unstable_by_key.ensures.sorted (λ a r q k. search rules);
}
