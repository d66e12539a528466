use Rattle.std.proofs.Common.{◌≡◌, rules, sym}
use Rattle.std.proofs.lemmas.List.Sorted.{answers_always, list_any-IsPermutation}
use Rattle.opc_check_notes.proofs.Listing.{stays_at}
use Rattle.opc_check_notes.proofs.sorted_pairs.SortedPairs.sorted.Goals as goal

pub invariant_of-result : goal.invariant_of-result
invariant_of-result g c =
    c.in_ok-sort_by_key.ensures.sorted (λ p. p.0) (answers_always _ (λ a r. r ≡ a.0.now.0) _ (λ f a r q k. search rules))

pub returns-clause-keys : goal.returns-clause-keys
returns-clause-keys g c = λ key.
    stays_at g.met.K.Ord.total _ _ c.sort_by_key.ensures.permutation
    (c.sort_by_key.ensures.stable (λ p. p.0) (answers_always _ (λ a r. r ≡ a.0.now.0) _ (λ f a r q k. search rules))) key

pub returns-clause-pairs : goal.returns-clause-pairs
returns-clause-pairs g c = λ test. sym (list_any-IsPermutation test _ _ c.sort_by_key.ensures.permutation)
