-- The order after a sort by a key.
use Rattle.std.proofs.Common.{◌≡◌, List, Bor}
use Rattle.std.specs.Fn.{Called, ComputesKey, Mut}
use Rattle.std.specs.List.Sorted.{IsSortedByKey}
use Rattle.std.specs.declared.cmp.Ordering.{Ordering}
use Rattle.std.proofs.lemmas.Fn.{always_returns_same}

pub sorted_by_key : {X K : Type 0} (cmp : K → K → Ordering) (key : X → K) {F : Type 0} {g : Mut F (Bor X × Unit {0}) K} {f : F} (xs : List X)
    → ((k : X → K) → ComputesKey g k f → IsSortedByKey k cmp xs)
    → ((a : Bor X × Unit {0}) (r : K) (f' : F) → Called g f a r f' → (r ≡ key a.0.now) × (f' ≡ f)) → IsSortedByKey key cmp xs
sorted_by_key cmp key {g = g} {f = f} xs up h = up key (always_returns_same g (λ a r. r ≡ key a.0.now) f h)
