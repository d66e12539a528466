-- Members that come in the order of their keys, upserted one after another.
use Rattle.std.proofs.Common.{
  ◌≡◌,
  ℕ,
  suc,
  ◌+◌,
  ◌<◌,
  List,
  [],
  ◌∷◌,
  ◌++◌,
  map,
  take,
  drop,
  length,
  get_or,
  refl,
  sym,
  ap,
  ap₂,
  subst,
  ◌∙◌,
  add-one,
  append_assoc,
  Ordering,
  Less,
  Equal,
  Greater,
}
use Rattle.std.specs.List.{AllByRecursion}
use Rattle.std.specs.Cmp.{IsTotalOrder}
use Rattle.std.specs.BTreeSet.{insert_key, replace_key}
use Rattle.std.specs.Ordering.{match_ordering, ordering_reverse}
use Rattle.std.proofs.lemmas.List.{take-append-drop}
use Rattle.opc_store_sql.specs.Order.{Rises}
use Rattle.opc_store_sql.proofs.Decoded.{at}
use Rattle.opc_store_sql.proofs.Sets.{inserted_same}

module _ {X : Type 0} (cmp : X → X → Ordering) where
  in_middle : (P : X → Type 0) (prefix : List X) (x : X) (back : List X) → AllByRecursion P (prefix ++ x ∷ back) → P x
  in_middle P [] x back h = h.0
  in_middle P (y ∷ prefix) x back h = in_middle P prefix x back h.1

  -- those before a member are below it
  pub all_below : (prefix : List X) (x : X) (back : List X) → Rises cmp (prefix ++ x ∷ back) → AllByRecursion (λ y. cmp y x ≡ Less) prefix
  all_below [] x back up = tt
  all_below (y ∷ prefix) x back up = (in_middle (λ z. cmp y z ≡ Less) prefix x back up.0, all_below prefix x back up.1)

  split : (xs : List X) (i : ℕ) (x : X) → take (suc i) xs ≡ take i xs ++ x ∷ [] → xs ≡ take i xs ++ x ∷ drop (suc i) xs
  split xs i x more = sym (take-append-drop (suc i) xs) ∙ (ap (λ (l : List X). l ++ drop (suc i) xs) more ∙ append_assoc (take i xs) (x ∷ []) (drop (suc i) xs))

  module _ (total : IsTotalOrder cmp) where
    -- one above all others comes last
    pub comes_last : (new : X) (xs : List X) → AllByRecursion (λ x. cmp x new ≡ Less) xs → replace_key cmp xs new ≡ xs ++ new ∷ []
    comes_last new [] h = refl
    comes_last new (x ∷ xs) h =
        let more : cmp new x ≡ Greater = total.antisymm new x ∙ ap ordering_reverse h.0 in
        ap (λ o. match_ordering o (new ∷ x ∷ xs) (new ∷ xs) (x ∷ replace_key cmp xs new)) more ∙ ap (λ l. x ∷ l) (comes_last new xs h.1)

    module _ {Y : Type 0} (row : X → Y) (xs : List X) (up : Rises cmp xs) (rows : List Y) (i : ℕ) (y : Y)
        (are : rows ≡ map row xs) (low : i < length rows) (is : y ≡ get_or rows i y) where
      -- the next one, with those before it
      pub record Next : Type 0 where
        pub x : X
        pub here : y ≡ row x
        pub more : take (i + 1) xs ≡ take i xs ++ x ∷ []
        pub below : AllByRecursion (λ z. cmp z x ≡ Less) (take i xs)
        pub whole : xs ≡ take i xs ++ x ∷ drop (suc i) xs

      pub next : Next
      next =
          let it = at row xs i y (subst (λ (l : List Y). i < length l) are low) in
          let split = split xs i it.x it.more in
          record {
            x = it.x;
            here = is ∙ (ap (λ (l : List Y). get_or l i y) are ∙ it.is);
            more = ap (λ k. take k xs) (add-one i) ∙ it.more;
            below = all_below (take i xs) it.x (drop (suc i) xs) (subst (Rises cmp) split up);
            whole = split;
          }

      module _ (vs : List X) (v : X) (decodes : (x : X) → y ≡ row x → v ≡ x) (so_far : vs ≡ take i xs) where
        -- and what putting it makes of those before it
        pub more_put : replace_key cmp vs v ≡ take (i + 1) xs
        more_put =
            let it = next in
            ap₂ (λ (l : List X) (x : X). replace_key cmp l x) so_far (decodes it.x it.here) ∙ (comes_last it.x (take i xs) it.below ∙ sym it.more)

        pub more_inserted : ((a b : X) → cmp a b ≡ Equal → a ≡ b) → insert_key cmp vs v ≡ take (i + 1) xs
        more_inserted same = inserted_same cmp same v vs ∙ more_put
