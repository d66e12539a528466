-- What a search by halves finds among entries in order is what one from the start finds.
use Rattle.std.proofs.Common.{◌≡◌, refl, sym, ap, ◌∙◌, Bool, true, false, ◌&&◌, ℕ, ◌<◌, ◌≤◌, ◌⊎◌, inl, inr, subst, eq-or-lt_of_le, ltb, zero, suc, List, [], ◌∷◌, length, get_or, Option, Some, None, Result, Ok, Err, arith}
use Rattle.std.specs.Prelude.{find}
use Rattle.std.proofs.lemmas.Bool.{ltb-true, ltb-false}
use Rattle.std.specs.Cmp.Lexicographic.{slice_cmp, texts_ties}
use Rattle.std.specs.List.Sorted.{IsBinarySearchResult, IsSearchInRange}
use Rattle.std.specs.Option.{option_map, option_cmp, option_eq}
use Rattle.std.specs.Ordering.{nat_cmp, ordering_then, ordering_reverse, is_eq}
use Rattle.std.specs.Str.{bytes_eq}
use Rattle.std.specs.declared.cmp.Ordering.{Ordering}
use Rattle.std.specs.declared.cmp.Ordering.TheVariants.{Less, Equal, Greater}
use Rattle.opc_names.specs.declared.level.Level.{Level}
use Rattle.opc_policy_members.specs.Access.{AreInOrder, entry_cmp, entry_level, is_for}
use Rattle.opc_policy_members.specs.Places.{IsPlace}
use Rattle.opc_policy_members.specs.declared.entry.Entry.{Entry}
use Rattle.opc_policy_members.proofs.Placed.{order, place_found}

-- a place before which nothing passes a test
find-first : {X : Type 0} (p : X → Bool) (xs : List X) (i : ℕ) (d : X) → ((k : ℕ) → k < i → p (get_or xs k d) ≡ false)
    → i < length xs → p (get_or xs i d) ≡ true → find p xs ≡ Some (get_or xs i d)
find-first p [] i d before within at = absurd (omega (arith, within))
find-first p (y ∷ ys) zero d before within at = rw at refl
find-first p (y ∷ ys) (suc i) d before within at =
    rw (before 0 (omega arith)) (find-first p ys i d (λ k l. before (suc k) (omega (arith, l))) (omega (arith, within)) at)

find-nowhere : {X : Type 0} (p : X → Bool) (xs : List X) (d : X) → ((k : ℕ) → k < length xs → p (get_or xs k d) ≡ false)
    → find p xs ≡ None
find-nowhere p [] d nowhere = refl
find-nowhere p (y ∷ ys) d nowhere =
    rw (nowhere 0 (omega arith)) (find-nowhere p ys d (λ k l. nowhere (suc k) (omega (arith, l))))

both : (a b : Ordering) → is_eq (ordering_then a b) ≡ (is_eq a && is_eq b)
both Less b = refl
both Equal b = refl
both Greater b = refl

consoles_tie : (a b : Option (List ℕ)) → option_eq bytes_eq a b ≡ is_eq (option_cmp (slice_cmp nat_cmp) a b)
consoles_tie None None = refl
consoles_tie None (Some b) = refl
consoles_tie (Some a) None = refl
consoles_tie (Some a) (Some b) = texts_ties a b

-- an entry is for an id and a console if and only if it stands at their place
at_its_place : (key e : Entry) → is_for key.when key.id e ≡ is_eq (entry_cmp e key)
at_its_place key e =
    rw (texts_ties e.id key.id, consoles_tie e.when key.when)
    (sym (both (slice_cmp nat_cmp e.id key.id) (option_cmp (slice_cmp nat_cmp) e.when key.when)))

is_not : (key e : Entry) (o : Ordering) → is_eq (ordering_reverse o) ≡ false → entry_cmp key e ≡ o → is_for key.when key.id e ≡ false
is_not key e o apart at = at_its_place key e ∙ ap is_eq (order.antisymm e key ∙ ap ordering_reverse at) ∙ apart

is_so : (key e : Entry) → entry_cmp key e ≡ Equal → is_for key.when key.id e ≡ true
is_so key e at = at_its_place key e ∙ ap is_eq (order.antisymm e key ∙ ap ordering_reverse at)

-- the level at a place
abbrev pub level_at : Entry → List Entry → Result ℕ ℕ → Option Level
level_at d entries (Ok at) = Some ((get_or entries at d).level)
level_at d entries (Err at) = None

looked : (d key : Entry) (entries : List Entry) (place : Result ℕ ℕ) → AreInOrder entries → IsPlace key entries place
    → level_at d entries place ≡ entry_level entries key.when key.id
looked d key entries (Ok at) ordered h =
    sym (ap (option_map (λ (e : Entry). e.level)) (find-first (is_for key.when key.id) entries at d
    (λ k l. is_not key (get_or entries k d) Greater refl (h.1 k d l)) h.0 (is_so key (get_or entries at d) (h.2 d))))
looked d key entries (Err at) ordered h =
    sym (ap (option_map (λ (e : Entry). e.level)) (find-nowhere (is_for key.when key.id) entries d nowhere))
  where
    -- those from the place on come after the first of them, which comes after the key
    later : (k : ℕ) → at ≤ k → k < length entries → (at ≡ k) ⊎ (at < k) → entry_cmp key (get_or entries k d) ≡ Less
    later k low high (inl e) = subst (λ i. entry_cmp key (get_or entries i d) ≡ Less) e (h.2 d (omega (arith, low, high)))
    later k low high (inr l) = order.trans key (get_or entries at d) (get_or entries k d) (h.2 d (omega (arith, l, high))) (ordered at k d l high)

    side : (k : ℕ) → k < length entries → (b : Bool) → ltb k at ≡ b → is_for key.when key.id (get_or entries k d) ≡ false
    side k l true before = is_not key (get_or entries k d) Greater refl (h.1 k d (ltb-true k at before))
    side k l false from =
        let low : at ≤ k = ltb-false k at from in
        is_not key (get_or entries k d) Less refl (later k low l (eq-or-lt_of_le low))

    nowhere : (k : ℕ) → k < length entries → is_for key.when key.id (get_or entries k d) ≡ false
    nowhere k l = side k l (ltb k at) refl

-- what a binary search by the place of a key finds
pub level_found : (d key : Entry) (entries searched : List Entry) (r : Result ℕ ℕ) → searched ≡ entries → AreInOrder entries
    → IsSearchInRange r (length searched) → IsBinarySearchResult (λ (y : Entry). entry_cmp y key) searched r
    → level_at d entries r ≡ entry_level entries key.when key.id
level_found d key entries searched r same ordered within found =
    looked d key entries r ordered (place_found key entries r ordered
    (subst (λ (xs : List Entry). IsSearchInRange r (length xs)) same within)
    (subst (λ (xs : List Entry). IsBinarySearchResult (λ (y : Entry). entry_cmp y key) xs r) same found))
