-- Patterns that are looked up.
use Rattle.std.proofs.Common.{◌≡◌, ◌∙◌, ◌||◌, ◌<◌, ◌+◌, ap, sym, refl, ℕ, Bool, true, false, cond, List, [], ◌∷◌, ◌++◌, get_or, length, take}
use Rattle.std.specs.BTreeMap.{is_at}
use Rattle.std.specs.Cmp.Lexicographic.{slice_cmp, texts_ties}
use Rattle.std.specs.List.{list_any}
use Rattle.std.specs.Ordering.{nat_cmp}
use Rattle.std.specs.Str.{bytes_eq}
use Rattle.std.proofs.lemmas.List.{take_more}
use Rattle.std.proofs.lemmas.Slice.Eq.{bytes_eq-Decides}
use Rattle.opc_policy_deciders.specs.Pairs.{is_among}

swapped : (p q : List ℕ) → bytes_eq p q ≡ bytes_eq q p
swapped p q = go (bytes_eq p q) (bytes_eq q p) refl refl
  where
    go : (b c : Bool) → bytes_eq p q ≡ b → bytes_eq q p ≡ c → b ≡ c
    go true true one other = refl
    go false false one other = refl
    go true false one other = sym ((bytes_eq-Decides q p).1 (sym ((bytes_eq-Decides p q).0 one))) ∙ other
    go false true one other = sym one ∙ (bytes_eq-Decides p q).1 (sym ((bytes_eq-Decides q p).0 other))

at_text : (x p : List ℕ) → is_at (slice_cmp nat_cmp x) p ≡ bytes_eq p x
at_text x p = sym (texts_ties x p) ∙ swapped x p

any_more : (p : List ℕ) (xs : List (List ℕ)) (x : List ℕ)
    → list_any (bytes_eq p) (xs ++ x ∷ []) ≡ cond (bytes_eq p x) true (list_any (bytes_eq p) xs)
any_more p [] x = go (bytes_eq p x)
  where
    go : (b : Bool) → (b || false) ≡ cond b true false
    go true = refl
    go false = refl
any_more p (y ∷ ys) x = ap (λ b. bytes_eq p y || b) (any_more p ys x) ∙ go (bytes_eq p y) (bytes_eq p x)
  where
    go : (a b : Bool) → (a || cond b true (list_any (bytes_eq p) ys)) ≡ cond b true (a || list_any (bytes_eq p) ys)
    go true true = refl
    go true false = refl
    go false true = refl
    go false false = refl

pub one_more : (patterns : List (List ℕ)) (i : ℕ) (x : List ℕ) (old new : List ℕ → Bool) → i < length patterns → x ≡ get_or patterns i x
    → ((p : List ℕ) → new p ≡ cond (is_at (slice_cmp nat_cmp x) p) true (old p))
    → ((p : List ℕ) → old p ≡ is_among (take i patterns) p) → (p : List ℕ) → new p ≡ is_among (take (i + 1) patterns) p
one_more patterns i x old new low is updates so_far p =
    updates p ∙ ap (λ b. cond b true (old p)) (at_text x p) ∙ ap (cond (bytes_eq p x) true) (so_far p)
    ∙ sym (any_more p (take i patterns) x) ∙ sym (ap (λ y. list_any (bytes_eq p) (take i patterns ++ y ∷ [])) (sym is))
    ∙ sym (ap (list_any (bytes_eq p)) (take_more patterns i x low))
