-- What is found in a list after a change at one of its elements.
use Rattle.std.proofs.Common.{◌≡◌, Bool, true, false, cond, not, ◌||◌, List, [], ◌∷◌, Some, None, map, refl, sym, ap, ◌∙◌}
use Rattle.std.specs.BTreeSet.{insert_key, replace_key}
use Rattle.std.specs.List.{AllByRecursion, filter, find, list_any}
use Rattle.std.specs.Option.{option_map}
use Rattle.std.specs.Ordering.{match_ordering}
use Rattle.std.specs.declared.cmp.Ordering.{Ordering}
use Rattle.std.specs.declared.cmp.Ordering.TheVariants.{Less, Equal, Greater}
use Rattle.opc_rows.specs.Ordered.{changed, put}

module _ {A : Type 0} (p : A → Bool) (f : A → A) (y : A) where
  -- the first of a kind has become another of it
  pub find_here : p (f y) ≡ true → (xs : List A) → find p xs ≡ Some y → find p (changed p f xs) ≡ Some (f y)
  find_here kept [] at = absurd (cc)
  find_here kept (x ∷ xs) at = go (p x) refl at (find_here kept xs)
    where
      go : (b : Bool) → p x ≡ b → cond b (Some x) (find p xs) ≡ Some y
          → (find p xs ≡ Some y → find p (changed p f xs) ≡ Some (f y))
          → find p (cond b (f x ∷ xs) (x ∷ changed p f xs)) ≡ Some (f y)
      go true is g later = let same : x ≡ y = cc in ap (λ z. find p (f z ∷ xs)) same ∙ ap (λ b. cond b (Some (f y)) (find p xs)) kept
      go false is g later = ap (λ b. cond b (Some x) (find p (changed p f xs))) is ∙ later g

module _ {A : Type 0} (p q : A → Bool) (f : A → A) (y : A) where
  -- which a look-up of others does not notice
  pub find_others : q y ≡ false → q (f y) ≡ false → (xs : List A) → find p xs ≡ Some y → find q (changed p f xs) ≡ find q xs
  find_others before after [] at = refl
  find_others before after (x ∷ xs) at = go (p x) at (find_others before after xs)
    where
      go : (b : Bool) → cond b (Some x) (find p xs) ≡ Some y
          → (find p xs ≡ Some y → find q (changed p f xs) ≡ find q xs)
          → find q (cond b (f x ∷ xs) (x ∷ changed p f xs)) ≡ find q (x ∷ xs)
      go true g later = let same : x ≡ y =
          cc in ap (λ z. find q (f z ∷ xs)) same ∙ ap (λ b. cond b (Some (f y)) (find q xs)) after
          ∙ sym (ap (λ z. find q (z ∷ xs)) same ∙ ap (λ b. cond b (Some y) (find q xs)) before)
      go false g later = ap (cond (q x) (Some x)) (later g)

  pub any_same : q (f y) ≡ q y → (xs : List A) → find p xs ≡ Some y → list_any q (changed p f xs) ≡ list_any q xs
  any_same alike [] at = refl
  any_same alike (x ∷ xs) at = go (p x) at (any_same alike xs)
    where
      go : (b : Bool) → cond b (Some x) (find p xs) ≡ Some y
          → (find p xs ≡ Some y → list_any q (changed p f xs) ≡ list_any q xs)
          → list_any q (cond b (f x ∷ xs) (x ∷ changed p f xs)) ≡ list_any q (x ∷ xs)
      go true g later = let same : x ≡ y =
          cc in ap (λ z. list_any q (f z ∷ xs)) same ∙ ap (λ b. b || list_any q xs) alike
          ∙ sym (ap (λ z. list_any q (z ∷ xs)) same)
      go false g later = ap (λ b. q x || b) (later g)

pub any_unseen : {A : Type 0} (p q : A → Bool) (f : A → A) → ((x : A) → q (f x) ≡ q x) → (xs : List A) → list_any q (changed p f xs) ≡ list_any q xs
any_unseen p q f alike [] = refl
any_unseen p q f alike (x ∷ xs) = go (p x) (any_unseen p q f alike xs)
  where
    go : (b : Bool) → list_any q (changed p f xs) ≡ list_any q xs → list_any q (cond b (f x ∷ xs) (x ∷ changed p f xs)) ≡ list_any q (x ∷ xs)
    go true later = ap (λ b. b || list_any q xs) (alike x)
    go false later = ap (λ b. q x || b) later

module _ {A : Type 0} (before : A → A → Bool) (x : A) where
  -- one that is put is found, and others as before
  pub find_put : (p : A → Bool) → p x ≡ true → (xs : List A) → find p xs ≡ None → find p (put before x xs) ≡ Some x
  find_put p is [] none = ap (λ b. cond b (Some x) None) is
  find_put p is (y ∷ ys) none = go (before x y) (p y) refl none (find_put p is ys)
    where
      go : (b c : Bool) → p y ≡ c → cond c (Some y) (find p ys) ≡ None
          → (find p ys ≡ None → find p (put before x ys) ≡ Some x)
          → find p (cond b (x ∷ y ∷ ys) (y ∷ put before x ys)) ≡ Some x
      go b true here g later = absurd (cc)
      go true false here g later = ap (λ c. cond c (Some x) (find p (y ∷ ys))) is
      go false false here g later = ap (λ c. cond c (Some y) (find p (put before x ys))) here ∙ later g

  pub find_put_others : (p : A → Bool) → p x ≡ false → (xs : List A) → find p (put before x xs) ≡ find p xs
  find_put_others p other [] = ap (λ b. cond b (Some x) None) other
  find_put_others p other (y ∷ ys) = go (before x y) (find_put_others p other ys)
    where
      go : (b : Bool) → find p (put before x ys) ≡ find p ys → find p (cond b (x ∷ y ∷ ys) (y ∷ put before x ys)) ≡ find p (y ∷ ys)
      go true later = ap (λ c. cond c (Some x) (find p (y ∷ ys))) other
      go false later = ap (cond (p y) (Some y)) later

  -- no master is lost if a console comes
  pub any_put : (q : A → Bool) (xs : List A) → list_any q xs ≡ true → list_any q (put before x xs) ≡ true
  any_put q [] there = absurd (cc)
  any_put q (y ∷ ys) there = go (before x y) (q y) refl there (any_put q ys)
    where
      go : (b c : Bool) → q y ≡ c → (c || list_any q ys) ≡ true
          → (list_any q ys ≡ true → list_any q (put before x ys) ≡ true)
          → list_any q (cond b (x ∷ y ∷ ys) (y ∷ put before x ys)) ≡ true
      go true c is g later = ap (λ d. q x || (d || list_any q ys)) is ∙ ap (λ d. q x || d) g ∙ or_true (q x)
        where
          or_true : (a : Bool) → (a || true) ≡ true
          or_true true = refl
          or_true false = refl
      go false true is g later = ap (λ d. d || list_any q (put before x ys)) is
      go false false is g later = ap (λ d. d || list_any q (put before x ys)) is ∙ later g

module _ {A : Type 0} where
  -- those of a kind are left out
  pub find_left_out : (p : A → Bool) (xs : List A) → find p (filter (λ x. not (p x)) xs) ≡ None
  find_left_out p [] = refl
  find_left_out p (x ∷ xs) = go (p x) refl (find_left_out p xs)
    where
      go : (b : Bool) → p x ≡ b → find p (filter (λ z. not (p z)) xs) ≡ None
          → find p (cond (not b) (x ∷ filter (λ z. not (p z)) xs) (filter (λ z. not (p z)) xs)) ≡ None
      go true is later = later
      go false is later = ap (λ c. cond c (Some x) (find p (filter (λ z. not (p z)) xs))) is ∙ later

  pub find_not_kept : (p keep : A → Bool) → ((x : A) → p x ≡ true → keep x ≡ false) → (xs : List A) → find p (filter keep xs) ≡ None
  find_not_kept p keep out [] = refl
  find_not_kept p keep out (x ∷ xs) = go (p x) (keep x) refl refl (find_not_kept p keep out xs)
    where
      go : (a b : Bool) → p x ≡ a → keep x ≡ b → find p (filter keep xs) ≡ None → find p (cond b (x ∷ filter keep xs) (filter keep xs)) ≡ None
      go true true here kept later = let gone : keep x ≡ false = out x here in absurd (cc)
      go false true here kept later = ap (λ c. cond c (Some x) (find p (filter keep xs))) here ∙ later
      go a false here kept later = later

  -- a change of each that the look-up does not notice
  pub find_each : (p : A → Bool) (f : A → A) → ((x : A) → p (f x) ≡ p x) → (xs : List A) → find p (map f xs) ≡ option_map f (find p xs)
  find_each p f alike [] = refl
  find_each p f alike (x ∷ xs) = go (p x) refl (find_each p f alike xs)
    where
      go : (b : Bool) → p x ≡ b → find p (map f xs) ≡ option_map f (find p xs)
          → cond (p (f x)) (Some (f x)) (find p (map f xs)) ≡ option_map f (cond b (Some x) (find p xs))
      go true is later = ap (λ c. cond c (Some (f x)) (find p (map f xs))) (alike x ∙ is)
      go false is later = ap (λ c. cond c (Some (f x)) (find p (map f xs))) (alike x ∙ is) ∙ later

module _ {K : Type 0} (cmp : K → K → Ordering) (test : K → Bool) (k : K) where
  -- one that ties passes the same test
  abbrev pub Ties : K → Type 0
  Ties x = cmp k x ≡ Equal → test x ≡ test k

  -- one that is put in the place of its key is found, and others as before
  pub find_replaced : ((x : K) → test k ≡ true → test x ≡ true → cmp k x ≡ Equal) → (xs : List K)
      → AllByRecursion Ties xs → find test (replace_key cmp xs k) ≡ cond (test k) (Some k) (find test xs)
  find_replaced tied [] ties = refl
  find_replaced tied (x ∷ xs) ties = go (cmp k x) refl (find_replaced tied xs ties.1)
    where
      passed : (a b : Bool) → test k ≡ a → test x ≡ b → cmp k x ≡ Greater
          → cond b (Some x) (cond a (Some k) (find test xs)) ≡ cond a (Some k) (cond b (Some x) (find test xs))
      passed true true here there later = let same : cmp k x ≡ Equal = tied x here there in absurd (cc)
      passed true false here there later = refl
      passed false b here there later = refl

      tie : (a b : Bool) → b ≡ a → cond a (Some k) (find test xs) ≡ cond a (Some k) (cond b (Some x) (find test xs))
      tie true b same = refl
      tie false b same = sym (ap (λ c. cond c (Some x) (find test xs)) same)

      go : (o : Ordering) → cmp k x ≡ o → find test (replace_key cmp xs k) ≡ cond (test k) (Some k) (find test xs)
          → find test (match_ordering o (k ∷ x ∷ xs) (k ∷ xs) (x ∷ replace_key cmp xs k)) ≡ cond (test k) (Some k)
          (cond (test x) (Some x) (find test xs))
      go Less is later = refl
      go Equal is later = tie (test k) (test x) (ties.0 is)
      go Greater is later = ap (cond (test x) (Some x)) later ∙ passed (test k) (test x) refl refl is

  pub any_inserted : (xs : List K) → AllByRecursion Ties xs → list_any test (insert_key cmp xs k) ≡ (test k || list_any test xs)
  any_inserted [] ties = refl
  any_inserted (x ∷ xs) ties = go (cmp k x) refl (any_inserted xs ties.1)
    where
      tie : (a b c : Bool) → b ≡ a → (b || c) ≡ (a || (b || c))
      tie true b c same = ap (λ d. d || c) same
      tie false b c same = refl

      turn : (a b c : Bool) → (b || (a || c)) ≡ (a || (b || c))
      turn true true c = refl
      turn true false c = refl
      turn false b c = refl

      go : (o : Ordering) → cmp k x ≡ o → list_any test (insert_key cmp xs k) ≡ (test k || list_any test xs)
          → list_any test (match_ordering o (k ∷ x ∷ xs) (x ∷ xs) (x ∷ insert_key cmp xs k)) ≡ (test k
          || (test x || list_any test xs))
      go Less is later = refl
      go Equal is later = tie (test k) (test x) (list_any test xs) (ties.0 is)
      go Greater is later = ap (λ b. test x || b) later ∙ turn (test k) (test x) (list_any test xs)
