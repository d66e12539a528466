-- What is put among members in order, and when that leaves them as they are.
use Rattle.std.proofs.Common.{
  ◌≡◌,
  Bool,
  true,
  false,
  cond,
  not,
  ◌||◌,
  List,
  [],
  ◌∷◌,
  Option,
  Some,
  None,
  filter,
  Ordering,
  Less,
  Equal,
  Greater,
  refl,
  sym,
  ap,
  ◌∙◌,
  rules,
}
use Rattle.std.specs.BTreeSet.{insert_key, replace_key}
use Rattle.std.specs.Cmp.{IsTotalOrder}
use Rattle.std.specs.List.{find, list_any}
use Rattle.std.specs.Ordering.{is_lt, is_eq, match_ordering, ordering_reverse}
use Rattle.opc_rows.specs.Ordered.{Ascends}
use Rattle.opc_rows.proofs.Orders.{all_found}

is_less : (o : Ordering) → is_lt o ≡ true → o ≡ Less
is_less Less h = refl
is_less Equal h = absurd (search (rules, h))
is_less Greater h = absurd (search (rules, h))

pub is_tie : (o : Ordering) → is_eq o ≡ true → o ≡ Equal
is_tie Less h = absurd (search (rules, h))
is_tie Equal h = refl
is_tie Greater h = absurd (search (rules, h))

unlike : (o : Ordering) → o ≡ Greater → o ≡ Equal → ⊥
unlike o greater equal = search (rules, sym greater ∙ equal)

pub itself : (o : Ordering) → o ≡ ordering_reverse o → o ≡ Equal
itself Less e = absurd (search (rules, e))
itself Equal e = refl
itself Greater e = absurd (search (rules, e))

pub some_is : {K : Type 0} (x y : K) → (let o : Option K = Some x in o) ≡ Some y → x ≡ y
some_is x y h = search (rules, h)

-- what is found passes the test
pub found_passes : {K : Type 0} (test : K → Bool) (k : K) (xs : List K) → find test xs ≡ Some k → test k ≡ true
found_passes test k [] found = absurd (search (rules, found))
found_passes {K} test k (x ∷ xs) found = go (test x) refl found (found_passes test k xs)
  where
    go : (b : Bool) → test x ≡ b → cond b (Some x) (find test xs) ≡ Some k → (find test xs ≡ Some k → test k ≡ true) → test k ≡ true
    go true e f later = ap test (sym (some_is x k f)) ∙ e
    go false e f later = later f

-- one that is put is found
pub found_put : {K : Type 0} (cmp : K → K → Ordering) (test : K → Bool) (k : K) (xs : List K) → test k ≡ true
    → ((x : K) → test x ≡ true → cmp k x ≡ Equal) → find test (replace_key cmp xs k) ≡ Some k
found_put {K} cmp test k [] here tie = ap (λ b. let o : Option K = cond b (Some k) None in o) here
found_put {K} cmp test k (x ∷ xs) here tie = go (cmp k x) refl (found_put cmp test k xs here tie)
  where
    first : (ys : List K) → find test (k ∷ ys) ≡ Some k
    first ys = ap (λ b. cond b (Some k) (find test ys)) here

    away : (b : Bool) → test x ≡ b → cmp k x ≡ Greater → b ≡ false
    away true e greater = absurd (unlike (cmp k x) greater (tie x e))
    away false e greater = refl

    go : (o : Ordering) → cmp k x ≡ o → find test (replace_key cmp xs k) ≡ Some k
        → find test (match_ordering o (k ∷ x ∷ xs) (k ∷ xs) (x ∷ replace_key cmp xs k)) ≡ Some k
    go Less e later = first (x ∷ xs)
    go Equal e later = first xs
    go Greater e later = ap (λ b. cond b (Some x) (find test (replace_key cmp xs k))) (away (test x) refl e) ∙ later

-- one that is found where it would be put leaves a list in order as it is
pub put_again : {K : Type 0} (cmp : K → K → Ordering) → IsTotalOrder cmp → (test : K → Bool) (k : K) (xs : List K)
    → Ascends (λ q r. is_lt (cmp q r)) xs → find test xs ≡ Some k → replace_key cmp xs k ≡ xs
put_again cmp total test k [] order found = absurd (search (rules, found))
put_again {K} cmp total test k (x ∷ xs) order found = go (test x) refl found (put_again cmp total test k xs order.1)
  where
    go : (b : Bool) → test x ≡ b → cond b (Some x) (find test xs) ≡ Some k
        → (find test xs ≡ Some k → replace_key cmp xs k ≡ xs) → replace_key cmp (x ∷ xs) k ≡ x ∷ xs
    go true e f later =
        let same : x ≡ k = some_is x k f in
        let compares_equal : cmp k x ≡ Equal = ap (λ y. cmp k y) same ∙ itself (cmp k k) (total.antisymm k k) in
        ap (λ o. match_ordering o (k ∷ x ∷ xs) (k ∷ xs) (x ∷ replace_key cmp xs k)) compares_equal ∙ ap (λ y. y ∷ xs) (sym same)
    go false e f later =
        let before : is_lt (cmp x k) ≡ true = all_found (λ y. is_lt (cmp x y) ≡ true) test k xs f order.0 in
        let after : cmp k x ≡ Greater = total.antisymm k x ∙ ap ordering_reverse (is_less (cmp x k) before) in
        ap (λ o. match_ordering o (k ∷ x ∷ xs) (k ∷ xs) (x ∷ replace_key cmp xs k)) after ∙ ap (λ ys. x ∷ ys) (later f)

-- one that is added is among them
pub any_added : {K : Type 0} (cmp : K → K → Ordering) (test : K → Bool) (k : K) (xs : List K) → test k ≡ true
    → ((x : K) → cmp k x ≡ Equal → test x ≡ true) → list_any test (insert_key cmp xs k) ≡ true
any_added cmp test k [] here tie = ap (λ b. b || false) here
any_added {K} cmp test k (x ∷ xs) here tie = go (cmp k x) refl (any_added cmp test k xs here tie)
  where
    or_true : (a : Bool) → (a || true) ≡ true
    or_true true = refl
    or_true false = refl

    go : (o : Ordering) → cmp k x ≡ o → list_any test (insert_key cmp xs k) ≡ true
        → list_any test (match_ordering o (k ∷ x ∷ xs) (x ∷ xs) (x ∷ insert_key cmp xs k)) ≡ true
    go Less e later = ap (λ b. b || list_any test (x ∷ xs)) here
    go Equal e later = ap (λ b. b || list_any test xs) (tie x e)
    go Greater e later = ap (λ b. test x || b) later ∙ or_true (test x)

-- none is left of those that are left out
pub none_left : {K : Type 0} (test : K → Bool) (xs : List K) → list_any test (filter (λ x. not (test x)) xs) ≡ false
none_left test [] = refl
none_left {K} test (x ∷ xs) = go (test x) refl (none_left test xs)
  where
    go : (b : Bool) → test x ≡ b → list_any test (filter (λ y. not (test y)) xs) ≡ false
        → list_any test (cond (not b) (x ∷ filter (λ y. not (test y)) xs) (filter (λ y. not (test y)) xs)) ≡ false
    go true e later = later
    go false e later = ap (λ b. b || list_any test (filter (λ y. not (test y)) xs)) e ∙ later

pub none_found : {K : Type 0} (test other : K → Bool) → ((x : K) → other x ≡ false → test x ≡ false) → (xs : List K)
    → find test (filter (λ x. not (other x)) xs) ≡ None
none_found test other alike [] = refl
none_found {K} test other alike (x ∷ xs) = go (other x) refl (none_found test other alike xs)
  where
    go : (b : Bool) → other x ≡ b → find test (filter (λ y. not (other y)) xs) ≡ None
        → find test (cond (not b) (x ∷ filter (λ y. not (other y)) xs) (filter (λ y. not (other y)) xs)) ≡ None
    go true e later = later
    go false e later = ap (λ b. cond b (Some x) (find test (filter (λ y. not (other y)) xs))) (alike x e) ∙ later
