-- Maps whose values determine their keys, as the lists of their values.
use Rattle.std.proofs.Common.{◌≡◌, refl, sym, ap, ◌∙◌, Bool, true, false, cond, List, [], ◌∷◌, Some, None}
use Rattle.std.specs.BTreeMap.{insert_entry, is_at}
use Rattle.std.specs.BTreeSet.{replace_key}
use Rattle.std.specs.Prelude.{find}
use Rattle.std.specs.List.{AllByRecursion}
use Rattle.std.specs.Cmp.{IsTotalOrder}
use Rattle.std.specs.List.Sorted.{IsStrictlySortedBy}
use Rattle.std.specs.Map.{keys_of, lookup, set_value, values_of}
use Rattle.std.specs.Ordering.{is_eq, match_ordering}
use Rattle.std.proofs.lemmas.Map.{lookup-none}
use Rattle.std.proofs.lemmas.Map.Entries.{none_below_head}
use Rattle.std.proofs.lemmas.Map.Keys.{sorted_tail}
use Rattle.std.specs.declared.cmp.Ordering.{Ordering}
use Rattle.std.specs.declared.cmp.Ordering.TheVariants.{Less, Equal, Greater}

-- a look-up by a key finds what the values' own test does
pub lookup-values : {K X : Type 0} (test : K → Bool) (p : X → Bool) (es : List (K × X))
    → AllByRecursion (λ e. test e.0 ≡ p e.1) es → lookup test es ≡ find p (values_of es)
lookup-values test p [] h = refl
lookup-values test p (e ∷ es) h = rw (h.0, lookup-values test p es h.1) refl

-- an insertion by a key is one in the order of the values
pub values-insert : {K X : Type 0} (key_cmp : K → K → Ordering) (cmp : X → X → Ordering) (k : K) (v : X)
    (es : List (K × X)) → AllByRecursion (λ e. key_cmp k e.0 ≡ cmp v e.1) es
    → values_of (insert_entry key_cmp es k v) ≡ replace_key cmp (values_of es) v
values-insert key_cmp cmp k v [] h = refl
values-insert {K} {X} key_cmp cmp k v (e ∷ es) h = go (key_cmp k e.0) (cmp v e.1) h.0 (values-insert key_cmp cmp k v es h.1)
  where
    go : (o q : Ordering) → o ≡ q → values_of (insert_entry key_cmp es k v) ≡ replace_key cmp (values_of es) v
        → values_of (match_ordering o ((k, v) ∷ e ∷ es) ((e.0, v) ∷ es) (e ∷ insert_entry key_cmp es k v))
        ≡ match_ordering q (v ∷ e.1 ∷ values_of es) (v ∷ values_of es) (e.1 ∷ replace_key cmp (values_of es) v)
    go o Less same later = rw same refl
    go o Equal same later = rw same refl
    go o Greater same later = rw same (ap (λ vs. e.1 ∷ vs) later)

-- what holds of each entry still does after an insertion
pub All-insert : {K X : Type 0} (P : K × X → Type 0) (key_cmp : K → K → Ordering) (k : K) (v : X) (es : List (K × X))
    → P (k, v) → ((e : K × X) → key_cmp k e.0 ≡ Equal → P (e.0, v)) → AllByRecursion P es
    → AllByRecursion P (insert_entry key_cmp es k v)
All-insert P key_cmp k v [] new same h = (new, tt)
All-insert P key_cmp k v (e ∷ es) new same h = go (key_cmp k e.0) (same e) (All-insert P key_cmp k v es new same h.1)
  where
    go : (o : Ordering) → (o ≡ Equal → P (e.0, v)) → AllByRecursion P (insert_entry key_cmp es k v)
        → AllByRecursion P (match_ordering o ((k, v) ∷ e ∷ es) ((e.0, v) ∷ es) (e ∷ insert_entry key_cmp es k v))
    go Less at later = (new, h)
    go Equal at later = (at refl, h.1)
    go Greater at later = (h.0, later)

-- what each element has, each has in another form
pub All-weaker : {X : Type 0} (P Q : X → Type 0) → ((x : X) → P x → Q x) → (xs : List X) → AllByRecursion P xs → AllByRecursion Q xs
All-weaker P Q f [] h = tt
All-weaker P Q f (x ∷ xs) h = (f x h.0, All-weaker P Q f xs h.1)

some_none : {X : Type 0} {x : X} → Some x ≡ None → ⊥
some_none e = (cc)

-- a value written at a key that is there is one inserted at it
pub set-insert : {K X : Type 0} {key_cmp : K → K → Ordering} → IsTotalOrder key_cmp
    → (k : K) (v old : X) (es : List (K × X)) → IsStrictlySortedBy key_cmp (keys_of es)
    → lookup (is_at (key_cmp k)) es ≡ Some old → set_value (is_at (key_cmp k)) es v ≡ insert_entry key_cmp es k v
set-insert order k v old [] sorted found = (cc)
set-insert {K} {X} {key_cmp} order k v old (e ∷ es) sorted found =
    go (key_cmp k e.0) refl (λ later. set-insert order k v old es (sorted_tail key_cmp e.0 (keys_of es) sorted) later)
  where
    go : (o : Ordering) → key_cmp k e.0 ≡ o
        → (lookup (is_at (key_cmp k)) es ≡ Some old → set_value (is_at (key_cmp k)) es v ≡ insert_entry key_cmp es k v)
        → cond (is_eq o) ((e.0, v) ∷ es) (e ∷ set_value (is_at (key_cmp k)) es v) ≡ match_ordering o ((k, v) ∷ e ∷ es)
        ((e.0, v) ∷ es) (e ∷ insert_entry key_cmp es k v)
    go Less at later = absurd (some_none (sym found ∙ lookup-none (is_at (key_cmp k)) (e ∷ es) (none_below_head order k e es sorted at)))
    go Equal at later = refl
    go Greater at later = ap (λ fs. e ∷ fs) (later (sym (rw at refl) ∙ found))

-- what a test finds passes it
pub passes-find : {X : Type 0} (p : X → Bool) (x : X) (xs : List X) → find p xs ≡ Some x → p x ≡ true
passes-find p x [] found = (cc)
passes-find p x (y ∷ ys) found = go (p y) refl found (passes-find p x ys)
  where
    go : (b : Bool) → p y ≡ b → cond b (Some y) (find p ys) ≡ Some x → (find p ys ≡ Some x → p x ≡ true) → p x ≡ true
    go true at same later = let e : y ≡ x = cc in ap p (sym e) ∙ at
    go false at same later = later same

-- of two that are put in one place, the second stays
pub replaced-twice : {X : Type 0} (cmp : X → X → Ordering) (v w : X) → ((x : X) → cmp w x ≡ cmp v x) → cmp w v ≡ Equal
    → (xs : List X) → replace_key cmp (replace_key cmp xs v) w ≡ replace_key cmp xs w
replaced-twice cmp v w alike tie [] = rw tie refl
replaced-twice {X} cmp v w alike tie (x ∷ xs) = go (cmp v x) refl (replaced-twice cmp v w alike tie xs)
  where
    go : (o : Ordering) → cmp v x ≡ o → replace_key cmp (replace_key cmp xs v) w ≡ replace_key cmp xs w
        → replace_key cmp (match_ordering o (v ∷ x ∷ xs) (v ∷ xs) (x ∷ replace_key cmp xs v)) w ≡ match_ordering
        (cmp w x) (w ∷ x ∷ xs) (w ∷ xs) (x ∷ replace_key cmp xs w)
    go Less at later = rw (tie, alike x, at) refl
    go Equal at later = rw (tie, alike x, at) refl
    go Greater at later = rw (alike x, at) (ap (λ ys. x ∷ ys) later)
