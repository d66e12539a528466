-- One more row.
use Rattle.std.proofs.Common.{
  ◌≡◌,
  ◌<◌,
  ◌+◌,
  ℕ,
  Bool,
  true,
  false,
  cond,
  List,
  [],
  ◌∷◌,
  ◌++◌,
  Option,
  Some,
  None,
  get_or,
  is_some,
  length,
  take,
  drop,
  append_assoc,
  take-append-drop,
  refl,
  sym,
  ap,
  ◌∙◌,
}
use Rattle.std.specs.Prelude.{filter_map, if◌then◌else◌}
use Rattle.std.specs.List.{cons_option}
use Rattle.std.specs.Option.{option_or}
use Rattle.std.specs.Ordering.{is_eq}
use Rattle.std.specs.Str.{bytes_eq}
use Rattle.std.proofs.lemmas.List.{drop_more, take_more}
use Rattle.std.proofs.lemmas.List.Elements.{filter_map-append}
use Rattle.std.proofs.lemmas.Slice.Eq.{bytes_eq-Decides}
use Rattle.std.proofs.lemmas.Map.Text.{is_eq-slice_cmp}
use Rattle.opc_policy_members.specs.Members.{name_cmp}
use Rattle.opc_check_notes.specs.First.{first_of}

-- ---- what is found first

pub or_none : {B : Type 0} (a : Option B) → option_or a None ≡ a
or_none None = refl
or_none (Some b) = refl

or_or : {B : Type 0} (a b c : Option B) → option_or a (option_or b c) ≡ option_or (option_or a b) c
or_or None b c = refl
or_or (Some a) b c = refl

first_of-append : {A B : Type 0} (f : A → Option B) (xs : List A) (x : A) → first_of f (xs ++ x ∷ []) ≡ option_or (first_of f xs) (f x)
first_of-append f [] x = or_none (f x)
first_of-append f (y ∷ xs) x = ap (option_or (f y)) (first_of-append f xs x) ∙ or_or (f y) (first_of f xs) (f x)

pub first_of_more : {A B : Type 0} (f : A → Option B) (xs : List A) (i : ℕ) (d : A) → i < length xs
    → first_of f (take (i + 1) xs) ≡ option_or (first_of f (take i xs)) (f (get_or xs i d))
first_of_more f xs i d low = ap (first_of f) (take_more xs i d low) ∙ first_of-append f (take i xs) (get_or xs i d)

pub first_step : {A B : Type 0} (f : A → Option B) (xs : List A) (i : ℕ) (x : A) (old new : Option B) → i < length xs
    → x ≡ get_or xs i x → old ≡ first_of f (take i xs) → new ≡ option_or old (f x) → new ≡ first_of f (take (i + 1) xs)
first_step f xs i x old new low is was next =
    next ∙ ap (λ o. option_or o (f x)) was ∙ ap (λ y. option_or (first_of f (take i xs)) (f y)) is ∙ sym (first_of_more f xs i x low)

-- ---- what a map has at each key

bytes_same : (a b : List ℕ) → bytes_eq a b ≡ true → a ≡ b
bytes_same a b h = (bytes_eq-Decides a b).0 h

is_none_so : {B : Type 0} (a : Option B) → is_some a ≡ false → a ≡ None
is_none_so None none = refl
is_none_so (Some x) none = cc

not_some : {B : Type 0} (a : Option B) → is_some a ≡ true → a ≡ None → ⊥
not_some a some none = cc

pub stays : {B : Type 0} (k : List ℕ) (v : B) (old : List ℕ → Option B) → is_some (old k) ≡ true
    → (q : List ℕ) → old q ≡ option_or (old q) (if bytes_eq k q then Some v else None)
stays {B = B} k v old some q = go (old q) (bytes_eq k q) refl refl
  where
    go : (o : Option B) (b : Bool) → old q ≡ o → bytes_eq k q ≡ b → o ≡ option_or o (if b then Some v else None)
    go (Some x) b is same = refl
    go None false is same = refl
    go None true is same = absurd (not_some (old k) some (ap old (bytes_same k q same) ∙ is))

pub put_first : {B : Type 0} (k : List ℕ) (v : B) (old new : List ℕ → Option B) → is_some (old k) ≡ false
    → ((q : List ℕ) → new q ≡ cond (is_eq (name_cmp k q)) (Some v) (old q))
    → (q : List ℕ) → new q ≡ option_or (old q) (if bytes_eq k q then Some v else None)
put_first k v old new none put q =
    put q ∙ ap (λ b. cond b (Some v) (old q)) (is_eq-slice_cmp k q) ∙ go (bytes_eq k q) refl
  where
    go : (b : Bool) → bytes_eq k q ≡ b → cond b (Some v) (old q) ≡ option_or (old q) (if b then Some v else None)
    go false same = sym (or_none (old q))
    go true same = ap (λ o. option_or o (Some v)) (sym (is_none_so (old k) none) ∙ ap old (bytes_same k q same))

filter_map_more : {A B : Type 0} (f : A → Option B) (xs : List A) (i : ℕ) (d : A) → i < length xs
    → filter_map f (take (i + 1) xs) ≡ filter_map f (take i xs) ++ filter_map f (get_or xs i d ∷ [])
filter_map_more f xs i d low = ap (filter_map f) (take_more xs i d low) ∙ filter_map-append f (take i xs) (get_or xs i d ∷ [])

-- ---- what a search that stops early finds

first_of-both : {A B : Type 0} (f : A → Option B) (xs ys : List A) → first_of f (xs ++ ys) ≡ option_or (first_of f xs) (first_of f ys)
first_of-both f [] ys = refl
first_of-both f (x ∷ xs) ys = ap (option_or (f x)) (first_of-both f xs ys) ∙ or_or (f x) (first_of f xs) (first_of f ys)

pub first_found : {A B : Type 0} (f : A → Option B) (xs : List A) (i : ℕ) (x : A) (found : B) → i < length xs
    → x ≡ get_or xs i x → first_of f (take i xs) ≡ None → f x ≡ Some found → first_of f xs ≡ Some found
first_found f xs i x found low is before here =
    ap (first_of f) (sym (take-append-drop i xs) ∙ ap (λ r. take i xs ++ r) (drop_more xs i x low))
    ∙ first_of-both f (take i xs) (get_or xs i x ∷ drop (i + 1) xs)
    ∙ ap (λ o. option_or o (first_of f (get_or xs i x ∷ drop (i + 1) xs))) before
    ∙ ap (λ o. option_or o (first_of f (drop (i + 1) xs))) (ap f (sym is) ∙ here)

pub none_more : {A B : Type 0} (f : A → Option B) (xs : List A) (i : ℕ) (x : A) → i < length xs
    → x ≡ get_or xs i x → first_of f (take i xs) ≡ None → f x ≡ None → first_of f (take (i + 1) xs) ≡ None
none_more f xs i x low is before here =
    first_of_more f xs i x low ∙ ap (λ o. option_or o (f (get_or xs i x))) before ∙ ap f (sym is) ∙ here

pub found_step : {A B : Type 0} (f : A → Option B) (xs : List A) (i : ℕ) (x : A) (start old new : List B) (found : Option B)
    → i < length xs → x ≡ get_or xs i x → found ≡ f x → old ≡ start ++ filter_map f (take i xs) → new ≡ old ++ cons_option found []
    → new ≡ start ++ filter_map f (take (i + 1) xs)
found_step f xs i x start old new found low is what was next =
    next ∙ ap (λ l. l ++ cons_option found []) was ∙ append_assoc start (filter_map f (take i xs)) (cons_option found [])
    ∙ ap (λ l. start ++ l) (ap (λ o. filter_map f (take i xs) ++ cons_option o []) (what ∙ ap f is) ∙ sym (filter_map_more f xs i x low))
