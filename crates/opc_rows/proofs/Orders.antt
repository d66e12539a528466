-- What keeps a list in order.
use Rattle.std.specs.List.{IsAllAdjacentAnswer}
use Rattle.std.proofs.Common.{
  ℕ,
  arith,
  sym,
  add-one,
  zero,
  suc,
  ◌+◌,
  ◌<◌,
  length,
  get_or,
  MatchBool,
  ◌||◌,
  ◌≡◌,
  Some,
  Bool,
  true,
  false,
  cond,
  List,
  [],
  ◌∷◌,
  map,
  refl,
  ap,
  ◌∙◌,
  subst,
}
use Rattle.std.specs.List.{AllByRecursion, filter, find, list_any}
use Rattle.std.specs.Option.{is_some}
use Rattle.std.proofs.lemmas.Bool.{false≢true}
use Rattle.opc_rows.specs.Ordered.{Ascends, put, changed}

-- what holds of each element

pub all_weaker : {A : Type 0} (P Q : A → Type 0) → ((x : A) → P x → Q x) → (xs : List A) → AllByRecursion P xs → AllByRecursion Q xs
all_weaker P Q f [] all = tt
all_weaker P Q f (x ∷ xs) all = (f x all.0, all_weaker P Q f xs all.1)

pub all_filter : {A : Type 0} (P : A → Type 0) (p : A → Bool) (xs : List A) → AllByRecursion P xs → AllByRecursion P (filter p xs)
all_filter P p [] all = tt
all_filter P p (x ∷ xs) all = elim (p x) as (λ b. AllByRecursion P (cond b (x ∷ filter p xs) (filter p xs)))
    [ true ↦ (all.0, all_filter P p xs all.1) | false ↦ all_filter P p xs all.1 ]

pub all_map : {A : Type 0} (P Q : A → Type 0) (f : A → A) → ((x : A) → P x → Q (f x)) → (xs : List A) → AllByRecursion P xs → AllByRecursion Q (map f xs)
all_map P Q f keeps [] all = tt
all_map P Q f keeps (x ∷ xs) all = (keeps x all.0, all_map P Q f keeps xs all.1)

pub all_changed : {A : Type 0} (P : A → Type 0) (p : A → Bool) (f : A → A) → ((x : A) → p x ≡ true → P x → P (f x))
    → (xs : List A) → AllByRecursion P xs → AllByRecursion P (changed p f xs)
all_changed P p f keeps [] all = tt
all_changed P p f keeps (x ∷ xs) all = elim (p x) as
    (λ b. p x ≡ b → AllByRecursion P (cond b (f x ∷ xs) (x ∷ changed p f xs)))
    [ true ↦ λ here. (keeps x here all.0, all.1) | false ↦ λ here. (all.0, all_changed P p f keeps xs all.1) ] refl

pub all_put : {A : Type 0} (P : A → Type 0) (before : A → A → Bool) (x : A) → P x → (xs : List A) → AllByRecursion P xs → AllByRecursion P (put before x xs)
all_put P before x here [] all = (here, tt)
all_put P before x here (y ∷ ys) all = elim (before x y) as
    (λ b. AllByRecursion P (cond b (x ∷ y ∷ ys) (y ∷ put before x ys)))
    [ true ↦ (here, (all.0, all.1)) | false ↦ (all.0, all_put P before x here ys all.1) ]

-- the order

pub ascends_filter : {A : Type 0} (before : A → A → Bool) (p : A → Bool) (xs : List A) → Ascends before xs → Ascends before (filter p xs)
ascends_filter before p [] order = tt
ascends_filter before p (x ∷ xs) order = elim (p x) as (λ b. Ascends before (cond b (x ∷ filter p xs) (filter p xs))) [
  | true ↦ (all_filter (λ y. before x y ≡ true) p xs order.0, ascends_filter before p xs order.1)
  | false ↦ ascends_filter before p xs order.1
]

-- a change that the order does not notice
pub ascends_map : {A : Type 0} (before : A → A → Bool) (f : A → A) → ((x y : A) → before (f x) (f y) ≡ before x y)
    → (xs : List A) → Ascends before xs → Ascends before (map f xs)
ascends_map before f blind [] order = tt
ascends_map before f blind (x ∷ xs) order = (
  all_map (λ y. before x y ≡ true) (λ y. before (f x) y ≡ true) f (λ y e. blind x y ∙ e) xs order.0,
  ascends_map before f blind xs order.1,
)

pub ascends_changed : {A : Type 0} (before : A → A → Bool) (p : A → Bool) (f : A → A)
    → ((x y : A) → p x ≡ true → before (f x) y ≡ before x y) → ((x y : A) → p y ≡ true → before x (f y) ≡ before x y)
    → (xs : List A) → Ascends before xs → Ascends before (changed p f xs)
ascends_changed before p f left right [] order = tt
ascends_changed before p f left right (x ∷ xs) order = elim (p x) as (λ b. p x ≡ b → Ascends before (cond b (f x ∷ xs) (x ∷ changed p f xs))) [
  | true ↦ λ here. (all_weaker (λ y. before x y ≡ true) (λ y. before (f x) y ≡ true) (λ y e. left x y here ∙ e) xs order.0, order.1)
  | false ↦ λ here. (all_changed (λ y. before x y ≡ true) p f (λ y there e. right x y there ∙ e) xs order.0, ascends_changed before p f left right xs order.1)
] refl

module _ {A : Type 0} (before : A → A → Bool) (trans : (x y z : A) → before x y ≡ true → before y z ≡ true → before x z ≡ true) where
  -- an element put in its place, if each element is before or after it
  pub ascends_put : (x : A) (xs : List A) → AllByRecursion (λ y. before x y ≡ false → before y x ≡ true) xs
      → Ascends before xs → Ascends before (put before x xs)
  ascends_put x [] apart order = (tt, tt)
  ascends_put x (y ∷ ys) apart order = elim (before x y) as (λ b. before x y ≡ b → Ascends before (cond b (x ∷ y ∷ ys) (y ∷ put before x ys))) [
    | true ↦ λ e. ((e, all_weaker (λ z. before y z ≡ true) (λ z. before x z ≡ true) (λ z f. trans x y z e f) ys order.0), (order.0, order.1))
    | false ↦ λ e. (all_put (λ z. before y z ≡ true) before x (apart.0 e) ys order.0, ascends_put x ys apart.1 order.1)
  ] refl

-- look-ups

pub find_put : {A : Type 0} (p : A → Bool) (before : A → A → Bool) (x : A) (xs : List A) → is_some (find p xs) ≡ true
    → is_some (find p (put before x xs)) ≡ true
find_put p before x [] = λ there. absurd (cc)
find_put p before x (y ∷ ys) =
    elim (before x y) as (λ b. is_some (find p (y ∷ ys)) ≡ true → is_some (find p (cond b (x ∷ y ∷ ys) (y ∷ put before x ys))) ≡ true) [
      | true ↦ λ there. elim (p x) as (λ b. is_some (cond b (Some x) (find p (y ∷ ys))) ≡ true) [ true ↦ refl | false ↦ there ]
      | false ↦ elim (p y) as (λ b. is_some (cond b (Some y) (find p ys)) ≡ true
          → is_some (cond b (Some y) (find p (put before x ys))) ≡ true)
          [ true ↦ λ there. refl | false ↦ find_put p before x ys ]
    ]

pub find_filter : {A : Type 0} (p q : A → Bool) → ((x : A) → p x ≡ true → q x ≡ true) → (xs : List A)
    → is_some (find p xs) ≡ true → is_some (find p (filter q xs)) ≡ true
find_filter p q kept [] = λ there. absurd (cc)
find_filter p q kept (x ∷ xs) = elim (q x) as
    (λ c. q x ≡ c → is_some (cond (p x) (Some x) (find p xs)) ≡ true
    → is_some (find p (cond c (x ∷ filter q xs) (filter q xs))) ≡ true) [
      | true ↦ λ e. elim (p x) as (λ b. is_some (cond b (Some x) (find p xs)) ≡ true
          → is_some (cond b (Some x) (find p (filter q xs))) ≡ true)
          [ true ↦ λ there. refl | false ↦ find_filter p q kept xs ]
      | false ↦ λ e. elim (p x) as (λ b. p x ≡ b → is_some (cond b (Some x) (find p xs)) ≡ true
          → is_some (find p (filter q xs)) ≡ true) [
            | true ↦ λ here there. let kept_here : q x ≡ true =
                kept x here in absurd (cc)
            | false ↦ λ here. find_filter p q kept xs
          ] refl
    ] refl

-- none is found: the test fails of each
pub find_none : {A : Type 0} (p : A → Bool) (xs : List A) → is_some (find p xs) ≡ false → AllByRecursion (λ x. p x ≡ false) xs
find_none p [] = λ nowhere. tt
find_none p (x ∷ xs) = elim (p x) as (λ b. p x ≡ b → is_some (cond b (Some x) (find p xs)) ≡ false → (p x ≡ false) × AllByRecursion (λ x. p x ≡ false) xs) [
  | true ↦ λ here nowhere. absurd (cc)
  | false ↦ λ here nowhere. (here, find_none p xs nowhere)
] refl

-- what holds of each element holds of what is found
pub all_found : {A : Type 0} (P : A → Type 0) (p : A → Bool) (y : A) (xs : List A) → find p xs ≡ Some y → AllByRecursion P xs → P y
all_found P p y [] = λ at all. absurd (cc)
all_found P p y (x ∷ xs) = elim (p x) as (λ b. cond b (Some x) (find p xs) ≡ Some y → AllByRecursion P (x ∷ xs) → P y) [
  | true ↦ λ at all. let same : x ≡ y = cc in subst P same all.0
  | false ↦ λ at all. all_found P p y xs at all.1
]

-- a change that a look-up does not notice
pub find_changed : {A : Type 0} (p q : A → Bool) (f : A → A) → ((x : A) → q x ≡ true → p (f x) ≡ p x) → (xs : List A)
    → is_some (find p (changed q f xs)) ≡ is_some (find p xs)
find_changed p q f blind [] = refl
find_changed p q f blind (x ∷ xs) = elim (q x) as (λ b. q x ≡ b → is_some (find p (cond b (f x ∷ xs) (x ∷ changed q f xs))) ≡ is_some (find p (x ∷ xs))) [
  | true ↦ λ here. rw (blind x here) (elim (p x) as
      (λ b. is_some (cond b (Some (f x)) (find p xs)) ≡ is_some (cond b (Some x) (find p xs)))
      [ true ↦ refl | false ↦ refl ])
  | false ↦ λ here. elim (p x) as (λ b. is_some (cond b (Some x) (find p (changed q f xs))) ≡ is_some
      (cond b (Some x) (find p xs))) [ true ↦ refl | false ↦ find_changed p q f blind xs ]
] refl

-- the first of a kind is the only one
not_changed : {A : Type 0} (p : A → Bool) (f : A → A) (xs : List A) → AllByRecursion (λ x. p x ≡ false) xs → xs ≡ map (λ x. cond (p x) (f x) x) xs
not_changed p f [] none = refl
not_changed p f (x ∷ xs) none = let here : p x ≡ false = none.0 in rw here (ap (λ ws. x ∷ ws) (not_changed p f xs none.1))

pub changed_is_map : {A : Type 0} (before : A → A → Bool) (p : A → Bool) (f : A → A)
    → ((x y : A) → p x ≡ true → before x y ≡ true → p y ≡ false) → (xs : List A) → Ascends before xs
    → changed p f xs ≡ map (λ x. cond (p x) (f x) x) xs
changed_is_map before p f once [] order = refl
changed_is_map before p f once (x ∷ xs) order =
    elim (p x) as (λ b. p x ≡ b → cond b (f x ∷ xs) (x ∷ changed p f xs) ≡ cond b (f x) x
    ∷ map (λ x. cond (p x) (f x) x) xs) [
      | true ↦ λ here. ap (λ ws. f x ∷ ws)
          (not_changed p f xs (all_weaker (λ y. before x y ≡ true) (λ y. p y ≡ false) (λ y after. once x y here after)
          xs order.0))
      | false ↦ λ here. ap (λ ws. x ∷ ws) (changed_is_map before p f once xs order.1)
    ] refl

pub any_of_map : {A : Type 0} (q : A → Bool) (f : A → A) (xs : List A) → list_any q (map f xs) ≡ list_any (λ x. q (f x)) xs
any_of_map q f [] = refl
any_of_map q f (x ∷ xs) = ap (λ b. q (f x) || b) (any_of_map q f xs)

-- neighbours in order, and all in order

module _ {A : Type 0} (before : A → A → Bool) (trans : (x y z : A) → before x y ≡ true → before y z ≡ true → before x z ≡ true) where
  rises : (x : A) (xs : List A) → ((k : ℕ) (d : A) → suc k < length (x ∷ xs)
      → before (get_or (x ∷ xs) k d) (get_or (x ∷ xs) (suc k) d) ≡ true) → Ascends before (x ∷ xs)
  rises x [] pairs = (tt, tt)
  rises x (y ∷ ys) pairs =
      let rest : Ascends before (y ∷ ys) = rises y ys (λ k d lt. pairs (suc k) d (omega arith)) in
      let here : before x y ≡ true = pairs 0 x (omega arith) in
      ((here, all_weaker (λ z. before y z ≡ true) (λ z. before x z ≡ true) (λ z after. trans x y z here after) ys rest.0), rest)

  pub falls : (xs : List A) (k : ℕ) (d : A) → Ascends before xs → suc k < length xs → before (get_or xs k d) (get_or xs (suc k) d) ≡ true
  falls [] k d order within = absurd (omega arith)
  falls (x ∷ []) k d order within = absurd (omega arith)
  falls (x ∷ (y ∷ ys)) zero d order within = order.0.0
  falls (x ∷ (y ∷ ys)) (suc k) d order within = falls (y ∷ ys) k d order.1 (omega arith)

  pub ascends_or_not : (xs : List A) (r : Bool) → IsAllAdjacentAnswer (λ x y b. b ≡ before x y) xs r → MatchBool r (Ascends before xs) (Ascends before xs → ⊥)
  ascends_or_not [] true pairs = tt
  ascends_or_not (x ∷ xs) true pairs = rises x xs (λ k d lt. let within : k + 1 < length (x ∷ xs) = omega arith in sym (rw add-one at (pairs k d within)))
  ascends_or_not [] false (k, within, differ) = absurd (omega arith)
  ascends_or_not (x ∷ xs) false (k, within, differ) =
      λ order. let fell : false ≡ before (get_or (x ∷ xs) k x) (get_or (x ∷ xs) (suc k) x) =
      rw add-one at (differ x) in let rose : before (get_or (x ∷ xs) k x) (get_or (x ∷ xs) (suc k) x) ≡ true =
      falls (x ∷ xs) k x order (omega arith) in absurd (false≢true (fell ∙ rose))
