-- A query whose rows are taken one at a time, up to the first that passes.
use Rattle.std.proofs.Common.{
  ◌≡◌,
  ℕ,
  ◌+◌,
  List,
  [],
  ◌∷◌,
  ◌++◌,
  map,
  find,
  length,
  Bool,
  true,
  false,
  Some,
  None,
  refl,
  sym,
  ap,
  ◌∙◌,
  arith,
  append_assoc,
  append-nil,
  length-append,
  ap₂,
}
use Rattle.std.proofs.lemmas.List.{map-append}
use Rattle.std.specs.List.{AllByRecursion}
use Rattle.sqlite.specs.Order.{Row}
use Rattle.opc_store_sql.specs.Taken.{taken_for}

-- these are the members whose rows were taken so far, and none passes
pub record HasTaken {X : Type 0} (row : X → Row) (p : X → Bool) (xs : List X) (given : List Row) (n : ℕ) : Type 0 where
  pub prefix : List X
  pub rest : List X
  pub whole : xs ≡ prefix ++ rest
  pub are : given ≡ map row prefix
  pub many : length prefix ≡ n
  pub none : AllByRecursion (λ x. p x ≡ false) prefix

find_past : {X : Type 0} (p : X → Bool) (prefix rest : List X) → AllByRecursion (λ x. p x ≡ false) prefix
    → (find p (prefix ++ rest) ≡ find p rest) × (taken_for p (prefix ++ rest) ≡ length prefix + taken_for p rest)
find_past p [] rest h = (refl, omega arith)
find_past p (x ∷ prefix) rest h = let more = find_past p prefix rest h.1 in (rw h.0 more.0, rw h.0 (rw more.1 (omega arith)))

all_push : {X : Type 0} (P : X → Type 0) (xs : List X) (x : X) → AllByRecursion P xs → P x → AllByRecursion P (xs ++ x ∷ [])
all_push P [] x h p = (p, tt)
all_push P (y ∷ xs) x h p = (h.0, all_push P xs x h.1 p)

module _ {X : Type 0} (row : X → Row) (p : X → Bool) (xs : List X) where
  pub none_taken : HasTaken row p xs [] 0
  none_taken = record { prefix = []; rest = xs; whole = refl; are = refl; many = refl; none = tt }

  cancel : {Y : Type 0} (prefix ys zs : List Y) → prefix ++ ys ≡ prefix ++ zs → ys ≡ zs
  cancel [] ys zs e = e
  cancel (f ∷ prefix) ys zs e = cancel prefix ys zs (let t : prefix ++ ys ≡ prefix ++ zs = cc in t)

  rest_is : (given more : List Row) (n : ℕ) (h : HasTaken row p xs given n) → map row xs ≡ given ++ more → map row h.rest ≡ more
  rest_is given more n h all =
      let split : map row h.prefix ++ map row h.rest ≡ map row h.prefix ++ more =
      sym (map-append row h.prefix h.rest)
      ∙ (ap (map row) (sym h.whole) ∙ (all ∙ ap (λ (l : List Row). l ++ more) h.are)) in
      cancel (map row h.prefix) (map row h.rest) more split

  -- the rows were all
  pub taken_all : (given : List Row) (n : ℕ) → HasTaken row p xs given n → map row xs ≡ given → (None ≡ find p xs) × (n ≡ taken_for p xs)
  taken_all given n h all = go h.rest h.whole (rest_is given [] n h (all ∙ sym (append-nil given)))
    where
      go : (rest : List X) → xs ≡ h.prefix ++ rest → map row rest ≡ [] → (None ≡ find p xs) × (n ≡ taken_for p xs)
      go [] whole e =
          let past = find_past p h.prefix [] h.none in
          (sym past.0 ∙ ap (find p) (sym whole), let many = h.many in let all = past.1 in let same = ap (taken_for p) whole in omega arith)
      go (x ∷ rest) whole e = absurd cc

  -- one more row
  pub record TakesOn (given : List Row) (y : Row) (n : ℕ) : Type 0 where
    pub x : X
    pub is : y ≡ row x
    pub passes : p x ≡ true → (Some x ≡ find p xs) × (n + 1 ≡ taken_for p xs)
    pub fails : p x ≡ false → HasTaken row p xs (given ++ y ∷ []) (n + 1)

  pub takes_on : (given tail : List Row) (y : Row) (n : ℕ) → HasTaken row p xs given n → map row xs ≡ given ++ y ∷ tail → TakesOn given y n
  takes_on given tail y n h all = go h.rest h.whole (rest_is given (y ∷ tail) n h all)
    where
      go : (rest : List X) → xs ≡ h.prefix ++ rest → map row rest ≡ y ∷ tail → TakesOn given y n
      go [] whole e = absurd cc
      go (x ∷ rest) whole e =
          let here : y ≡ row x = cc in
          let past = find_past p h.prefix (x ∷ rest) h.none in
          record {
            x = x;
            is = here;
            passes = λ yes.
                let found : find p (x ∷ rest) ≡ Some x = rw yes in
                let one : taken_for p (x ∷ rest) ≡ 1 = rw yes in
                (sym found ∙ (sym past.0 ∙ ap (find p) (sym whole)), let many = h.many in let all = past.1 in let same = ap (taken_for p) whole in omega arith);
            fails = λ no. record {
              prefix = h.prefix ++ x ∷ [];
              rest = rest;
              whole = whole ∙ sym (append_assoc h.prefix (x ∷ []) rest);
              are = ap₂ (λ (a : List Row) (b : Row). a ++ b ∷ []) h.are here ∙ sym (map-append row h.prefix (x ∷ []));
              many = let many = h.many in omega (arith, length-append h.prefix (x ∷ []));
              none = all_push (λ z. p z ≡ false) h.prefix x h.none no;
            };
          }
