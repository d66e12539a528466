-- Words separated at a space, and put together again.
use Rattle.std.proofs.Common.{
  ◌≡◌,
  ◌<◌,
  ◌+◌,
  ◌&&◌,
  ℕ,
  suc,
  Bool,
  true,
  false,
  not,
  List,
  [],
  ◌∷◌,
  ◌++◌,
  Option,
  Some,
  None,
  length,
  take,
  drop,
  get_or,
  refl,
  subst,
  rules,
  arith,
  nat_lt,
  if◌then◌else◌,
}
use Rattle.std.proofs.lemmas.Bool.{lt-ltb, le-ltb}
use Rattle.std.proofs.lemmas.Bool.Decides.{nat_tests}
use Rattle.std.proofs.lemmas.Slice.Eq.{bytes_eq-Decides}
use Rattle.std.proofs.lemmas.List.{length-append, append-nil}
use Rattle.std.proofs.Math.Seq.{take-append_seam, drop-append-add}
use Rattle.std.specs.List.{list_all, position_or_len}
use Rattle.std.specs.Option.{option_map}
use Rattle.std.specs.Str.{bytes_eq}
use Rattle.std.proofs.lemmas.List.Sums.{split_at_first, passes_at_first}
use Rattle.opc_names.specs.declared.rule.NameRule.{NameRule}
use Rattle.opc_names.specs.Names.{name_fault}
use Rattle.opc_cli_script.specs.Events.{IsName}
use Rattle.opc_cli_script.specs.Reading.{◌>>=◌, is_space, separated, name_in}

pub bytes_same : (a b : List ℕ) → bytes_eq a b ≡ true → a ≡ b
bytes_same a b h = search (rules, bytes_eq-Decides)

pub bind_some : {A B : Type 0} (x : Option A) (f : A → Option B) (b : B) → (x >>= f) ≡ Some b → (a : A) × (x ≡ Some a) × (f a ≡ Some b)
bind_some (Some a) f b h = (a, refl, h)
bind_some None f b h = absurd (search (rules, h))

pub mapped : {A B : Type 0} (f : A → B) (x : Option A) (b : B) → option_map f x ≡ Some b → (a : A) × (x ≡ Some a) × (f a ≡ b)
mapped f (Some a) b h = (a, refl, search (rules, h))
mapped f None b h = absurd (search (rules, h))

pub name_is : (rule : NameRule) (text name : List ℕ) → name_in rule text ≡ Some name → IsName rule name × (text ≡ name)
name_is rule text name h = go (name_fault rule text) refl
  where
    go : (o : _) → name_fault rule text ≡ o → IsName rule name × (text ≡ name)
    go None e =
        let same : text ≡ name = search (rules, h, e) in
        (subst (λ t. name_fault rule t ≡ None) same e, same)
    go (Some fault) e = absurd (search (rules, h, e))

chosen : {A B : Type 0} (b : Bool) (f : A → B) (x : A) (y : B) → option_map f (if b then Some x else None) ≡ Some y → (b ≡ true) × (f x ≡ y)
chosen true f x y h = (refl, search (rules, h))
chosen false f x y h = absurd (search (rules, h))

is_32 : (c : ℕ) → is_space c ≡ true → c ≡ 32
is_32 c h = grind (arith, nat_tests)

-- the two words stand around a space
pub separated_is : (text : List ℕ) (words : List ℕ × List ℕ) → separated text ≡ Some words → text ≡ words.0 ++ 32 ∷ words.1
separated_is text words h =
    let c = chosen (nat_lt (position_or_len is_space text) (length text)) (λ at. (take at text, drop (at + 1) text)) (position_or_len is_space text) words h in
    let low : position_or_len is_space text < length text = grind (arith, nat_tests, c.0) in
    let at : get_or text (position_or_len is_space text) 0 ≡ 32 = is_32 _ (passes_at_first is_space text 0 low) in
    let parts : text ≡ take (position_or_len is_space text) text ++ get_or text (position_or_len is_space text) 0
    ∷ drop (position_or_len is_space text + 1) text = split_at_first is_space text 0 low in
    subst (λ w. text ≡ w.0 ++ 32 ∷ w.1) c.1
    (subst (λ x. text ≡ take (position_or_len is_space text) text ++ x
    ∷ drop (position_or_len is_space text + 1) text) at parts)

-- no space in a word
abbrev pub IsWord : List ℕ → Type 0
IsWord word = list_all (λ c. not (is_space c)) word ≡ true

-- the place of the first space, if it stands after a word, or nowhere
abbrev IsAt : List ℕ → List ℕ → Type 0
IsAt word rest = position_or_len is_space (word ++ rest) ≡ length word

further : (c : ℕ) (word rest : List ℕ) (b : Bool) → is_space c ≡ b
    → (not b && list_all (λ c. not (is_space c)) word) ≡ true → (IsWord word → IsAt word rest) → IsAt (c ∷ word) rest
further c word rest true e h next = absurd (search (rules, h))
further c word rest false e h next = rw e (omega (arith, next h))

pub first_space : (word rest : List ℕ) → IsWord word → IsAt word (32 ∷ rest)
first_space [] rest h = refl
first_space (c ∷ word) rest h = further c word (32 ∷ rest) (is_space c) refl h (first_space word rest)

pub no_space : (word : List ℕ) → IsWord word → IsAt word []
no_space [] h = refl
no_space (c ∷ word) h = further c word [] (is_space c) refl h (no_space word)

pub separated_back : (word rest : List ℕ) → IsWord word → separated (word ++ 32 ∷ rest) ≡ Some (word, rest)
separated_back word rest h =
    let at : position_or_len is_space (word ++ 32 ∷ rest) ≡ length word = first_space word rest h in
    let long : length (word ++ 32 ∷ rest) ≡ length word + suc (length rest) = length-append word (32 ∷ rest) in
    let low : nat_lt (length word) (length (word ++ 32 ∷ rest)) ≡ true = lt-ltb _ _ (omega (arith, long)) in
    let prefix : take (length word) (word ++ 32 ∷ rest) ≡ word = take-append_seam word (32 ∷ rest) in
    let back : drop (length word + 1) (word ++ 32 ∷ rest) ≡ rest = drop-append-add word (32 ∷ rest) 1 in
    rw (at, low, prefix, back) refl

pub separated_none : (word : List ℕ) → IsWord word → separated word ≡ None
separated_none word h =
    let at : position_or_len is_space word ≡ length word = subst (λ t. position_or_len is_space t ≡ length word) (append-nil word) (no_space word h) in
    let high : nat_lt (length word) (length word) ≡ false = le-ltb _ _ (omega arith) in
    rw (at, high) refl
