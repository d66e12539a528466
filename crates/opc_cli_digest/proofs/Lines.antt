-- The line that is typed.
use Rattle.std.proofs.Common.{
  ◌≡◌,
  ◌≤◌,
  ◌<◌,
  ◌∙◌,
  ◌++◌,
  ◌∷◌,
  ◌==◌,
  ◌&&◌,
  ℕ,
  zero,
  suc,
  Bool,
  true,
  false,
  List,
  [],
  Option,
  Some,
  None,
  ap,
  length,
  not,
  refl,
  sym,
  slice_index,
  take,
  arith,
  rules,
}
use Rattle.std.specs.Io.KnownBytes.{Consumes, IsAtEnd, Keeps}
use Rattle.std.specs.List.{list_all}
use Rattle.std.specs.Str.{IsNotAscii}
use Rattle.std.proofs.lemmas.List.{append-nil, append_assoc, take_all, take_at}
use Rattle.opc_cli_digest.specs.Passwords.{IsPassword, IsTyped, most, through_feed}

pub no_password : (line : List ℕ) → IsNotAscii line → IsPassword line → ⊥
no_password line other is = omega (arith, other.1, is.0 other.0)

abbrev pub is_plain : List ℕ → Bool
is_plain typed = list_all (λ c. not (c == 10)) typed

-- without a line feed, all of it is the line
plain_through : (typed : List ℕ) → is_plain typed ≡ true → through_feed typed ≡ typed
plain_through [] plain = refl
plain_through (c ∷ typed) plain = go (c == 10) refl plain (plain_through typed)
  where
    go : (b : Bool) → (c == 10) ≡ b → (not b && is_plain typed) ≡ true → (is_plain typed ≡ true → through_feed typed ≡ typed)
        → through_feed (c ∷ typed) ≡ c ∷ typed
    go true e h more = absurd (search (rules, h))
    go false e h more = rw e (ap (λ t. c ∷ t) (more h))

-- up to a line feed
through_plain : (n : ℕ) (typed rest : List ℕ) → is_plain typed ≡ true → length typed < n
    → through_feed (take n (typed ++ 10 ∷ rest)) ≡ typed ++ 10 ∷ []
through_plain zero typed rest plain few = absurd (omega (arith, few))
through_plain (suc n) [] rest plain few = refl
through_plain (suc n) (c ∷ typed) rest plain few = go (c == 10) refl plain (through_plain n typed rest)
  where
    go : (b : Bool) → (c == 10) ≡ b → (not b && is_plain typed) ≡ true
        → (is_plain typed ≡ true → length typed < n → through_feed (take n (typed ++ 10 ∷ rest)) ≡ typed ++ 10 ∷ [])
        → through_feed (take (suc n) ((c ∷ typed) ++ 10 ∷ rest)) ≡ (c ∷ typed) ++ 10 ∷ []
    go true e h more = absurd (search (rules, h))
    go false e h more = rw e (ap (λ t. c ∷ t) (more h (omega (arith, few))))

-- What was typed is the line: the input ended,
pub typed_to_end : (a b : Option (List ℕ)) (typed : List ℕ) → Consumes a b typed → IsAtEnd b → is_plain typed ≡ true
    → length typed ≤ most → IsTyped a typed
typed_to_end None b typed read end plain few = tt
typed_to_end (Some all) None typed read end plain few = absurd read
typed_to_end (Some all) (Some rest) typed read end plain few =
    let is : all ≡ typed = read ∙ ap (λ (t : List ℕ). typed ++ t) end ∙ append-nil typed in
    sym (ap (λ (t : List ℕ). through_feed (take most t)) is ∙ ap through_feed (take_all most typed few) ∙ plain_through typed plain)

-- or there were as many bytes as are read,
pub typed_in_full : (a b : Option (List ℕ)) (typed : List ℕ) → Consumes a b typed → is_plain typed ≡ true
    → length typed ≡ most → IsTyped a typed
typed_in_full None b typed read plain full = tt
typed_in_full (Some all) None typed read plain full = absurd read
typed_in_full (Some all) (Some rest) typed read plain full =
    sym (ap through_feed (ap (take most) read ∙ take_at typed rest most full) ∙ plain_through typed plain)

-- or a line feed was read.
pub typed_to_feed : (a b : Option (List ℕ)) (typed : List ℕ) → Consumes a b (typed ++ 10 ∷ []) → is_plain typed ≡ true
    → length typed < most → IsTyped a (typed ++ 10 ∷ [])
typed_to_feed None b typed read plain few = tt
typed_to_feed (Some all) None typed read plain few = absurd read
typed_to_feed (Some all) (Some rest) typed read plain few =
    let is : all ≡ typed ++ 10 ∷ rest = read ∙ append_assoc typed (10 ∷ []) rest in
    sym (ap (λ (t : List ℕ). through_feed (take most t)) is ∙ through_plain most typed rest plain few)

-- one byte more
pub plain_more : (typed : List ℕ) (c : ℕ) → is_plain typed ≡ true → (c == 10) ≡ false → is_plain (typed ++ c ∷ []) ≡ true
plain_more [] c plain other = rw other refl
plain_more (d ∷ typed) c plain other = go (d == 10) refl plain (λ h. plain_more typed c h other)
  where
    go : (b : Bool) → (d == 10) ≡ b → (not b && is_plain typed) ≡ true
        → (is_plain typed ≡ true → is_plain (typed ++ c ∷ []) ≡ true) → is_plain ((d ∷ typed) ++ c ∷ []) ≡ true
    go true e h more = absurd (search (rules, h))
    go false e h more = rw e (more h)

pub read_more : (a b c : Option (List ℕ)) (typed more : List ℕ) → Consumes a b typed → Consumes b c more
    → Consumes a c (typed ++ more)
read_more None b c typed more one two = tt
read_more (Some xs) None c typed more one two = absurd one
read_more (Some xs) (Some ys) None typed more one two = absurd two
read_more (Some xs) (Some ys) (Some zs) typed more one two = one ∙ ap (λ (t : List ℕ). typed ++ t) two ∙ sym (append_assoc typed more zs)

pub read_none : (a b c : Option (List ℕ)) (typed : List ℕ) → Consumes a b typed → Keeps b c → Consumes a c typed
read_none None b c typed one two = tt
read_none (Some xs) None c typed one two = absurd one
read_none (Some xs) (Some ys) None typed one two = absurd two
read_none (Some xs) (Some ys) (Some zs) typed one two = one ∙ ap (λ (t : List ℕ). typed ++ t) (sym two)

pub read_at_first : (a : Option (List ℕ)) → Consumes a a []
read_at_first None = tt
read_at_first (Some xs) = refl

take_nothing : (n : ℕ) → take n (let none : List ℕ = [] in none) ≡ []
take_nothing zero = refl
take_nothing (suc n) = refl

-- the byte that a read of one byte gave
pub one_byte : (buf : List ℕ) (n : ℕ) → length buf ≡ 1 → 0 < n → take n buf ≡ slice_index buf 0 ∷ []
one_byte [] n one some = absurd (omega (arith, one))
one_byte (c ∷ []) zero one some = absurd (omega (arith, some))
one_byte (c ∷ []) (suc n) one some = ap (λ t. c ∷ t) (take_nothing n)
one_byte (c ∷ (d ∷ rest)) n one some = absurd (omega (arith, one))
