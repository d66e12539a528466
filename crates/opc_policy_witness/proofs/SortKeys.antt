-- Of the patterns that come before one, those that can cover what it covers have sort keys from its head on.
use Rattle.std.proofs.Common.{
  ◌≡◌,
  ◌∙◌,
  ◌+◌,
  ◌≤◌,
  ◌==◌,
  ◌&&◌,
  ℕ,
  true,
  false,
  cond,
  List,
  [],
  ◌∷◌,
  ◌++◌,
  Ordering,
  ap,
  append_assoc,
  arith,
  inl,
  inr,
  length,
  map,
  refl,
  sym,
}
use Rattle.std.specs.Prelude.{if◌then◌else◌}
use Rattle.std.specs.Cmp.{nat_cmp_is}
use Rattle.std.specs.Cmp.Lexicographic.{slice_cmp}
use Rattle.std.specs.Ordering.{is_lt, nat_cmp}
use Rattle.std.specs.declared.cmp.Ordering.TheVariants.{Equal, Greater, Less}
use Rattle.std.proofs.lemmas.Bool.{cases_lt}
use Rattle.std.proofs.lemmas.List.{length-append}
use Rattle.opc_names.specs.declared.token.Token.{Token}
use Rattle.opc_names.specs.declared.token.Token.TheVariants.{Literal, Percent, Star, Stars}
use Rattle.opc_names.specs.Names.{IsPattern}
use Rattle.opc_names.specs.Order.{Before, begins_with_stars, ends_open, head, key_byte, sort_key}
use Rattle.opc_names.specs.Patterns.{CoversText, tokens}
use Rattle.opc_names.proofs.Heads.{heads_are_prefixes, longer_heads_come_first}
use Rattle.opc_names.proofs.Keys.{keys_are_in_order}
use Rattle.opc_names.proofs.Orders.{before_itself, before_trans}

order : List ℕ → List ℕ → Ordering
order = slice_cmp nat_cmp

-- a sort key begins with the head
head_first : (ts : List Token) (end : List ℕ) → (rest : List ℕ) × (map key_byte ts ++ end ≡ head ts ++ rest)
head_first [] end = (end, refl)
head_first (Literal c ∷ ts) end =
    elim ((c == 46) && begins_with_stars ts) as (λ b. (rest : List ℕ) × (c ∷ (map key_byte ts ++ end) ≡ cond b [] (c ∷ head ts) ++ rest)) [
      | true ↦ (c ∷ (map key_byte ts ++ end), refl)
      | false ↦ (let more = head_first ts end in (more.0, ap (λ l. c ∷ l) more.1))
    ]
head_first (Percent ∷ ts) end = (map key_byte (Percent ∷ ts) ++ end, refl)
head_first (Star ∷ ts) end = (map key_byte (Star ∷ ts) ++ end, refl)
head_first (Stars ∷ ts) end = (map key_byte (Stars ∷ ts) ++ end, refl)

pub head_short : (p : List ℕ) → length (sort_key p) ≤ 40 → length (head (tokens p)) ≤ 40
head_short p few =
    let key = head_first (tokens p) (if ends_open (tokens p) then 255 ∷ [] else []) in
    let long : length (sort_key p) ≡ length (head (tokens p)) + length key.0 =
    ap length key.1 ∙ length-append (head (tokens p)) key.0 in
    omega (arith, long, few)

-- of two beginnings of a text the longer one begins with the other
pub begins_so : (g h x y : List ℕ) → g ++ x ≡ h ++ y → length g ≤ length h → (rest : List ℕ) × (h ≡ g ++ rest)
begins_so [] h x y e few = (h, refl)
begins_so (c ∷ g) [] x y e few = absurd (omega (arith, few))
begins_so (c ∷ g) (d ∷ h) x y e few =
    let same : c ≡ d = cc in
    let rest : g ++ x ≡ h ++ y = cc in
    let more = begins_so g h x y rest (omega (arith, few)) in
    (more.0, ap (λ l. d ∷ l) more.1 ∙ ap (λ i. i ∷ (g ++ more.0)) (sym same))

-- a text is not below its beginning
not_below : (h rest : List ℕ) → is_lt (order (h ++ rest) h) ≡ false
unfolding order
not_below [] [] = refl
not_below [] (c ∷ rest) = refl
not_below (c ∷ h) rest = let same : nat_cmp c c ≡ Equal = sym (nat_cmp_is c c Equal refl) in rw same (not_below h rest)

pub less_is : (r : Ordering) → is_lt r ≡ true → r ≡ Less
less_is Less h = refl
less_is Equal h = cc
less_is Greater h = cc

pub in_range : (p q resource : List ℕ) → IsPattern p → IsPattern q → CoversText p resource → CoversText q resource
    → is_lt (slice_cmp nat_cmp (sort_key q) (sort_key p)) ≡ true → is_lt (slice_cmp nat_cmp (sort_key q) (head (tokens p))) ≡ false
unfolding order
in_range p q resource valid other covers also below =
    let before : Before (tokens q) (tokens p) = (keys_are_in_order q p other valid).0 (less_is _ below) in
    elim (cases_lt (length (head (tokens q))) (length (head (tokens p)))) [
      | inl shorter ↦ absurd (before_itself (tokens p)
          (before_trans (tokens p) (tokens q) (tokens p) (longer_heads_come_first p q resource valid other covers also shorter) before))
      | inr long ↦ (let of_one = heads_are_prefixes p resource valid covers in
          let of_other = heads_are_prefixes q resource other also in
          let more = begins_so (head (tokens p)) (head (tokens q)) of_one.0 of_other.0 (sym of_one.1 ∙ of_other.1) long in
          let key = head_first (tokens q) (if ends_open (tokens q) then 255 ∷ [] else []) in
          let begins : sort_key q ≡ head (tokens p) ++ (more.0 ++ key.0) =
          key.1 ∙ ap (λ l. l ++ key.0) more.1 ∙ append_assoc (head (tokens p)) more.0 key.0 in
          ap (λ k. is_lt (slice_cmp nat_cmp k (head (tokens p)))) begins ∙ not_below (head (tokens p)) (more.0 ++ key.0))
    ]
