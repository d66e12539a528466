-- Names compared.
use Rattle.std.proofs.Common.{◌≡◌, Bool, true, false, [], ◌∷◌, Ordering, refl, ap, sym, subst, ◌∙◌, arith, nat_eq, ◌&&◌}
use Rattle.std.specs.declared.cmp.Ordering.TheVariants.{Less, Equal, Greater}
use Rattle.std.specs.Ordering.{nat_cmp, is_lt, is_eq, ordering_reverse}
use Rattle.std.specs.Cmp.Lexicographic.{slice_cmp, texts_ties}
use Rattle.std.proofs.lemmas.Cmp.{nat_list_cmp_total}
use Rattle.std.proofs.lemmas.Bool.Decides.{nat_tests}
use Rattle.opc_board.specs.Invariants.{Name, is, earlier}

less_is : (o : Ordering) → is_lt o ≡ true → o ≡ Less
less_is Less e = refl
less_is Equal e = absurd (cc)
less_is Greater e = absurd (cc)

both : (p q : Bool) → p && q ≡ true → (p ≡ true) × (q ≡ true)
both true q e = (refl, e)
both false q e = absurd (cc)

pub is_same_name : (a b : Name) → is a b ≡ true → a ≡ b
is_same_name [] [] e = refl
is_same_name [] (y ∷ ys) e = absurd (cc)
is_same_name (x ∷ xs) [] e = absurd (cc)
is_same_name (x ∷ xs) (y ∷ ys) e =
    let parts = both (nat_eq x y) (is xs ys) e in
    let here : x ≡ y = grind (arith, nat_tests, parts.0) in
    let rest : xs ≡ ys = is_same_name xs ys parts.1 in
    cc

pub is_itself : (a : Name) → is a a ≡ true
is_itself [] = refl
is_itself (x ∷ xs) = grind (arith, nat_tests, is_itself xs)

pub earlier_on : (a b c : Name) → earlier a b ≡ true → earlier b c ≡ true → earlier a c ≡ true
earlier_on a b c e f = ap is_lt (nat_list_cmp_total.trans a b c (less_is _ e) (less_is _ f))

apart : (o r : Ordering) → r ≡ ordering_reverse o → is_eq o ≡ false → is_lt o ≡ false → is_lt r ≡ true
apart Less r e differ later = absurd (cc)
apart Equal r e differ later = absurd (cc)
apart Greater r e differ later = ap is_lt e

-- of two names, one is earlier
pub earlier_or_later : (a b : Name) → is a b ≡ false → earlier a b ≡ false → earlier b a ≡ true
earlier_or_later a b differ later = apart (slice_cmp nat_cmp a b) _ (nat_list_cmp_total.antisymm b a) (sym (texts_ties a b) ∙ differ) later

pub is_mirrored : (a b : Name) → is a b ≡ false → is b a ≡ false
is_mirrored [] [] e = absurd (cc)
is_mirrored [] (y ∷ ys) e = refl
is_mirrored (x ∷ xs) [] e = refl
is_mirrored (x ∷ xs) (y ∷ ys) e =
    elim (is (y ∷ ys) (x ∷ xs)) as (λ b. is (y ∷ ys) (x ∷ xs) ≡ b → b ≡ false) [
      | true ↦ λ same. let alike : y ∷ ys ≡ x ∷ xs =
          is_same_name (y ∷ ys) (x ∷ xs) same in let itself : is (x ∷ xs) (y ∷ ys) ≡ true =
          subst (λ (n : Name). is (x ∷ xs) n ≡ true) (sym alike) (is_itself (x ∷ xs)) in absurd (cc)
      | false ↦ λ same. refl
    ] refl

is_eq_not_lt : (o : Ordering) → is_eq o ≡ true → is_lt o ≡ false
is_eq_not_lt Less e = absurd (cc)
is_eq_not_lt Equal e = refl
is_eq_not_lt Greater e = refl

-- no name is earlier than itself
pub not_earlier : (a : Name) → earlier a a ≡ false
not_earlier a = is_eq_not_lt (slice_cmp nat_cmp a a) (sym (texts_ties a a) ∙ is_itself a)
