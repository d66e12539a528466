-- The candidates for names with a beginning, gathered head by head.
use Rattle.std.proofs.Common.{
  ◌≡◌,
  ℕ,
  ◌<◌,
  ◌+◌,
  true,
  List,
  [],
  ◌∷◌,
  ◌++◌,
  take,
  length,
  Contains,
  refl,
  sym,
  ap,
  ◌∙◌,
  subst,
  arith,
  ◌⊎◌,
  inl,
  inr,
  ⊎_elim,
  append_assoc,
  length-append,
}
use Rattle.std.specs.Cmp.{nat_cmp_is, tied_itself}
use Rattle.std.specs.Cmp.Lexicographic.{slice_cmp, nat_list_cmp_total}
use Rattle.std.specs.List.Sorted.{IsPermutation}
use Rattle.std.specs.Ordering.{nat_cmp, is_ge}
use Rattle.std.specs.declared.cmp.Ordering.{Ordering}
use Rattle.std.specs.declared.cmp.Ordering.TheVariants.{Equal}
use Rattle.std.proofs.lemmas.Bool.{cases_order}
use Rattle.std.proofs.lemmas.List.{append-nil}
use Rattle.std.proofs.lemmas.List.Elements.{Contains-append_left, Contains-append_right, Contains-append_cases}
use Rattle.std.proofs.lemmas.List.Sorted.{Contains-permutation, IsPermutation-sym}
use Rattle.opc_policy.proofs.MostSpecific.{of_filter, to_filter}
use Rattle.opc_policy.specs.Examined.{head_of}
use Rattle.opc_policy_members.specs.declared.profile.Profile.{Profile}
use Rattle.opc_policy_shared.specs.Shared.{AreCandidates, IsBeginning, lies_between, with_heads_between}

abbrev order : List ℕ → List ℕ → Ordering
order = slice_cmp nat_cmp

-- a head lies between a text and itself if it is this text
lies_itself : (text head : List ℕ) → head ≡ text → lies_between text text head ≡ true
lies_itself text head e =
    let same : order head text ≡ Equal = ap (order head) (sym e) ∙ tied_itself nat_list_cmp_total head in
    rw same refl

-- after common words the order is that of the rest
after_words : (words us vs : List ℕ) → order (words ++ us) (words ++ vs) ≡ order us vs
after_words [] us vs = refl
after_words (w ∷ words) us vs = let same : nat_cmp w w ≡ Equal = sym (nat_cmp_is w w Equal refl) in rw same (after_words words us vs)

not_less : (rest : List ℕ) → is_ge (order rest []) ≡ true
not_less [] = refl
not_less (c ∷ rest) = refl

goes_on : (words rest : List ℕ) → lies_between (words ++ 46 ∷ []) (words ++ 47 ∷ []) (words ++ 46 ∷ rest) ≡ true
goes_on words rest = rw (after_words words (46 ∷ rest) (46 ∷ []), after_words words (46 ∷ rest) (47 ∷ []), not_less rest) refl

take_first : (xs ys : List ℕ) → take (length xs) (xs ++ ys) ≡ xs
take_first [] [] = refl
take_first [] (y ∷ ys) = refl
take_first (x ∷ xs) ys = ap (λ zs. x ∷ zs) (take_first xs ys)

module _ (beginning last : List ℕ) (ps : List Profile) where
  -- those that go on after the beginning, and those whose heads are its prefixes of fewer than so many characters
  pub record AreGathered (n : ℕ) (items : List Profile) : Type 0 where
    pub among : (p : Profile) → Contains items p → Contains ps p
    pub onward : (p : Profile) → Contains ps p → lies_between beginning last (head_of p) ≡ true → Contains items p
    pub within : (p : Profile) → Contains ps p → (k : ℕ) → k < n → head_of p ≡ take k beginning → Contains items p

  pub gathered_first : AreGathered 0 (with_heads_between beginning last ps)
  gathered_first = record {
    among = λ p m. (of_filter _ ps p m).0;
    onward = λ p m e. to_filter _ ps p m e;
    within = λ p m k less e. absurd (omega (arith, less));
  }

  pub gathered_more : (n : ℕ) (items more : List Profile) → AreGathered n items
      → more ≡ with_heads_between (take n beginning) (take n beginning) ps → AreGathered (n + 1) (items ++ more)
  gathered_more n items more so_far is = record {
    among = λ p m. ⊎_elim (so_far.among p) (λ k. (of_filter _ ps p (subst (λ (l : List Profile). Contains l p) is k)).0)
        (Contains-append_cases items more p m);
    onward = λ p m e. Contains-append_left items more p (so_far.onward p m e);
    within = λ p m k less e. one p m k less e (cases_order k n);
  }
    where
      one : (p : Profile) → Contains ps p → (k : ℕ) → k < n + 1 → head_of p ≡ take k beginning
          → (k ≡ n) ⊎ ((k < n) ⊎ (n < k)) → Contains (items ++ more) p
      one p m k less e (inl same) = Contains-append_right items more p
          (subst (λ (l : List Profile). Contains l p) (sym is)
          (to_filter _ ps p m (lies_itself (take n beginning) (head_of p) (e ∙ ap (λ i. take i beginning) same))))
      one p m k less e (inr (inl below)) = Contains-append_left items more p (so_far.within p m k below e)
      one p m k less e (inr (inr above)) = absurd (omega (arith, less, above))

  pub gathered_all : IsBeginning beginning last → (items candidates : List Profile) → AreGathered (length beginning) items
      → IsPermutation items candidates → AreCandidates beginning ps candidates
  gathered_all bounds items candidates all same = record {
    among = λ p m. all.among p (Contains-permutation candidates items p (IsPermutation-sym items candidates same) m);
    all = λ p m may. Contains-permutation items candidates p same (⊎_elim (on p m may.0) (inside p m may.0) may.1);
  }
    where
      on : (p : Profile) → Contains ps p → (rest : List ℕ) → head_of p ≡ beginning ++ rest → Contains items p
      on p m rest e =
          let head : head_of p ≡ bounds.0 ++ 46 ∷ rest = e ∙ ap (λ b. b ++ rest) bounds.1 ∙ append_assoc bounds.0 (46 ∷ []) rest in
          all.onward p m (rw (head, bounds.1, bounds.2) (goes_on bounds.0 rest))

      inside : (p : Profile) → Contains ps p → (rest : List ℕ) → beginning ≡ head_of p ++ rest → Contains items p
      inside p m [] e = on p m [] (sym (append-nil (head_of p)) ∙ sym e ∙ sym (append-nil beginning))
      inside p m (c ∷ rest) e =
          all.within p m (length (head_of p))
          (rw (e, length-append (head_of p) (c ∷ rest)) (omega arith))
          (sym (ap (take (length (head_of p))) e ∙ take_first (head_of p) (c ∷ rest)))
