-- The first of some things, one more after another.
use Rattle.std.proofs.Common.{◌≡◌, ◌<◌, ◌-◌, ◌∷◌, ◌++◌, [], ℕ, zero, suc, List, sym, refl, arith, take, ap, append_assoc, append-nil, map, ◌∙◌}
use Rattle.std.specs.Prelude.{flat_map}
use Rattle.std.proofs.lemmas.List.{map-append}

module _ {X : Type 0} where
  pub take_none : (n : ℕ) → take n (let none : List X = [] in none) ≡ []
  take_none zero = refl
  take_none (suc n) = refl

  module _ {Y : Type 0} (what : X → Y) (before : List Y) where
    -- nothing is reported
    pub none_told : (later : List X) (n : ℕ)
        → before ++ map what (take n later) ≡ (before ++ map what (take n [])) ++ map what (take (n - 0) later)
    none_told later n =
        let same : n - 0 ≡ n = omega arith in
        rw (take_none n, same, append-nil before) refl

    pub nothing_told : (n : ℕ) → before ++ map what (take n []) ≡ before
    nothing_told n = rw (take_none n) (append-nil before)

    -- one thing alone is reported, or not
    pub told_alone : (one : X) (n : ℕ) → 0 < n → before ++ map what (take n (one ∷ [])) ≡ before ++ what one ∷ []
    told_alone one zero room = absurd (omega (arith, room))
    told_alone one (suc n) room = rw (take_none n) refl

    pub no_room : (one : X) (n : ℕ) → n ≡ 0 → before ++ map what (take n (one ∷ [])) ≡ before
    no_room one n none = rw none (append-nil before)

    -- one thing is reported, if there is room for it
    pub one_told : (one : X) (later : List X) (n : ℕ)
        → before ++ map what (take n (one ∷ later))
        ≡ (before ++ map what (take n (one ∷ []))) ++ map what (take (n - 1) later)
    one_told one later zero = sym (append-nil (before ++ []))
    one_told one later (suc n) =
        let less : suc n - 1 ≡ n = omega arith in
        rw (less, take_none n) (sym (append_assoc before (what one ∷ []) (map what (take n later))))

  -- and added to what was reported before
  pub told_more : {P Y : Type 0} (what : X → Y) (name : P → Y) (old : List P) (p : P) (one : X) (n : ℕ) → 0 < n → name p ≡ what one
      → map name (old ++ p ∷ []) ≡ map name old ++ map what (take n (one ∷ []))
  told_more what name old p one n room same =
      map-append name old (p ∷ []) ∙ (ap (λ y. map name old ++ y ∷ []) same ∙ sym (told_alone what (map name old) one n room))

-- lines of what is named are lines of the names
pub lines_of_map : {X Y : Type 0} (line : Y → List ℕ) (name : X → Y) (xs : List X) → flat_map (λ x. line (name x)) xs ≡ flat_map line (map name xs)
lines_of_map line name [] = refl
lines_of_map line name (x ∷ xs) = ap (λ (t : List ℕ). line (name x) ++ t) (lines_of_map line name xs)
