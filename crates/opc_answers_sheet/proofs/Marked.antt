-- Whoever is named has a mark in common with the access list.
use Rattle.std.proofs.Common.{◌≡◌, ◌<◌, ◌∙◌, ℕ, max, min, Bool, true, false, not, List, [], ◌∷◌, Option, Some, None}
use Rattle.std.proofs.Common.{ap, ap₂, arith, bit_and, bit_or, find, map, refl, subst, sym, if◌then◌else◌}
use Rattle.std.specs.Prelude.{◌==◌, ◌&&◌, ◌||◌}
use Rattle.std.specs.Int.{bit_at, w64}
use Rattle.std.specs.List.{list_any}
use Rattle.std.specs.Option.{is_some, option_eq, option_map}
use Rattle.std.specs.Str.{bytes_eq}
use Rattle.std.proofs.lemmas.Bool.{ne_eqb}
use Rattle.std.proofs.lemmas.Nat.Bits.{bit_at-lt, bit_at-zero, bit_at_and, bit_at_or, bit_at_set_same}
use Rattle.std.proofs.lemmas.Slice.Eq.{bytes_eq-Decides}
use Rattle.opc_names.specs.declared.level.Level.{Level}
use Rattle.opc_policy_members.specs.Access.{entry_level, is_for}
use Rattle.opc_policy_members.specs.declared.entry.Entry.{Entry}
use Rattle.opc_answers.specs.declared.members.UserWithGroups.{UserWithGroups}
use Rattle.opc_answers_sheet.specs.Marks.{marked, marks_in, marks_of, meet, place_after, stirred, with_mark}
use Rattle.opc_answers_sheet.specs.Named.{has_entry, is_named}

place_low : (text : List ℕ) (place : ℕ) → place < 64 → place_after place text < 64
place_low [] place low = low
place_low (byte ∷ text) place low = place_low text (stirred place byte) (omega arith)

low : (name : List ℕ) → place_after 0 name < 64
low name = place_low name 0 (omega arith)

-- ---- a mark stays, and is there

most : (n : ℕ) → n < 2 → max 1 n ≡ 1
most n below = omega (arith, below)

stays : (a b k : ℕ) → bit_at a k ≡ 1 → bit_at (bit_or a b) k ≡ 1
stays a b k is = bit_at_or a b k ∙ (ap (λ n. max n (bit_at b k)) is ∙ most (bit_at b k) (bit_at-lt b k))

kept : (names : List (List ℕ)) (marks k : ℕ) → bit_at marks k ≡ 1 → bit_at (marked marks names) k ≡ 1
kept [] marks k is = is
kept (name ∷ names) marks k is = kept names (with_mark marks name) k (stays marks _ k is)

own : (marks : ℕ) (name : List ℕ) → bit_at (with_mark marks name) (place_after 0 name) ≡ 1
own marks name = bit_at_set_same w64 marks (place_after 0 name) (low name)

among : (names : List (List ℕ)) (marks : ℕ) (name : List ℕ) → list_any (λ (n : List ℕ). bytes_eq n name) names ≡ true
    → bit_at (marked marks names) (place_after 0 name) ≡ 1
among [] marks name is = cc
among (n ∷ names) marks name is = go (bytes_eq n name) refl is (among names (with_mark marks n) name)
  where
    go : (b : Bool) → bytes_eq n name ≡ b → (b || list_any (λ (m : List ℕ). bytes_eq m name) names) ≡ true
        → (list_any (λ (m : List ℕ). bytes_eq m name) names ≡ true → bit_at (marked (with_mark marks n) names) (place_after 0 name) ≡ 1)
        → bit_at (marked (with_mark marks n) names) (place_after 0 name) ≡ 1
    go true e h later = kept names (with_mark marks n) (place_after 0 name)
        (subst (λ (m : List ℕ). bit_at (with_mark marks n) (place_after 0 m) ≡ 1) ((bytes_eq-Decides n name).0 e) (own marks n))
    go false e h later = later h

-- ---- marks that share a place

not_zero : (n k : ℕ) → bit_at n k ≡ 1 → not (n == 0) ≡ true
not_zero n k is = ap not (ne_eqb n 0 (λ none.
    let marked : 0 ≡ 1 = sym (bit_at-zero k) ∙ subst (λ (m : ℕ). bit_at m k ≡ 1) none is in
    omega (arith, marked)))

shares : (a b k : ℕ) → bit_at a k ≡ 1 → bit_at b k ≡ 1 → meet a b ≡ true
shares a b k one other = not_zero (bit_and a b) k (bit_at_and a b k ∙ ap₂ (λ (m n : ℕ). min m n) one other)

there : (entries : List Entry) (name : List ℕ) → has_entry entries name ≡ true
    → list_any (λ (n : List ℕ). bytes_eq n name) (map (λ (e : Entry). e.id) entries) ≡ true
there [] name is = cc
there (e ∷ entries) name is = go (bytes_eq e.id name) is (there entries name)
  where
    go : (b : Bool)
        → is_some (option_map (λ (f : Entry). f.level) (if b && option_eq bytes_eq e.when None then Some e else find (is_for None name) entries))
        ≡ true
        → (has_entry entries name ≡ true → list_any (λ (n : List ℕ). bytes_eq n name) (map (λ (f : Entry). f.id) entries) ≡ true)
        → (b || list_any (λ (n : List ℕ). bytes_eq n name) (map (λ (f : Entry). f.id) entries)) ≡ true
    go true h later = refl
    go false h later = later h

met : (entries : List Entry) (names : List (List ℕ)) (marks : ℕ) → list_any (has_entry entries) names ≡ true
    → meet (marks_in entries) (marked marks names) ≡ true
met entries [] marks is = cc
met entries (n ∷ names) marks is = go (has_entry entries n) refl is (met entries names (with_mark marks n))
  where
    go : (b : Bool) → has_entry entries n ≡ b → (b || list_any (has_entry entries) names) ≡ true
        → (list_any (has_entry entries) names ≡ true → meet (marks_in entries) (marked (with_mark marks n) names) ≡ true)
        → meet (marks_in entries) (marked (with_mark marks n) names) ≡ true
    go true e h later = shares (marks_in entries) (marked (with_mark marks n) names) (place_after 0 n)
        (among (map (λ (f : Entry). f.id) entries) 0 n (there entries n e)) (kept names (with_mark marks n) (place_after 0 n) (own marks n))
    go false e h later = later h

-- so that who shares no place is not named
pub passed_over : (entries : List Entry) (m : UserWithGroups) → (meet (marks_in entries) (marks_of m) && is_named entries m) ≡ is_named entries m
passed_over entries m = go (is_named entries m) refl
  where
    go : (b : Bool) → is_named entries m ≡ b → (meet (marks_in entries) (marks_of m) && b) ≡ b
    go true is = ap (λ t. t && true) (met entries (m.user.id ∷ m.groups) 0 is)
    go false is = none (meet (marks_in entries) (marks_of m))
      where
        none : (t : Bool) → (t && false) ≡ false
        none true = refl
        none false = refl
