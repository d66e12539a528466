-- A name is found character by character: what is left of the masks after one, and which characters are enough to try.
use Rattle.std.proofs.Common.{
  ◌≡◌,
  ℕ,
  ◌+◌,
  ◌<◌,
  ◌==◌,
  Bool,
  true,
  false,
  not,
  if◌then◌else◌,
  ◌&&◌,
  ◌||◌,
  List,
  [],
  ◌∷◌,
  ◌++◌,
  Option,
  Some,
  None,
  Bor,
  map,
  take,
  get_or,
  length,
  append-nil,
  refl,
  ap,
  sym,
  ◌∙◌,
  arith,
  suc,
  ◌-◌,
  ◌≤◌,
  ◌⊎◌,
  inl,
  inr,
  drop,
  subst,
  slice_set,
  is_none,
}
use borrow.Rule.Slice.PartMut.{put_mid}
use Rattle.std.specs.List.{cons_option, list_all, list_any}
use Rattle.std.proofs.lemmas.List.{take_more, map-append}
use Rattle.std.proofs.lemmas.Bool.Decides.{nat_tests}
use Rattle.std.proofs.lemmas.Grind.{common_steps}
use Rattle.std.proofs.lemmas.List.Elements.{filter_map-append}
use Rattle.std.proofs.lemmas.List.Quantifiers.{position-Some}
use Rattle.opc_names.specs.Names.{is_name_character}
use Rattle.opc_policy_witness.specs.declared.places.NamePlace.{NamePlace}
use Rattle.opc_policy_witness.specs.declared.places.NamePlace.TheVariants.{Character, NoDigit}
use Rattle.opc_policy_witness.specs.declared.search.TheConstants.{CHARACTERS}
use Rattle.opc_policy_witness.specs.Masks.{
  after,
  asks_for,
  enough,
  fits,
  fits_one,
  fits_place,
  is_between,
  left_after,
  left_takes,
  may_stand,
  may_stand_all,
  takes_all,
  takes_behind,
}

pub both : (a b : Bool) → (a && b) ≡ true → (a ≡ true) × (b ≡ true)
both true b h = (refl, h)
both false b h = cc

pub or_right : (a b : Bool) → b ≡ true → (a || b) ≡ true
or_right true b h = refl
or_right false b h = h

-- one more mask, as the loop of `after` takes them
after_taken : (c : ℕ) (masks : List (Bor (List (Option ℕ)))) (i : ℕ) (d : Bor (List (Option ℕ))) → i < length masks
    → after c (map (λ mask. mask.now) (take (i + 1) masks))
    ≡ after c (map (λ mask. mask.now) (take i masks)) ++ after c ((get_or masks i d).now ∷ [])
after_taken c masks i d h =
    ap (λ taken. after c (map (λ mask. mask.now) taken)) (take_more masks i d h)
    ∙ ap (after c) (map-append (λ mask. mask.now) (take i masks) (get_or masks i d ∷ []))
    ∙ filter_map-append (left_after c) (map (λ mask. mask.now) (take i masks)) ((get_or masks i d).now ∷ [])

pub step_some : (c : ℕ) (masks left next : List (Bor (List (Option ℕ)))) (i : ℕ) (d rest : Bor (List (Option ℕ)))
    → i < length masks → Some rest.now ≡ left_after c (get_or masks i d).now
    → map (λ mask. mask.now) left ≡ after c (map (λ mask. mask.now) (take i masks)) → next ≡ left ++ rest ∷ []
    → map (λ mask. mask.now) next ≡ after c (map (λ mask. mask.now) (take (i + 1) masks))
step_some c masks left next i d rest h found before is =
    rw is (map-append (λ mask. mask.now) left (rest ∷ []) ∙ ap (λ l. l ++ rest.now ∷ []) before
    ∙ ap (λ o. after c (map (λ mask. mask.now) (take i masks)) ++ cons_option o []) found
    ∙ sym (after_taken c masks i d h))

pub step_none : (c : ℕ) (masks left : List (Bor (List (Option ℕ)))) (i : ℕ) (d : Bor (List (Option ℕ)))
    → i < length masks → None ≡ left_after c (get_or masks i d).now
    → map (λ mask. mask.now) left ≡ after c (map (λ mask. mask.now) (take i masks))
    → map (λ mask. mask.now) left ≡ after c (map (λ mask. mask.now) (take (i + 1) masks))
step_none c masks left i d h found before =
    before ∙ sym (append-nil (after c (map (λ mask. mask.now) (take i masks))))
    ∙ ap (λ o. after c (map (λ mask. mask.now) (take i masks)) ++ cons_option o []) found
    ∙ sym (after_taken c masks i d h)

-- what a name fits of the masks, it fits behind its first character of what is left of them
fits_after : (c : ℕ) (s : List ℕ) (masks : List (List (Option ℕ))) → fits_one masks (c ∷ s) ≡ fits_one (after c masks) s
fits_after c s [] = refl
fits_after c s ([] ∷ masks) = fits_after c s masks
fits_after c s ((cell ∷ mask) ∷ masks) =
    let rest = fits_after c s masks in
    elim (fits_place cell c) as (λ b. ((b && fits mask s) || fits_one masks (c ∷ s))
    ≡ fits_one (cons_option (if b then Some mask else None) (after c masks)) s) [
      | true ↦ ap (λ b. fits mask s || b) rest
      | false ↦ rest
    ]

reordered : (m a f g x : Bool) → ((m && a) && ((f && g) && x)) ≡ ((m && f) && (a && (g && x)))
reordered false a f g x = refl
reordered true false true g x = refl
reordered true false false g x = refl
reordered true true f g x = cases f where
  cases : (b : Bool) → ((b && g) && x) ≡ (b && (g && x))
  cases true = refl
  cases false = refl

pub between_after : (place : NamePlace) (places : List NamePlace) (cell : Option ℕ) (include : List (Option ℕ))
    (masks : List (List (Option ℕ))) (c : ℕ) (s : List ℕ) → is_between (place ∷ places) (cell ∷ include) masks (c ∷ s)
    ≡ ((may_stand place c && fits_place cell c) && is_between places include (after c masks) s)
between_after place places cell include masks c s =
    ap (λ b. (may_stand place c && may_stand_all places s) && ((fits_place cell c && fits include s) && not b)) (fits_after c s masks)
    ∙ reordered (may_stand place c) (may_stand_all places s) (fits_place cell c) (fits include s) (not (fits_one (after c masks) s))

-- A character that no mask asks for leaves of the masks what any other leaves, or less.
free_fits : (free c : ℕ) (s : List ℕ) (masks : List (List (Option ℕ))) → list_any (asks_for free) masks ≡ false
    → fits_one (after free masks) s ≡ true → fits_one (after c masks) s ≡ true
free_fits free c s [] h k = k
free_fits free c s ([] ∷ masks) h k = free_fits free c s masks h k
free_fits free c s ((None ∷ mask) ∷ masks) h k =
    elim (fits mask s) as (λ b. (b || fits_one (after free masks) s) ≡ true → (b || fits_one (after c masks) s) ≡ true) [
      | true ↦ (λ e. refl)
      | false ↦ (λ e. free_fits free c s masks h e)
    ] k
free_fits free c s ((Some a ∷ mask) ∷ masks) h k =
    let unasked = no_or (a == free) (list_any (asks_for free) masks) h in
    let rest : fits_one (after c masks) s ≡ true = free_fits free c s masks unasked.1
    (sym (ap (λ b. fits_one (cons_option (if b then Some mask else None) (after free masks)) s) unasked.0) ∙ k) in
    elim (a == c) as (λ b. fits_one (cons_option (if b then Some mask else None) (after c masks)) s ≡ true) [
      | true ↦ or_right (fits mask s) _ rest
      | false ↦ rest
    ] where
      no_or : (x y : Bool) → (x || y) ≡ false → (x ≡ false) × (y ≡ false)
      no_or true y e = cc
      no_or false y e = (refl, e)

free_not : (x y : Bool) → (y ≡ true → x ≡ true) → not x ≡ true → not y ≡ true
free_not x false h k = refl
free_not x true h k = let e = h refl in cc

-- so what lies between behind another one lies between behind it
pub free_between : (place : NamePlace) (places : List NamePlace) (include : List (Option ℕ)) (masks : List (List (Option ℕ)))
    (free c : ℕ) (s : List ℕ) → may_stand place free ≡ true → list_any (asks_for free) masks ≡ false
    → is_between (place ∷ places) (None ∷ include) masks (c ∷ s) ≡ true → is_between (place ∷ places) (None ∷ include) masks (free ∷ s) ≡ true
free_between place places include masks free c s may unasked h =
    let there = both (may_stand place c && true) _ (sym (between_after place places None include masks c s) ∙ h) in
    let stands = both (may_stand_all places s) _ there.1 in
    let apart = both (fits include s) _ stands.1 in
    let here : not (fits_one (after free masks) s) ≡ true =
    free_not (fits_one (after c masks) s) (fits_one (after free masks) s) (free_fits free c s masks unasked) apart.1 in
    between_after place places None include masks free s ∙ rw (may, stands.0, apart.0, here) refl

-- ---- which characters are enough

same_of : (a b : ℕ) → (a == b) ≡ true → a ≡ b
same_of a b h = grind (arith, nat_tests, h)

stands_first : (place : NamePlace) (places : List NamePlace) (cell : Option ℕ) (include : List (Option ℕ))
    (masks : List (List (Option ℕ))) (c : ℕ) (s : List ℕ) → is_between (place ∷ places) (cell ∷ include) masks (c ∷ s) ≡ true
    → (may_stand place c ≡ true) × (fits_place cell c ≡ true)
stands_first place places cell include masks c s h =
    both (may_stand place c) (fits_place cell c) (both _ _ (sym (between_after place places cell include masks c s) ∙ h)).0

pub enough_found : (characters : List ℕ) (place : NamePlace) (asked : Option ℕ) (masks : List (List (Option ℕ))) (at : ℕ)
    → Some at ≡ enough characters place asked masks → (at < length characters)
    × ((places : List NamePlace) (include : List (Option ℕ)) (c : ℕ) (s : List ℕ)
    → is_between (place ∷ places) (asked ∷ include) masks (c ∷ s) ≡ true
    → is_between (place ∷ places) (asked ∷ include) masks (get_or characters at 0 ∷ s) ≡ true)
enough_found characters place (Some a) masks at h =
    let found = position-Some (λ c. c == a) characters at 0 (sym h) in
    let is : get_or characters at 0 ≡ a = same_of _ a found.1 in (
      found.0,
      λ places include c s k.
          let first = stands_first place places (Some a) include masks c s k in
          let e : c ≡ a = sym (same_of a c first.1) in
          subst (λ x. is_between (place ∷ places) (Some a ∷ include) masks (x ∷ s) ≡ true) (e ∙ sym is) k,
    )
enough_found characters place None masks at h =
    let found = position-Some (λ c. may_stand place c && not (list_any (asks_for c) masks)) characters at 0 (sym h) in
    let free = both (may_stand place (get_or characters at 0)) _ found.1 in (
      found.0,
      λ places include c s k.
          free_between place places include masks (get_or characters at 0) c s free.0 (not_true _ free.1) k,
    ) where
      not_true : (b : Bool) → not b ≡ true → b ≡ false
      not_true true e = cc
      not_true false e = refl

pub one_taken : (xs : List ℕ) (at : ℕ) → at < length xs → take (at + 1 - at) (drop at xs) ≡ get_or xs at 0 ∷ []
one_taken xs at h = grind (arith, common_steps, h)

-- ---- each character that may stand is among those that are tried

any_at : (xs : List ℕ) (c : ℕ) → list_any (λ d. d == c) xs ≡ true → (k : ℕ) × (k < length xs) × (get_or xs k 0 ≡ c)
any_at [] c h = cc
any_at (x ∷ xs) c h =
    elim (or_cases (x == c) (list_any (λ d. d == c) xs) h) [
      | inl e ↦ (0, omega arith, same_of x c e)
      | inr e ↦ (let rest = any_at xs c e in (suc rest.0, omega (arith, rest.1), rest.2))
    ] where
      or_cases : (a b : Bool) → (a || b) ≡ true → (a ≡ true) ⊎ (b ≡ true)
      or_cases true b k = inl refl
      or_cases false b k = inr k

is_listed : (c : ℕ) → is_name_character c ≡ true → list_any (λ d. d == c) CHARACTERS.now ≡ true
is_listed c h = grind (arith, nat_tests, h)

may_be : (place : NamePlace) (c : ℕ) → may_stand place c ≡ true → is_name_character c ≡ true
may_be Character c h = h
may_be NoDigit c h = (both (is_name_character c) _ h).0

pub enough_all : (place : NamePlace) (places : List NamePlace) (cell : Option ℕ) (include : List (Option ℕ))
    (masks : List (List (Option ℕ))) (c : ℕ) (s : List ℕ) → is_between (place ∷ places) (cell ∷ include) masks (c ∷ s) ≡ true
    → (k : ℕ) × (k < length CHARACTERS.now)
    × (is_between (place ∷ places) (cell ∷ include) masks (get_or CHARACTERS.now k 0 ∷ s) ≡ true)
enough_all place places cell include masks c s h =
    let first = stands_first place places cell include masks c s h in
    let at = any_at CHARACTERS.now c (is_listed c (may_be place c first.0)) in
    (at.0, at.1, subst (λ x. is_between (place ∷ places) (cell ∷ include) masks (x ∷ s) ≡ true) (sym at.2) h)

-- ---- a mask that fits whatever follows

length_fits : (mask : List (Option ℕ)) (s : List ℕ) → fits mask s ≡ true → length mask ≡ length s
length_fits [] [] h = refl
length_fits [] (c ∷ s) h = cc
length_fits (cell ∷ mask) [] h = cc
length_fits (cell ∷ mask) (c ∷ s) h = ap suc (length_fits mask s (both (fits_place cell c) _ h).1)

fits_all : (mask : List (Option ℕ)) (s : List ℕ) → length mask ≡ length s → list_all is_none mask ≡ true → fits mask s ≡ true
fits_all [] [] e h = refl
fits_all [] (c ∷ s) e h = absurd (omega (arith, e))
fits_all (cell ∷ mask) [] e h = absurd (omega (arith, e))
fits_all (None ∷ mask) (c ∷ s) e h = fits_all mask s (omega (arith, e)) h
fits_all (Some a ∷ mask) (c ∷ s) e h = cc

pub takes_fits : (count : ℕ) (mask : List (Option ℕ)) (s : List ℕ) → count ≡ length s → takes_all count mask ≡ true → fits mask s ≡ true
takes_fits count mask s e h =
    let takes = both (length mask == count) (list_all is_none mask) h in
    fits_all mask s (same_of (length mask) count takes.0 ∙ e) takes.1

one_fits_all : (count : ℕ) (masks : List (List (Option ℕ))) (s : List ℕ) → count ≡ length s
    → list_any (takes_all count) masks ≡ true → fits_one masks s ≡ true
one_fits_all count [] s e h = cc
one_fits_all count (mask ∷ masks) s e h =
    elim (either (takes_all count mask) (list_any (takes_all count) masks) h) [
      | inl first ↦ or_left (fits mask s) (fits_one masks s) (takes_fits count mask s e first)
      | inr rest ↦ or_right (fits mask s) (fits_one masks s) (one_fits_all count masks s e rest)
    ] where
      either : (a b : Bool) → (a || b) ≡ true → (a ≡ true) ⊎ (b ≡ true)
      either true b k = inl refl
      either false b k = inr k

      or_left : (a b : Bool) → a ≡ true → (a || b) ≡ true
      or_left true b k = refl
      or_left false b k = cc

pub none_between : (places : List NamePlace) (include : List (Option ℕ)) (masks : List (List (Option ℕ))) (s : List ℕ)
    (count : ℕ) → count ≡ length include → list_any (takes_all count) masks ≡ true → is_between places include masks s ≡ false
none_between places include masks s count is h = cases (fits include s) refl where
  and_none : (a : Bool) → (a && false) ≡ false
  and_none true = refl
  and_none false = refl

  cases : (b : Bool) → fits include s ≡ b → (may_stand_all places s && (b && not (fits_one masks s))) ≡ false
  cases false e = and_none (may_stand_all places s)
  cases true e = rw (one_fits_all count masks s (is ∙ length_fits include s e) h) (and_none (may_stand_all places s))

-- no name lies between if none does behind a character that is tried
pub none_tried : (places : List NamePlace) (include left : List (Option ℕ)) (masks : List (List (Option ℕ))) (tried : List ℕ)
    (d : NamePlace) (e : Option ℕ) → 1 ≤ length places → 1 ≤ length include → left ≡ drop 1 include
    → ((more : List NamePlace) (c : ℕ) (s : List ℕ)
    → is_between (get_or places 0 d ∷ more) (get_or include 0 e ∷ left) masks (c ∷ s) ≡ true → (k : ℕ) × (k < length tried)
    × (is_between (get_or places 0 d ∷ more) (get_or include 0 e ∷ left) masks (get_or tried k 0 ∷ s) ≡ true))
    → ((k : ℕ) → k < length tried → (s : List ℕ) → is_between places include masks (get_or tried k 0 ∷ s) ≡ false)
    → (s : List ℕ) → is_between places include masks s ≡ false
none_tried [] include left masks tried d e h k is enough none s = absurd (omega (arith, h))
none_tried (place ∷ places) [] left masks tried d e h k is enough none s = absurd (omega (arith, k))
none_tried (place ∷ places) (cell ∷ include) left masks tried d e h k is enough none [] = refl
none_tried (place ∷ places) (cell ∷ include) left masks tried d e h k is enough none (c ∷ s) =
    not_so (is_between (place ∷ places) (cell ∷ include) masks (c ∷ s)) (λ so.
    let found = enough places c s (rw is so) in
    let was = none found.0 found.1 s in
    let there : is_between (place ∷ places) (cell ∷ include) masks (get_or tried found.0 0 ∷ s) ≡ true = rw is at found.2 in
    cc (sym was ∙ there)) where
      not_so : (b : Bool) → (b ≡ true → ⊥) → b ≡ false
      not_so true f = absurd (f refl)
      not_so false f = refl

-- ---- the first place of what is written

pub first_written : (old new : List ℕ) (x : ℕ) → 0 < length old → slice_set (put_mid 1 (length old - 1) old new) 0 x ≡ x ∷ new
first_written [] new x h = absurd (omega (arith, h))
first_written (b ∷ bs) new x h = grind (arith, common_steps)

pub between_first : (places : List NamePlace) (include : List (Option ℕ)) (masks : List (List (Option ℕ))) (c : ℕ) (s : List ℕ)
    (d : NamePlace) (e : Option ℕ) → 1 ≤ length places → 1 ≤ length include → is_between places include masks (c ∷ s)
    ≡ ((may_stand (get_or places 0 d) c && fits_place (get_or include 0 e) c)
    && is_between (drop 1 places) (drop 1 include) (after c masks) s)
between_first [] include masks c s d e h k = absurd (omega (arith, h))
between_first (place ∷ places) [] masks c s d e h k = absurd (omega (arith, k))
between_first (place ∷ places) (cell ∷ include) masks c s d e h k = between_after place places cell include masks c s

pub more_left : (mask : List (Option ℕ)) → 1 ≤ length mask → false ≡ fits mask []
more_left [] h = absurd (omega (arith, h))
more_left (cell ∷ mask) h = refl

pub some_behind : (places : List NamePlace) (include : List (Option ℕ)) (masks left : List (List (Option ℕ))) (c : ℕ)
    (s : List ℕ) (d : NamePlace) (e : Option ℕ) → 1 ≤ length places → 1 ≤ length include
    → (may_stand (get_or places 0 d) c && fits_place (get_or include 0 e) c) ≡ true → left ≡ after c masks
    → is_between (drop 1 places) (drop 1 include) left s ≡ true → is_between places include masks (c ∷ s) ≡ true
some_behind places include masks left c s d e h k may is rest =
    between_first places include masks c s d e h k ∙ rw (may, sym is, rest) refl

pub none_behind : (places : List NamePlace) (include : List (Option ℕ)) (masks left : List (List (Option ℕ))) (c : ℕ)
    (s : List ℕ) → 1 ≤ length places → 1 ≤ length include → left ≡ after c masks
    → is_between (drop 1 places) (drop 1 include) left s ≡ false → is_between places include masks (c ∷ s) ≡ false
none_behind places include masks left c s h k is rest =
    between_first places include masks c s Character None h k
    ∙ and_false (may_stand (get_or places 0 Character) c && fits_place (get_or include 0 None) c) _ (rw (sym is) rest) where
      and_false : (a b : Bool) → b ≡ false → (a && b) ≡ false
      and_false true b h = h
      and_false false b h = refl

pub no_first : (places : List NamePlace) (include : List (Option ℕ)) (masks : List (List (Option ℕ))) (c : ℕ) (s : List ℕ)
    (d : NamePlace) (e : Option ℕ) → 1 ≤ length places → 1 ≤ length include
    → (may_stand (get_or places 0 d) c && fits_place (get_or include 0 e) c) ≡ false → is_between places include masks (c ∷ s) ≡ false
no_first places include masks c s d e h k may = between_first places include masks c s d e h k ∙ rw may refl

-- ---- a character behind which a mask fits whatever follows

takes_after : (c count : ℕ) (masks : List (List (Option ℕ))) → list_any (takes_behind c count) masks ≡ list_any (takes_all count) (after c masks)
takes_after c count [] = refl
takes_after c count (mask ∷ masks) = go (left_after c mask) (takes_after c count masks)
  where
    go : (o : Option (List (Option ℕ))) → list_any (takes_behind c count) masks ≡ list_any (takes_all count) (after c masks)
        → (left_takes count o || list_any (takes_behind c count) masks) ≡ list_any (takes_all count) (cons_option o (after c masks))
    go None rest = rest
    go (Some left) rest = ap (λ b. takes_all count left || b) rest

pub goes_nowhere : (places : List NamePlace) (include left : List (Option ℕ)) (masks : List (List (Option ℕ))) (c : ℕ) (s : List ℕ)
    (d : NamePlace) (e : Option ℕ) → 1 ≤ length places → 1 ≤ length include → left ≡ drop 1 include
    → ((may_stand (get_or places 0 d) c && fits_place (get_or include 0 e) c) && not (list_any (takes_behind c (length left)) masks)) ≡ false
    → is_between places include masks (c ∷ s) ≡ false
goes_nowhere places include left masks c s d e h k is may =
    cases (may_stand (get_or places 0 d) c && fits_place (get_or include 0 e) c) refl
  where
    taken : (b : Bool) → (true && not b) ≡ false → b ≡ true
    taken true h = refl
    taken false h = cc

    cases : (b : Bool) → (may_stand (get_or places 0 d) c && fits_place (get_or include 0 e) c) ≡ b
        → is_between places include masks (c ∷ s) ≡ false
    cases false first = no_first places include masks c s d e h k first
    cases true first =
        none_behind places include masks (after c masks) c s h k refl
        (none_between (drop 1 places) (drop 1 include) (after c masks) s (length left) (ap length is)
        (sym (takes_after c (length left) masks)
        ∙ taken (list_any (takes_behind c (length left)) masks)
        (sym (ap (λ b. b && not (list_any (takes_behind c (length left)) masks)) first) ∙ may)))
