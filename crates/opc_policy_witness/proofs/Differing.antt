-- Patterns whose last characters differ from those of a resource do not cover it.
use Rattle.std.proofs.Common.{
  ◌≡◌,
  ◌≢◌,
  ◌==◌,
  ◌+◌,
  ℕ,
  suc,
  Bool,
  true,
  false,
  not,
  cond,
  ◌&&◌,
  ◌||◌,
  List,
  [],
  ◌∷◌,
  ◌++◌,
  length,
  map,
  append_assoc,
  append-nil,
  refl,
  ap,
  sym,
  ◌∙◌,
  subst,
  arith,
  ◌⊎◌,
  inl,
  inr,
}
use Rattle.std.specs.Prelude.{if◌then◌else◌, ⊤}
use Rattle.std.specs.List.{AllByRecursion, list_all, list_any, onto_first}
use Rattle.std.proofs.lemmas.Bool.Decides.{eqb_tells}
use Rattle.std.proofs.lemmas.List.{length-append}
use Rattle.opc_names.specs.declared.token.Token.{Token}
use Rattle.opc_names.specs.declared.token.Token.TheVariants.{Literal, Percent, Star, Stars}
use Rattle.opc_names.specs.Names.{qualifiers}
use Rattle.opc_names.specs.Patterns.{Covers, CoversText, EndsInStar, Matches, covers_text, token_of, tokens}
use Rattle.opc_names.specs.Walk.{IsQualifier, StarOnlyLast}
use Rattle.opc_names.proofs.Computed.{text_computes}
use Rattle.opc_policy_witness.specs.Ends.{CannotCover, is_fixed}
use Rattle.opc_policy_witness.proofs.Joining.{qualifiers_period}

-- ---- the last qualifier of what a pattern covers

-- tokens of one character each
abbrev IsPlain : List Token → Type 0
IsPlain [] = ⊤
IsPlain (Literal c ∷ q) = IsPlain q
IsPlain (Percent ∷ q) = IsPlain q
IsPlain (Star ∷ q) = ⊥
IsPlain (Stars ∷ q) = ⊥

plain_closed : (q : List Token) → IsPlain q → EndsInStar q → ⊥
plain_closed [] h e = e
plain_closed (Literal c ∷ q) h e = plain_closed q h e
plain_closed (Percent ∷ q) h e = plain_closed q h e
plain_closed (Star ∷ q) h e = h
plain_closed (Stars ∷ q) h e = h

-- a resource that ends in a qualifier which these match
record EndsSo (q : List Token) (r : List (List ℕ)) : Type 0 where
  before : List (List ℕ)
  last : List ℕ
  is : r ≡ before ++ last ∷ []
  matched : Matches q last

behind : (q : List Token) (s : List ℕ) (r : List (List ℕ)) → EndsSo q r → EndsSo q (s ∷ r)
behind q s r h = record { before = s ∷ h.before; last = h.last; is = ap (λ l. s ∷ l) h.is; matched = h.matched }

-- no qualifier of a pattern
abbrev over : List (List Token)
over = []

only_one : (q : List Token) (s : List ℕ) (r : List (List ℕ)) → IsPlain q → Matches q s
    → ((over ≡ []) × EndsInStar q) ⊎ Covers over r → EndsSo q (s ∷ r)
only_one q s [] h m rest = record { before = []; last = s; is = refl; matched = m }
only_one q s (t ∷ r) h m rest = elim rest [ inl e ↦ absurd (plain_closed q h e.1) | inr c ↦ absurd c ]

ends_one : (q : List Token) (r : List (List ℕ)) → IsPlain q → Covers (q ∷ []) r → EndsSo q r
ends_one [] [] h c = absurd c
ends_one [] (s ∷ r) h c = only_one [] s r h c.0 c.1
ends_one (Literal a ∷ q) [] h c = absurd c
ends_one (Literal a ∷ q) (s ∷ r) h c = only_one (Literal a ∷ q) s r h c.0 c.1
ends_one (Percent ∷ q) [] h c = absurd c
ends_one (Percent ∷ q) (s ∷ r) h c = only_one (Percent ∷ q) s r h c.0 c.1
ends_one (Star ∷ q) r h c = absurd h
ends_one (Stars ∷ q) r h c = absurd h

not_last : (p : List (List Token)) (q : List Token) → p ++ q ∷ [] ≡ [] → ⊥
not_last [] q e = cc
not_last (t ∷ p) q e = cc

more : (p : List (List Token)) (t q : List Token) (s : List ℕ) (r : List (List ℕ))
    → ((p ++ q ∷ [] ≡ []) × EndsInStar t) ⊎ Covers (p ++ q ∷ []) r → (Covers (p ++ q ∷ []) r → EndsSo q r) → EndsSo q (s ∷ r)
more p t q s r rest go = elim rest [ inl e ↦ absurd (not_last p q e.0) | inr c ↦ behind q s r (go c) ]

skip : (q : List Token) (skipped rest r : List (List ℕ)) → r ≡ skipped ++ rest → EndsSo q rest → EndsSo q r
skip q skipped rest r e found = record {
  before = skipped ++ found.before;
  last = found.last;
  is = e ∙ ap (λ l. skipped ++ l) found.is ∙ sym (append_assoc skipped found.before (found.last ∷ []));
  matched = found.matched;
}

covers_end : (p : List (List Token)) (q : List Token) (r : List (List ℕ)) → IsPlain q → Covers (p ++ q ∷ []) r → EndsSo q r
covers_end [] q r h c = ends_one q r h c
covers_end ((Stars ∷ t) ∷ p) q r h c = skip q c.0 c.1 r c.2 (covers_end p q c.1 h c.3)
covers_end ([] ∷ p) q [] h c = absurd c
covers_end ([] ∷ p) q (s ∷ r) h c = more p [] q s r c.1 (λ d. covers_end p q r h d)
covers_end ((Literal a ∷ t) ∷ p) q [] h c = absurd c
covers_end ((Literal a ∷ t) ∷ p) q (s ∷ r) h c = more p (Literal a ∷ t) q s r c.1 (λ d. covers_end p q r h d)
covers_end ((Percent ∷ t) ∷ p) q [] h c = absurd c
covers_end ((Percent ∷ t) ∷ p) q (s ∷ r) h c = more p (Percent ∷ t) q s r c.1 (λ d. covers_end p q r h d)
covers_end ((Star ∷ t) ∷ p) q [] h c = absurd c
covers_end ((Star ∷ t) ∷ p) q (s ∷ r) h c = more p (Star ∷ t) q s r c.1 (λ d. covers_end p q r h d)

-- ---- qualifiers without `*`

abbrev has_star : List ℕ → Bool
has_star q = list_any (λ (c : ℕ). c == 42) q

neither : (a b : Bool) → (a || b) ≡ false → (a ≡ false) × (b ≡ false)
neither true b h = cc
neither false b h = (refl, h)

plain_tokens : (q : List ℕ) → has_star q ≡ false → tokens q ≡ map token_of q
plain_tokens [] h = refl
plain_tokens (c ∷ []) h = refl
plain_tokens (c ∷ (d ∷ q)) h =
    let parts = neither (c == 42) (has_star (d ∷ q)) h in
    ap (λ b. if b && (d == 42) then Stars ∷ tokens q else token_of c ∷ tokens (d ∷ q)) parts.0
    ∙ ap (λ l. token_of c ∷ l) (plain_tokens (d ∷ q) parts.1)

one_token : (c : ℕ) → (c == 42) ≡ false → token_of c ≡ (if c == 37 then Percent else Literal c)
one_token c h = ap (λ b. if b then Star else (if c == 37 then Percent else Literal c)) h

are_plain : (q : List ℕ) → has_star q ≡ false → IsPlain (map token_of q)
are_plain [] h = tt
are_plain (c ∷ q) h =
    let parts = neither (c == 42) (has_star q) h in
    let rest = are_plain q parts.1 in
    subst (λ (t : Token). IsPlain (t ∷ map token_of q)) (sym (one_token c parts.0))
    (elim (c == 37) as (λ b. IsPlain ((if b then Percent else Literal c) ∷ map token_of q)) [ true ↦ rest | false ↦ rest ])

-- what stands first in a name that a qualifier matches
record First (c : ℕ) (q : List Token) (s : List ℕ) : Type 0 where
  at : ℕ
  rest : List ℕ
  is : s ≡ at ∷ rest
  one : ((c == 37) ≡ true) ⊎ (c ≡ at)
  matched : Matches q rest

first : (c : ℕ) (q : List Token) (s : List ℕ) → (c == 42) ≡ false → Matches (token_of c ∷ q) s → First c q s
first c q s star m = go (c == 37) refl s (subst (λ (t : Token). Matches (t ∷ q) s) (one_token c star) m)
  where
    go : (b : Bool) → (c == 37) ≡ b → (t : List ℕ) → Matches ((if b then Percent else Literal c) ∷ q) t → First c q t
    go true is [] m = absurd m
    go true is (x ∷ t) m = record { at = x; rest = t; is = refl; one = inl is; matched = m }
    go false is [] m = absurd m
    go false is (x ∷ t) m = record { at = x; rest = t; is = refl; one = inr m.0; matched = m.1 }

-- ---- fixed characters

record IsFixed (c : ℕ) : Type 0 where
  star : (c == 42) ≡ false
  percent : (c == 37) ≡ false
  period : (c == 46) ≡ false

none_of : (a b c : Bool) → not (a || (b || c)) ≡ true → (a ≡ false) × (b ≡ false) × (c ≡ false)
none_of true b c h = cc
none_of false true c h = cc
none_of false false true h = cc
none_of false false false h = (refl, refl, refl)

fixed : (c : ℕ) → is_fixed c ≡ true → IsFixed c
fixed c h = let parts = none_of (c == 42) (c == 37) (c == 46) h in record { star = parts.0; percent = parts.1; period = parts.2 }

both : (a b : Bool) → (a && b) ≡ true → (a ≡ true) × (b ≡ true)
both true b h = (refl, h)
both false b h = cc

pub and_true : (a b : Bool) → a ≡ true → b ≡ true → (a && b) ≡ true
and_true true b h k = k
and_true false b h k = cc

abbrev has_period : List ℕ → Bool
has_period q = list_any (λ (c : ℕ). c == 46) q

one_qualifier : (q : List ℕ) → has_period q ≡ false → qualifiers q ≡ q ∷ []
one_qualifier [] h = refl
one_qualifier (c ∷ q) h =
    let parts = neither (c == 46) (has_period q) h in
    ap (λ b. cond b ([] ∷ qualifiers q) (onto_first c (qualifiers q))) parts.0 ∙ ap (onto_first c) (one_qualifier q parts.1)

fixed_unsplit : (end : List ℕ) → list_all is_fixed end ≡ true → has_period end ≡ false
fixed_unsplit [] h = refl
fixed_unsplit (c ∷ end) h =
    let parts = both (is_fixed c) (list_all is_fixed end) h in
    ap (λ b. b || has_period end) (fixed c parts.0).period ∙ fixed_unsplit end parts.1

fixed_starless : (end : List ℕ) → list_all is_fixed end ≡ true → has_star end ≡ false
fixed_starless [] h = refl
fixed_starless (c ∷ end) h =
    let parts = both (is_fixed c) (list_all is_fixed end) h in
    ap (λ b. b || has_star end) (fixed c parts.0).star ∙ fixed_starless end parts.1

match_fixed : (end s : List ℕ) → list_all is_fixed end ≡ true → Matches (map token_of end) s → s ≡ end
match_fixed [] [] h m = refl
match_fixed [] (x ∷ s) h m = absurd m
match_fixed (c ∷ end) s h m =
    let parts = both (is_fixed c) (list_all is_fixed end) h in
    let f = first c (map token_of end) s (fixed c parts.0).star m in
    let same : f.at ≡ c = elim f.one [ inl e ↦ absurd (let bad : true ≡ false = sym e ∙ (fixed c parts.0).percent in cc) | inr e ↦ sym e ] in
    f.is ∙ ap (λ x. x ∷ f.rest) same ∙ ap (λ l. c ∷ l) (match_fixed end f.rest parts.1 f.matched)

match_end : (l end s : List ℕ) → has_star (l ++ end) ≡ false → list_all is_fixed end ≡ true → Matches (map token_of (l ++ end)) s
    → (y : List ℕ) × (s ≡ y ++ end)
match_end [] end s star h m = ([], match_fixed end s h m)
match_end (c ∷ l) end s star h m =
    let parts = neither (c == 42) (has_star (l ++ end)) star in
    let f = first c (map token_of (l ++ end)) s parts.0 m in
    let rest = match_end l end f.rest parts.1 h f.matched in
    (f.at ∷ rest.0, f.is ∙ ap (λ t. f.at ∷ t) rest.1)

-- ---- the last qualifier of a text

record EndsIn (text end : List ℕ) : Type 0 where
  before : List (List ℕ)
  start : List ℕ
  is : qualifiers text ≡ before ++ (start ++ end) ∷ []

put_first : (x : ℕ) (before : List (List ℕ)) (start end : List ℕ)
    → (b : List (List ℕ)) × (t : List ℕ) × (onto_first x (before ++ (start ++ end) ∷ []) ≡ b ++ (t ++ end) ∷ [])
put_first x [] start end = ([], x ∷ start, refl)
put_first x (q ∷ before) start end = ((x ∷ q) ∷ before, start, refl)

ends_in : (s end : List ℕ) → has_period end ≡ false → EndsIn (s ++ end) end
ends_in [] end h = record { before = []; start = []; is = one_qualifier end h }
ends_in (x ∷ s) end h = go (x == 46) refl (ends_in s end h)
  where
    go : (b : Bool) → (x == 46) ≡ b → EndsIn (s ++ end) end → EndsIn (x ∷ (s ++ end)) end
    go true is rest = record {
      before = [] ∷ rest.before;
      start = rest.start;
      is = ap (λ b. cond b ([] ∷ qualifiers (s ++ end)) (onto_first x (qualifiers (s ++ end)))) is ∙ ap (λ l. [] ∷ l) rest.is;
    }
    go false is rest =
        let put = put_first x rest.before rest.start end in
        record {
          before = put.0;
          start = put.1;
          is = ap (λ b. cond b ([] ∷ qualifiers (s ++ end)) (onto_first x (qualifiers (s ++ end)))) is
              ∙ ap (onto_first x) rest.is ∙ put.2;
        }

pub last_same : (xs ys : List (List ℕ)) (x y : List ℕ) → xs ++ x ∷ [] ≡ ys ++ y ∷ [] → x ≡ y
last_same [] [] x y e = cc
last_same [] (z ∷ []) x y e = cc
last_same [] (z ∷ (w ∷ ys)) x y e = cc
last_same (z ∷ []) [] x y e = cc
last_same (z ∷ (w ∷ xs)) [] x y e = cc
last_same (z ∷ xs) (w ∷ ys) x y e = let rest : xs ++ x ∷ [] ≡ ys ++ y ∷ [] = cc in last_same xs ys x y rest

map_last : (xs : List (List ℕ)) (x : List ℕ) → map tokens (xs ++ x ∷ []) ≡ map tokens xs ++ tokens x ∷ []
map_last [] x = refl
map_last (y ∷ xs) x = ap (λ l. tokens y ∷ l) (map_last xs x)

last_of_all : (P : List ℕ → Type 0) (xs : List (List ℕ)) (x : List ℕ) → AllByRecursion P (xs ++ x ∷ []) → P x
last_of_all P [] x h = h.0
last_of_all P (y ∷ xs) x h = last_of_all P xs x h.1

other : (x : ℕ) → x ≢ 42 → (x == 42) ≡ false
other x k = elim (eqb_tells x 42) [ inl e ↦ absurd (k e.1) | inr e ↦ e.0 ]

star_not_fixed : (c : ℕ) → is_fixed c ≡ true → c ≡ 42 → ⊥
star_not_fixed c k same = let bad : false ≡ true = ap is_fixed (sym same) ∙ k in cc

-- a qualifier that ends in a fixed character has no `*`
none_only_last : (l : List ℕ) (c : ℕ) (end : List ℕ) → list_all is_fixed (c ∷ end) ≡ true → StarOnlyLast (l ++ c ∷ end) → has_star (l ++ c ∷ end) ≡ false
none_only_last [] c end h only = fixed_starless (c ∷ end) h
none_only_last (x ∷ []) c end h only = ap (λ b. b || has_star (c ∷ end)) (other x only.0) ∙ fixed_starless (c ∷ end) h
none_only_last (x ∷ (y ∷ l)) c end h only =
    ap (λ b. b || has_star (y ∷ (l ++ c ∷ end))) (other x only.0) ∙ none_only_last (y ∷ l) c end h only.1

not_stars : (l : List ℕ) (c : ℕ) (end : List ℕ) → list_all is_fixed (c ∷ end) ≡ true → l ++ c ∷ end ≡ 42 ∷ 42 ∷ [] → ⊥
not_stars [] c end h e = let same : c ≡ 42 = cc in star_not_fixed c (both (is_fixed c) (list_all is_fixed end) h).0 same
not_stars (x ∷ []) c end h e = let same : c ≡ 42 = cc in star_not_fixed c (both (is_fixed c) (list_all is_fixed end) h).0 same
not_stars (x ∷ (y ∷ [])) c end h e = cc
not_stars (x ∷ (y ∷ (z ∷ l))) c end h e = cc

starless : (l : List ℕ) (c : ℕ) (end : List ℕ) → list_all is_fixed (c ∷ end) ≡ true → IsQualifier (l ++ c ∷ end) → has_star (l ++ c ∷ end) ≡ false
starless l c end h q = elim q [ inl e ↦ absurd (not_stars l c end h e) | inr only ↦ none_only_last l c end h only ]

-- ---- a pattern and a resource whose last characters differ

-- what a pattern covers ends in its last characters
pub covered_ends : (p r end : List ℕ) (c : ℕ) → list_all is_fixed (c ∷ end) ≡ true → AllByRecursion IsQualifier (qualifiers (p ++ c ∷ end))
    → CoversText (p ++ c ∷ end) r → (before : List (List ℕ)) × (y : List ℕ) × (qualifiers r ≡ before ++ (y ++ c ∷ end) ∷ [])
covered_ends p r end c h all covers =
    let e = ends_in p (c ∷ end) (fixed_unsplit (c ∷ end) h) in
    let one : IsQualifier (e.start ++ c ∷ end) =
    last_of_all IsQualifier e.before (e.start ++ c ∷ end) (subst (λ (l : List (List ℕ)). AllByRecursion IsQualifier l) e.is all) in
    let star = starless e.start c end h one in
    let found = covers_end (map tokens e.before) (map token_of (e.start ++ c ∷ end)) (qualifiers r) (are_plain (e.start ++ c ∷ end) star)
    (subst (λ (ts : List (List Token)). Covers ts (qualifiers r)) (ap (map tokens) e.is ∙ map_last e.before (e.start ++ c ∷ end)
    ∙ ap (λ (t : List Token). map tokens e.before ++ t ∷ []) (plain_tokens (e.start ++ c ∷ end) star)) covers) in
    let match = match_end e.start (c ∷ end) found.last star h found.matched in
    (found.before, match.0, found.is ∙ ap (λ (t : List ℕ). found.before ++ t ∷ []) match.1)

too_long : (ys end : List ℕ) (y : ℕ) → end ≡ ys ++ y ∷ end → ⊥
too_long ys end y e = absurd (let long : length end ≡ length ys + suc (length end) = ap length e ∙ length-append ys (y ∷ end) in omega (arith, long))

pub same_place : (xs ys : List ℕ) (x y : ℕ) (end : List ℕ) → xs ++ x ∷ end ≡ ys ++ y ∷ end → x ≡ y
same_place [] [] x y end e = cc
same_place [] (z ∷ ys) x y end e = let rest : end ≡ ys ++ y ∷ end = cc in absurd (too_long ys end y rest)
same_place (z ∷ xs) [] x y end e = let rest : end ≡ xs ++ x ∷ end = cc in absurd (too_long xs end x rest)
same_place (z ∷ xs) (w ∷ ys) x y end e = let rest : xs ++ x ∷ end ≡ ys ++ y ∷ end = cc in same_place xs ys x y end rest

-- the character before the last ones of a resource
same_last : (s end y : List ℕ) (c d : ℕ) (before : List (List ℕ)) → has_period end ≡ false
    → qualifiers (s ++ d ∷ end) ≡ before ++ (y ++ c ∷ end) ∷ [] → c ≡ d
same_last s end y c d before h is =
    elim (eqb_tells d 46) [
      | inl period ↦ (let split : qualifiers (s ++ d ∷ end) ≡ qualifiers s ++ end ∷ [] =
          ap (λ x. qualifiers (s ++ x ∷ end)) period.1 ∙ qualifiers_period s end ∙ ap (λ l. qualifiers s ++ l) (one_qualifier end h) in
          absurd (too_long y end c (last_same (qualifiers s) before end (y ++ c ∷ end) (sym split ∙ is))))
      | inr other ↦ (let e = ends_in s (d ∷ end) (ap (λ b. b || has_period end) other.0 ∙ h) in
          sym (same_place e.start y d c end (last_same e.before before (e.start ++ d ∷ end) (y ++ c ∷ end) (sym e.is ∙ is))))
    ]

pub differ : (p r p' r' : List ℕ) (c d : ℕ) → p ≡ p' ++ c ∷ [] → r ≡ r' ++ d ∷ [] → is_fixed c ≡ true → c ≢ d → CannotCover p r
differ p r p' r' c d is_p is_r h other end ends all covers =
    let text : p ++ end ≡ p' ++ c ∷ end = ap (λ l. l ++ end) is_p ∙ append_assoc p' (c ∷ []) end in
    let name : r ++ end ≡ r' ++ d ∷ end = ap (λ l. l ++ end) is_r ∙ append_assoc r' (d ∷ []) end in
    let fixed_end : list_all is_fixed (c ∷ end) ≡ true = and_true (is_fixed c) (list_all is_fixed end) h ends in
    let found = covered_ends p' (r' ++ d ∷ end) end c fixed_end
    (subst (λ (l : List ℕ). AllByRecursion IsQualifier (qualifiers l)) text all)
    (subst (λ (l : List ℕ). CoversText l (r' ++ d ∷ end)) text (subst (λ (l : List ℕ). CoversText (p ++ end) l) name covers)) in
    other (same_last r' end found.1 c d found.0 (fixed_unsplit end ends) found.2)

pub alike : (p r p' r' : List ℕ) (c d : ℕ) → p ≡ p' ++ c ∷ [] → r ≡ r' ++ d ∷ [] → is_fixed c ≡ true → c ≡ d → CannotCover p' r' → CannotCover p r
alike p r p' r' c d is_p is_r h same none end ends all covers =
    let text : p ++ end ≡ p' ++ c ∷ end = ap (λ l. l ++ end) is_p ∙ append_assoc p' (c ∷ []) end in
    let name : r ++ end ≡ r' ++ c ∷ end =
    ap (λ l. l ++ end) is_r ∙ append_assoc r' (d ∷ []) end ∙ ap (λ x. r' ++ x ∷ end) (sym same) in
    none (c ∷ end) (and_true (is_fixed c) (list_all is_fixed end) h ends)
    (subst (λ (l : List ℕ). AllByRecursion IsQualifier (qualifiers l)) text all)
    (subst (λ (l : List ℕ). CoversText l (r' ++ c ∷ end)) text (subst (λ (l : List ℕ). CoversText (p ++ end) l) name covers))

-- in the code
pub not_covered_so : (p r : List ℕ) → AllByRecursion IsQualifier (qualifiers p) → CannotCover p r → false ≡ covers_text p r
not_covered_so p r all none = go (covers_text p r) refl
  where
    go : (b : Bool) → covers_text p r ≡ b → false ≡ b
    go false is = refl
    go true is =
        absurd (none [] refl (subst (λ (l : List ℕ). AllByRecursion IsQualifier (qualifiers l)) (sym (append-nil p)) all)
        (subst (λ (l : List ℕ). CoversText l (r ++ [])) (sym (append-nil p)) (subst (λ (l : List ℕ). CoversText p l) (sym (append-nil r))
        ((text_computes (covers_text p r) p r refl).0 is))))
