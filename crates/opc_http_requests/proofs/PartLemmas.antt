-- Parts of a path, and what rows of routes take of them.
use Rattle.std.proofs.Common.{
  ◌≡◌,
  ◌≢◌,
  ◌∙◌,
  ◌<◌,
  ◌-◌,
  ◌+◌,
  ◌++◌,
  ◌∷◌,
  ◌⊎◌,
  [],
  ℕ,
  List,
  Bool,
  true,
  false,
  Some,
  None,
  refl,
  sym,
  ap,
  subst,
  cond,
  drop,
  length,
  arith,
  inl,
  inr,
  suc,
  zero,
}
use Rattle.std.specs.Prelude.{Option, nat_eq, ◌==◌, ◌&&◌, ltb}
use Rattle.std.specs.List.{ends_with, starts_with}
use Rattle.std.specs.Str.{bytes_eq}
use Rattle.std.proofs.lemmas.Bool.{cases_Bool, eqb-true}
use Rattle.matchit.specs.Level.{IsText}
use Rattle.std.proofs.lemmas.Bool.Decides.{nat_tests}
use Rattle.std.proofs.lemmas.List.{length-append}
use Rattle.std.proofs.Math.Seq.{drop-append_seam, drop-length}
use Rattle.matchit.specs.Rows.{Rows, catch_all_token, prepend, param_token}
use Rattle.matchit.specs.Seek.{better, cuts, first, has_slash, longest_suffix, own, param_step, seek, segment, step, with_suffix}
use Rattle.matchit.proofs.SeekLemmas.{or_else-none, param_step-empty, prepend-nil, seek-empty, step-hit, step-miss}
use Rattle.matchit.proofs.ParamLemmas.{seek-after}
use Rattle.opc_http_requests.specs.Routes.{after_part, if_none, last_part, part}

true-false : true ≡ false → ⊥
true-false e = cc

-- a part of a path ends at its first slash
segment-part : (a r : List ℕ) → has_slash a ≡ false → segment (a ++ 47 ∷ r) ≡ a ++ 47 ∷ []
segment-part [] r h = refl
segment-part (b ∷ a) r h = elim (cases_Bool (b == 47)) [
  | inl slash ↦ absurd (true-false (rw slash at h))
  | inr other ↦ rw other (ap (λ (t : List ℕ). b ∷ t) (segment-part a r (rw other at h)))
]

cuts-part : (x : ℕ) (a : List ℕ) → cuts ((x ∷ a) ++ 47 ∷ []) (47 ∷ []) ≡ true
cuts-part x a =
    let len : length ((x ∷ a) ++ 47 ∷ []) ≡ length (x ∷ a) + 1 = length-append (x ∷ a) (47 ∷ []) in
    let more : ltb 1 (length (x ∷ a) + 1) ≡ true = grind (arith, nat_tests) in
    let back : length (x ∷ a) + 1 - 1 ≡ length (x ∷ a) = omega arith in
    rw (len, more, back, drop-append_seam (x ∷ a) (47 ∷ [])) refl

-- rows that all begin with a slash
pub record Slashed (rows : Rows) : Type 0 where
  pub longest : (seg : List ℕ) → longest_suffix seg rows ≡ better seg [] (47 ∷ [])
  pub keeps : with_suffix (47 ∷ []) rows ≡ rows

param-part : (rows : Rows) → Slashed rows → (x : ℕ) (a r : List ℕ) → has_slash (x ∷ a) ≡ false
    → param_step rows ((x ∷ a) ++ 47 ∷ r) ≡ (length (x ∷ a), rows)
unfolding param_step
param-part rows s x a r h =
    let seg : segment ((x ∷ a) ++ 47 ∷ r) ≡ (x ∷ a) ++ 47 ∷ [] = segment-part (x ∷ a) r h in
    let long : longest_suffix ((x ∷ a) ++ 47 ∷ []) rows ≡ 47 ∷ [] = s.longest ((x ∷ a) ++ 47 ∷ []) ∙ rw (cuts-part x a) refl in
    let len : length ((x ∷ a) ++ 47 ∷ []) - 1 ≡ length (x ∷ a) = omega (arith, length-append (x ∷ a) (47 ∷ [])) in
    rw (seg, long, s.keeps, len) refl

-- a parameter that is not the last part
pub first-part : (rows : Rows) → Slashed rows → (x : ℕ) (a r : List ℕ) → x < 256 → has_slash (x ∷ a) ≡ false
    → first (prepend (param_token ∷ []) rows) ((x ∷ a) ++ 47 ∷ r) ≡ first rows (47 ∷ r)
unfolding seek
first-part rows s x a r byte h =
    let n1 : param_token ≢ x = λ e. omega arith in
    let n2 : param_token ≢ catch_all_token = λ e. omega arith in
    simp (
      step-miss x param_token [] rows n1,
      step-miss catch_all_token param_token [] rows n2,
      step-hit param_token [] rows,
      prepend-nil rows,
      seek-empty 0 (a ++ 47 ∷ r),
      or_else-none,
      param-part rows s x a r h,
    )
    (seek-after (length (x ∷ a)) rows x (a ++ 47 ∷ r) (omega arith) ∙ ap (λ (t : List ℕ). first rows t) (drop-append_seam (x ∷ a) (47 ∷ r)))

-- ---- the cases of a parameter

pointwise-not : (q : List ℕ) → has_slash q ≡ false → ends_with nat_eq q (47 ∷ []) ≡ false
pointwise-not [] h = refl
pointwise-not (b ∷ []) h = elim (cases_Bool (b == 47)) [
  | inl slash ↦ absurd (true-false (rw slash at h))
  | inr other ↦ let flip : nat_eq 47 b ≡ false = grind (arith, nat_tests) in rw flip refl
]
pointwise-not (b ∷ c ∷ rest) h = elim (cases_Bool (b == 47)) [
  | inl slash ↦ absurd (true-false (rw slash at h))
  | inr other ↦
      let one : suc (length (c ∷ rest)) - 1 ≡ length (c ∷ rest) = omega arith in
      let two : suc (length rest) - 1 ≡ length rest = omega arith in
      rw one (rw two at (pointwise-not (c ∷ rest) (rw other at h)))
]

segment-whole : (q : List ℕ) → has_slash q ≡ false → segment q ≡ q
segment-whole [] h = refl
segment-whole (b ∷ rest) h = elim (cases_Bool (b == 47)) [
  | inl slash ↦ absurd (true-false (rw slash at h))
  | inr other ↦ rw other (ap (λ (t : List ℕ). b ∷ t) (segment-whole rest (rw other at h)))
]

-- one row whose tokens are all taken
end-row : (n b : ℕ) (z : List ℕ) → first (([], n) ∷ []) (b ∷ z) ≡ None
unfolding seek
end-row n b z = simp (seek-empty 0 z, param_step-empty (b ∷ z), seek-empty ((param_step {K = ℕ} [] (b ∷ z)).0 - 1) z) refl

-- rows that begin with bytes
pub lit : (rows : Rows) (y : ℕ) (p : List ℕ) → step param_token rows ≡ [] → step catch_all_token rows ≡ [] → seek 0 rows (y ∷ p) ≡ seek 0 (step y rows) p
unfolding seek
lit rows y p none none_all = simp (none, none_all, param_step-empty (y ∷ p), seek-empty ((param_step {K = ℕ} [] (y ∷ p)).0 - 1) p, or_else-none)

-- a literal text to the end
pub literal-end : (w : List ℕ) (n : ℕ) (p : List ℕ)
    → cond (starts_with nat_eq p w) (first (([], n) ∷ []) (drop (length w) p)) None ≡ cond (bytes_eq p w) (Some n) None
unfolding seek
literal-end [] n [] = refl
literal-end [] n (b ∷ p) = end-row n b p
literal-end (x ∷ w) n [] = refl
literal-end (x ∷ w) n (b ∷ p) = elim (cases_Bool (nat_eq b x)) [
  | inl same ↦ let flip : nat_eq x b ≡ true = grind (arith, nat_tests) in rw (same, flip) (literal-end w n p)
  | inr other ↦ let flip : nat_eq x b ≡ false = grind (arith, nat_tests) in rw (other, flip) refl
]

-- a parameter at the end
param-end : (n b : ℕ) (k : List ℕ) → param_step (([], n) ∷ []) (b ∷ k) ≡ cond (has_slash (b ∷ k)) (0, []) (length (b ∷ k), ([], n) ∷ [])
unfolding param_step
param-end n b k = refl

pub first-last : (n b : ℕ) (k : List ℕ) → b < 256 → has_slash (b ∷ k) ≡ false → first (prepend (param_token ∷ []) (([], n) ∷ [])) (b ∷ k) ≡ Some n
unfolding seek
first-last n b k byte h =
    let n1 : param_token ≢ b = λ e. omega arith in
    let n2 : param_token ≢ catch_all_token = λ e. omega arith in
    let rows : Rows = ([], n) ∷ [] in
    let taken : param_step rows (b ∷ k) ≡ (length (b ∷ k), rows) = param-end n b k ∙ rw h refl in
    rw (step-miss b param_token [] rows n1, step-miss catch_all_token param_token [] rows n2, step-hit param_token [] rows, taken)
    (simp (seek-empty 0 k, or_else-none) (seek-after (length (b ∷ k)) rows b k (omega arith) ∙ rw (drop-length (b ∷ k)) refl))

pub first-last-slash : (n b : ℕ) (k : List ℕ) → b < 256 → has_slash (b ∷ k) ≡ true → first (prepend (param_token ∷ []) (([], n) ∷ [])) (b ∷ k) ≡ None
unfolding seek
first-last-slash n b k byte h =
    let n1 : param_token ≢ b = λ e. omega arith in
    let n2 : param_token ≢ catch_all_token = λ e. omega arith in
    let rows : Rows = ([], n) ∷ [] in
    let taken : param_step rows (b ∷ k) ≡ (0, []) = param-end n b k ∙ rw h refl in
    rw (step-miss b param_token [] rows n1, step-miss catch_all_token param_token [] rows n2, step-hit param_token [] rows, taken) (simp (seek-empty 0 k) refl)

-- ---- a path, cut at its first slash

pub part-whole : (q : List ℕ) → has_slash q ≡ false → (part q ≡ q) × (after_part q ≡ [])
part-whole [] h = (refl, refl)
part-whole (b ∷ q) h = elim (cases_Bool (b == 47)) [
  | inl slash ↦ absurd (true-false (rw slash at h))
  | inr other ↦ let rest = part-whole q (rw other at h) in (rw other (ap (λ (t : List ℕ). b ∷ t) rest.0), rw other rest.1)
]

pub part-cut : (a r : List ℕ) → has_slash a ≡ false → (part (a ++ 47 ∷ r) ≡ a) × (after_part (a ++ 47 ∷ r) ≡ 47 ∷ r)
part-cut [] r h = (refl, refl)
part-cut (b ∷ a) r h = elim (cases_Bool (b == 47)) [
  | inl slash ↦ absurd (true-false (rw slash at h))
  | inr other ↦ let rest = part-cut a r (rw other at h) in (rw other (ap (λ (t : List ℕ). b ∷ t) rest.0), rw other rest.1)
]

-- a path has no slash, or is cut at its first one
abbrev Cut : List ℕ → Type 0
Cut q = (has_slash q ≡ false) ⊎ ((a : List ℕ) × (r : List ℕ) × (q ≡ a ++ 47 ∷ r) × (has_slash a ≡ false))

pub cut : (q : List ℕ) → Cut q
cut [] = inl refl
cut (b ∷ q) = elim (cases_Bool (b == 47)) [
  | inl slash ↦ inr ([], q, ap (λ (n : ℕ). n ∷ q) (eqb-true b 47 slash), refl)
  | inr other ↦ elim (cut q) [
    | inl none ↦ inl (rw other none)
    | inr found ↦ inr (b ∷ found.0, found.1, ap (λ (t : List ℕ). b ∷ t) found.2, rw other found.3)
  ]
]

has-cut : (a r : List ℕ) → has_slash (a ++ 47 ∷ r) ≡ true
has-cut [] r = refl
has-cut (b ∷ a) r = elim (cases_Bool (b == 47)) [
  | inl slash ↦ rw slash refl
  | inr other ↦ rw other (has-cut a r)
]

-- the last part
pub last-route : (n : ℕ) (k : List ℕ) → IsText k → first (prepend (param_token ∷ []) (([], n) ∷ [])) k ≡ last_part n k
unfolding seek
last-route n [] text = refl
last-route n (b ∷ k) text = elim (cut (b ∷ k)) [
  | inl none ↦ rw (part-whole (b ∷ k) none).1 (first-last n b k text.0 none)
  | inr found ↦
      let rest : after_part (b ∷ k) ≡ 47 ∷ found.1 = ap after_part found.2 ∙ (part-cut found.0 found.1 found.3).1 in
      let slash : has_slash (b ∷ k) ≡ true = ap has_slash found.2 ∙ has-cut found.0 found.1 in
      rw rest (first-last-slash n b k text.0 slash)
]

-- a parameter before these rows: none of the path is left for it, or no slash ends it
first-empty-part : (rows : Rows) → Slashed rows → (r : List ℕ) → first (prepend (param_token ∷ []) rows) (47 ∷ r) ≡ None
unfolding seek param_step
first-empty-part rows s r =
    let n1 : param_token ≢ 47 = λ e. omega arith in
    let n2 : param_token ≢ catch_all_token = λ e. omega arith in
    let taken : param_step rows (47 ∷ r) ≡ (0, []) = rw (s.longest (47 ∷ [])) refl in
    rw (
      step-miss 47 param_token [] rows n1,
      step-miss catch_all_token param_token [] rows n2,
      step-hit param_token [] rows,
      prepend-nil rows,
      taken,
    ) (simp (seek-empty 0 r) refl)

and-false : (u : Bool) → (u && false) ≡ false
and-false true = refl
and-false false = refl

first-no-slash : (rows : Rows) → Slashed rows → first rows [] ≡ None → (x : ℕ) (a : List ℕ) → x < 256
    → has_slash (x ∷ a) ≡ false → first (prepend (param_token ∷ []) rows) (x ∷ a) ≡ None
unfolding seek param_step
first-no-slash rows s ends x a byte h =
    let n1 : param_token ≢ x = λ e. omega arith in
    let n2 : param_token ≢ catch_all_token = λ e. omega arith in
    let seg : segment (x ∷ a) ≡ x ∷ a = segment-whole (x ∷ a) h in
    let long : longest_suffix (x ∷ a) rows ≡ [] = s.longest (x ∷ a) ∙ rw (pointwise-not (x ∷ a) h, and-false (ltb 1 (length (x ∷ a)))) refl in
    let taken : param_step rows (x ∷ a) ≡ (length (x ∷ a), rows) = rw (seg, long, h) refl in
    rw (step-miss x param_token [] rows n1, step-miss catch_all_token param_token [] rows n2, step-hit param_token [] rows, prepend-nil rows, taken)
    (simp (seek-empty 0 a, or_else-none) (seek-after (length (x ∷ a)) rows x a (omega arith) ∙ rw (drop-length (x ∷ a)) ends))

-- a part that is not the last one, before rows that begin with a slash
abbrev part_then : Rows → List ℕ → Option ℕ
part_then rows q = if_none (part q) None (first rows (after_part q))

middle-nil : (rows : Rows) → Slashed rows → first (prepend (param_token ∷ []) rows) [] ≡ None
unfolding seek
middle-nil rows s = rw (prepend-ends rows) refl
  where
    prepend-ends : (rows : Rows) → own (prepend (param_token ∷ []) rows) ≡ None
    prepend-ends [] = refl
    prepend-ends ((t, k) ∷ rows) = prepend-ends rows

middle-cut : (rows : Rows) → Slashed rows → (a r : List ℕ) → IsText (a ++ 47 ∷ r) → has_slash a ≡ false
    → first (prepend (param_token ∷ []) rows) (a ++ 47 ∷ r) ≡ part_then rows (a ++ 47 ∷ r)
middle-cut rows s [] r text h = first-empty-part rows s r
middle-cut rows s (y ∷ a) r text h =
    let at = part-cut (y ∷ a) r h in
    let wanted : part_then rows ((y ∷ a) ++ 47 ∷ r) ≡ first rows (47 ∷ r) = rw (at.0, at.1) refl in
    first-part rows s y a r text.0 h ∙ sym wanted

middle-whole : (rows : Rows) → Slashed rows → first rows [] ≡ None → (x : ℕ) (q : List ℕ) → x < 256 → has_slash (x ∷ q) ≡ false
    → first (prepend (param_token ∷ []) rows) (x ∷ q) ≡ part_then rows (x ∷ q)
middle-whole rows s ends x q byte h =
    let whole = part-whole (x ∷ q) h in
    let wanted : part_then rows (x ∷ q) ≡ None = rw (whole.0, whole.1) ends in
    first-no-slash rows s ends x q byte h ∙ sym wanted

pub middle-first : (rows : Rows) → Slashed rows → first rows [] ≡ None → (q : List ℕ) → IsText q → first (prepend (param_token ∷ []) rows) q ≡ part_then rows q
middle-first rows s ends [] text = middle-nil rows s
middle-first rows s ends (x ∷ q) text = elim (cut (x ∷ q)) [
  | inl none ↦ middle-whole rows s ends x q text.0 none
  | inr found ↦ subst (λ (t : List ℕ). first (prepend (param_token ∷ []) rows) t ≡ part_then rows t) (sym found.2)
      (middle-cut rows s found.0 found.1 (subst IsText found.2 text) found.3)
]

pub under : (u : Bool) (a b : Option ℕ) → a ≡ b → cond u a None ≡ cond u b None
under u a b e = ap (λ (o : Option ℕ). cond u o None) e

pub IsText-drop : (n : ℕ) (p : List ℕ) → IsText p → IsText (drop n p)
IsText-drop zero p text = text
IsText-drop (suc n) [] text = text
IsText-drop (suc n) (b ∷ p) text = IsText-drop n p text.1

pub IsText-after : (p : List ℕ) → IsText p → IsText (after_part p)
IsText-after [] text = text
IsText-after (b ∷ p) text = elim (cases_Bool (b == 47)) [
  | inl slash ↦ rw slash text
  | inr other ↦ rw other (IsText-after p text.1)
]
