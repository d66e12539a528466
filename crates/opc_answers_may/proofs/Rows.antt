-- Consoles, at most seven in a line.
use Rattle.std.proofs.Common.{
  ◌≡◌,
  ◌+◌,
  ◌==◌,
  ◌≤◌,
  ◌<◌,
  ◌∙◌,
  ap,
  sym,
  refl,
  ℕ,
  Bool,
  true,
  false,
  List,
  [],
  ◌∷◌,
  ◌++◌,
  append_assoc,
  append-nil,
  drop,
  get_or,
  length,
  map,
  take,
  arith,
}
use Rattle.std.specs.List.{flat_map}
use Rattle.std.proofs.lemmas.List.{flat_map_more, take_more}
use Rattle.opc_answers_may.specs.declared.logons.LogonAt.{LogonAt}
use Rattle.opc_answers_may.proofs.Lines.{none_there}
use Rattle.opc_answers_may.specs.MayTexts.{console_of, logon_row, sevens, with_name, with_names}

pub seven_first : (logons : List LogonAt) → 7 < length logons → sevens logons ≡ take 7 logons ∷ sevens (drop 7 logons)
seven_first [] many = absurd (omega (arith, many))
seven_first (a ∷ []) many = absurd (omega (arith, many))
seven_first (a ∷ b ∷ []) many = absurd (omega (arith, many))
seven_first (a ∷ b ∷ c ∷ []) many = absurd (omega (arith, many))
seven_first (a ∷ b ∷ c ∷ d ∷ []) many = absurd (omega (arith, many))
seven_first (a ∷ b ∷ c ∷ d ∷ e ∷ []) many = absurd (omega (arith, many))
seven_first (a ∷ b ∷ c ∷ d ∷ e ∷ f ∷ []) many = absurd (omega (arith, many))
seven_first (a ∷ b ∷ c ∷ d ∷ e ∷ f ∷ g ∷ more) many = refl

pub few_alone : (logons : List LogonAt) → 1 ≤ length logons → length logons ≤ 7 → sevens logons ≡ logons ∷ []
few_alone [] some few = absurd (omega (arith, some))
few_alone (a ∷ []) some few = refl
few_alone (a ∷ b ∷ []) some few = refl
few_alone (a ∷ b ∷ c ∷ []) some few = refl
few_alone (a ∷ b ∷ c ∷ d ∷ []) some few = refl
few_alone (a ∷ b ∷ c ∷ d ∷ e ∷ []) some few = refl
few_alone (a ∷ b ∷ c ∷ d ∷ e ∷ f ∷ []) some few = refl
few_alone (a ∷ b ∷ c ∷ d ∷ e ∷ f ∷ g ∷ []) some few = refl
few_alone (a ∷ b ∷ c ∷ d ∷ e ∷ f ∷ g ∷ h ∷ more) some few = absurd (omega (arith, few))

pub some_of : (logons : List LogonAt) (b : Bool) → b ≡ (length logons == 0) → b ≡ false → 1 ≤ length logons
some_of [] b is some = let bad : true ≡ false = sym none_there ∙ sym is ∙ some in cc
some_of (l ∷ logons) b is some = omega arith

pub rows_few : (column : List ℕ) (logons : List LogonAt) (old row new : List ℕ) → 1 ≤ length logons → length logons ≤ 7
    → row ≡ logon_row column logons → new ≡ old ++ row → new ≡ old ++ flat_map (logon_row column) (sevens logons)
rows_few column logons old row new some few is added =
    added ∙ ap (λ t. old ++ t) (is ∙ sym (append-nil (logon_row column logons)))
    ∙ sym (ap (λ rows. old ++ flat_map (logon_row column) rows) (few_alone logons some few))

pub rows_more : (column : List ℕ) (logons first rest : List LogonAt) (old row one new : List ℕ) → 7 < length logons
    → first ≡ take 7 logons → rest ≡ drop 7 logons → row ≡ logon_row column first → one ≡ old ++ row
    → new ≡ one ++ flat_map (logon_row column) (sevens rest) → new ≡ old ++ flat_map (logon_row column) (sevens logons)
rows_more column logons first rest old row one new many is_first is_rest is begun ended =
    let f : List LogonAt → List ℕ = logon_row column in
    ended ∙ ap (λ t. t ++ flat_map f (sevens rest)) (begun ∙ ap (λ t. old ++ t) (is ∙ ap f is_first))
    ∙ append_assoc old (f (take 7 logons)) (flat_map f (sevens rest))
    ∙ ap (λ l. old ++ (f (take 7 logons) ++ flat_map f (sevens l))) is_rest
    ∙ sym (ap (λ rows. old ++ flat_map f rows) (seven_first logons many))

pub rows_none : (column : List ℕ) (logons : List LogonAt) (old : List ℕ) → length logons ≡ 0
    → old ≡ old ++ flat_map (logon_row column) (sevens logons)
rows_none column [] old none = sym (append-nil old)
rows_none column (l ∷ logons) old none = absurd (omega (arith, none))

pub consoles_more : (row : List LogonAt) (l : LogonAt) (old one new : List ℕ) → 1 ≤ length row → l ≡ get_or row 0 l
    → one ≡ with_name old l.console → new ≡ with_names one (map console_of (drop 1 row)) → new ≡ with_names old (map console_of row)
consoles_more [] l old one new some is begun ended = absurd (omega (arith, some))
consoles_more (x ∷ row) l old one new some is begun ended =
    ended ∙ ap (λ t. with_names t (map console_of row)) (begun ∙ ap (λ k. with_name old (console_of k)) is)

pub consoles_none : (row : List LogonAt) (old : List ℕ) → length row < 1 → old ≡ with_names old (map console_of row)
consoles_none [] old none = refl
consoles_none (l ∷ row) old none = absurd (omega (arith, none))

-- one more of a list of texts
pub flat_more : {A : Type 0} (f : A → List ℕ) (all : List A) (i : ℕ) (x : A) (old add new : List ℕ) → i < length all → x ≡ get_or all i x
    → old ≡ flat_map f (take i all) → add ≡ f x → new ≡ old ++ add → new ≡ flat_map f (take (i + 1) all)
flat_more f all i x old add new low is was said added =
    added ∙ ap (λ t. t ++ add) was ∙ ap (λ t. flat_map f (take i all) ++ t) said ∙ flat_map_more f [] (take i all) x
    ∙ sym (ap (flat_map f) (take_more all i x low ∙ ap (λ y. take i all ++ y ∷ []) (sym is)))
