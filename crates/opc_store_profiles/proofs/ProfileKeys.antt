-- Profiles by their keys, and what the removal of rows of profiles sets off.
use Rattle.std.proofs.Common.{◌≡◌, inl, inr, ℕ, List, [], ◌∷◌, map, ◌&&◌, drop, Bool, true, false, refl, sym, ap, ◌∙◌, IsPermutation}
use Rattle.std.specs.List.{list_any, AllByRecursion}
use Rattle.std.proofs.lemmas.Bool.{cases_Bool}
use Rattle.std.proofs.lemmas.List.Sorted.{IsPermutation-sym, IsPermutation-trans}
use Rattle.sqlite.specs.declared.types.Value.TheVariants.{Text}
use Rattle.sqlite.specs.Order.{Row, column}
use Rattle.sqlite_rules.specs.Action.{Work, works, pairs, loses, is_child_of}
use Rattle.sqlite_rules.specs.Lists.{Has}
use Rattle.sqlite_schema.specs.Rules.{agree, equal}
use Rattle.sqlite_schema.specs.Names.{same_name}
use Rattle.sqlite_schema.specs.declared.schema.Keys.TheVariants.{Enforced}
use Rattle.sqlite_value.specs.Keys.{plain, joined, first_key}
use Rattle.sqlite_value.specs.declared.keys.Collation.TheVariants.{Binary}
use Rattle.sqlite_keyed.proofs.ListLemmas.{all-map, all_unmap}
use Rattle.opc_store_sql.specs.Rows.{HasRows}
use Rattle.opc_store_sql.proofs.Rows.{all_along}
use Rattle.opc_names.specs.declared.class.Class.{Class}
use Rattle.opc_names.specs.Spellings.{class_text}
use Rattle.opc_policy_members.specs.declared.profile.Profile.{Profile}
use Rattle.opc_store_schema.specs.Tables.{the_schema}
use Rattle.opc_store_schema.specs.Placed.{profiles_at, entries_at}
use Rattle.opc_store_schema.specs.Represented.{profile_row}
use Rattle.opc_store_schema.proofs.ProfileTexts.{has_profile, picks_profile}
use Rattle.opc_store_schema.proofs.AccessLists.{is_of_means}

pub same_rows : (xs ys rows : List Row) → IsPermutation xs ys → HasRows xs rows → HasRows ys rows
same_rows xs ys rows same h = record { each = IsPermutation-trans _ _ _ (IsPermutation-sym _ _ same) h.each; kept = h.kept }

-- ---- what rows of profiles that are removed set off: nothing, if no entry of them is left

pub record IsOnEntries (olds : List Row) (w : Work) : Type 0 where
  pub tree : w.child.tree ≡ entries_at.tree
  pub columns : w.ref.columns ≡ 1 ∷ 2 ∷ []
  pub places : w.places ≡ 1 ∷ 2 ∷ []
  pub order : w.order ≡ plain
  pub moves : w.moves ≡ pairs olds []

pub profile_works : (olds : List Row) (w : Work) → Has (works the_schema Enforced 0 profiles_at.tree olds []) w → IsOnEntries olds w
unfolding same_name joined
profile_works olds w h = elim (cases_Bool (list_any (loses plain (1 ∷ 2 ∷ [])) (pairs olds []))) [
  | inl some ↦ (elim (rw some at h) [
    | inl e ↦ record {
      tree = ap (λ (x : Work). x.child.tree) e;
      columns = ap (λ (x : Work). x.ref.columns) e;
      places = ap (λ (x : Work). x.places) e;
      order = ap (λ (x : Work). x.order) e;
      moves = ap (λ (x : Work). x.moves) e;
    }
    | inr nothing ↦ absurd nothing
  ])
  | inr none ↦ absurd (rw none at h)
]

-- a row with this key, and one without it
abbrev pub HasKey : Class → List ℕ → Row → Type 0
HasKey class pattern r = (column r 1 ≡ Text (class_text class)) × (column r 2 ≡ Text pattern)

abbrev pub lacks : Class → List ℕ → Row → Bool
lacks class pattern r = equal Binary (column r 1) (Text (class_text class)) && (equal Binary (column r 2) (Text pattern) && true)

pub and_false : (b : Bool) → (b && false) ≡ false
and_false true = refl
and_false false = refl

pub no_child_in : (class : Class) (pattern : List ℕ) (olds : List Row) (r : Row) → AllByRecursion (HasKey class pattern) olds → lacks class pattern r ≡ false
    → list_any (λ (move : Row × Row). loses plain (1 ∷ 2 ∷ []) move && agree plain (1 ∷ 2 ∷ []) r (1 ∷ 2 ∷ []) move.0) (pairs olds []) ≡ false
unfolding first_key
no_child_in class pattern [] r keys not_here = refl
no_child_in class pattern (old ∷ olds) r keys not_here =
    let miss : agree plain (1 ∷ 2 ∷ []) r (1 ∷ 2 ∷ []) old ≡ false = rw (keys.0.0, keys.0.1) not_here in
    rw (miss, and_false (loses plain (1 ∷ 2 ∷ []) (old, []))) (no_child_in class pattern olds r keys.1 not_here)

pub no_child : (class : Class) (pattern : List ℕ) (olds : List Row) (w : Work) (r : Row) → IsOnEntries olds w
    → AllByRecursion (HasKey class pattern) olds → lacks class pattern r ≡ false
    → list_any (is_child_of w r) w.moves ≡ false
no_child class pattern olds w r on keys not_here = rw (on.order, on.places, on.columns, on.moves) (no_child_in class pattern olds r keys not_here)

pub lacks_is : (class : Class) (pattern : List ℕ) (r : Row) → has_profile class pattern (drop 1 r) ≡ lacks class pattern r
lacks_is class pattern [] = refl
lacks_is class pattern (v ∷ r) = refl

-- the values are those of a profile
abbrev pub IsProfile : Row → Type 0
IsProfile v = (p : Profile) × (v ≡ profile_row p)

pub keyed : (class : Class) (pattern : List ℕ) (r : Row) → IsProfile (drop 1 r) → has_profile class pattern (drop 1 r) ≡ true → HasKey class pattern r
keyed class pattern [] is hit = absurd (let e = is.1 in cc)
keyed class pattern (v ∷ r) is hit =
    let p = is.0 in
    let mine = is_of_means class pattern p (sym (picks_profile class pattern p) ∙ (ap (has_profile class pattern) (sym is.1) ∙ hit)) in
    (ap (λ (l : Row). column l 0) is.1 ∙ ap (λ c. Text (class_text c)) mine.0, ap (λ (l : Row). column l 1) is.1 ∙ ap (λ t. Text t) mine.1)

pub all_profiles : (ps : List Profile) (rows : List Row) → HasRows (map profile_row ps) rows → AllByRecursion (λ r. IsProfile (drop 1 r)) rows
all_profiles ps rows h = all_unmap IsProfile (λ (r : Row). drop 1 r) rows (all_along IsProfile _ _ h.each (all-map IsProfile profile_row (λ p. (p, refl)) ps))
