-- A binary search finds the entry for an id and a condition.
use Rattle.std.proofs.Common.{
  ◌≡◌,
  ℕ,
  ◌<◌,
  zero,
  suc,
  Bool,
  true,
  List,
  [],
  ◌∷◌,
  Option,
  Some,
  None,
  Result,
  Ok,
  Err,
  MatchResult,
  get_or,
  length,
  refl,
  sym,
  subst,
  ap,
  ap₂,
  ◌∙◌,
  arith,
}
use Rattle.std.specs.Prelude.{◌&&◌, option_map, position, find}
use Rattle.std.specs.Cmp.{IsTotalOrder, tied_then}
use Rattle.std.specs.Cmp.Lexicographic.{nat_list_cmp_total, options_total, slice_cmp}
use Rattle.std.specs.List.{AllByRecursion}
use Rattle.std.specs.List.Sorted.{IsBinarySearchResult, IsSearchInRange}
use Rattle.std.specs.Option.{option_cmp, option_eq}
use Rattle.std.specs.Ordering.{is_eq, is_lt, nat_cmp, ordering_then}
use Rattle.std.specs.Str.{bytes_eq}
use Rattle.std.specs.declared.cmp.Ordering.{Ordering}
use Rattle.std.specs.declared.cmp.Ordering.TheVariants.{Less}
use Rattle.std.proofs.lemmas.Cmp.{on_total, then_total}
use Rattle.std.proofs.lemmas.Map.Text.{is_eq-slice_cmp}
use Rattle.opc_names.specs.declared.level.Level.{Level}
use Rattle.opc_policy_members.specs.Access.{AreInOrder, entry_cmp, entry_level, is_for}
use Rattle.opc_policy_members.specs.declared.entry.Entry.{Entry}
use Rattle.opc_rows.specs.Ordered.{IsInKeyOrder, comes_before}
use Rattle.opc_rows.proofs.Places.{found_there, place_found}
use Rattle.opc_rows.proofs.Search.{searched}

-- an entry's id and condition
abbrev pub Key : Type 0
Key = List ℕ × Option (List ℕ)

abbrev pub key_of : Entry → Key
key_of e = (e.id, e.when)

abbrev pub key_cmp : Key → Key → Ordering
key_cmp k l = ordering_then (slice_cmp nat_cmp k.0 l.0) (option_cmp (slice_cmp nat_cmp) k.1 l.1)

abbrev pub key_eq : Key → Key → Bool
key_eq k l = bytes_eq k.0 l.0 && option_eq bytes_eq k.1 l.1

order : IsTotalOrder key_cmp
order = then_total (on_total (λ (k : Key). k.0) nat_list_cmp_total) (on_total (λ (k : Key). k.1) (options_total nat_list_cmp_total))

same_when : (w v : Option (List ℕ)) → option_eq bytes_eq w v ≡ is_eq (option_cmp (slice_cmp nat_cmp) w v)
same_when None None = refl
same_when None (Some v) = refl
same_when (Some w) None = refl
same_when (Some w) (Some v) = sym (is_eq-slice_cmp w v)

ties : (k l : Key) → key_eq k l ≡ is_eq (key_cmp k l)
ties k l =
    ap₂ (λ a b. a && b) (sym (is_eq-slice_cmp k.0 l.0)) (same_when k.1 l.1)
    ∙ tied_then (slice_cmp nat_cmp k.0 l.0) (option_cmp (slice_cmp nat_cmp) k.1 l.1)

before_all : (e : Entry) (entries : List Entry) → ((k : ℕ) (d : Entry) → k < length entries → entry_cmp e (get_or entries k d) ≡ Less)
    → AllByRecursion (λ (f : Entry). comes_before key_cmp key_of e f ≡ true) entries
before_all e [] less = tt
before_all e (f ∷ entries) less = (ap is_lt (less 0 f (omega arith)), before_all e entries (λ k d l. less (suc k) d (omega (arith, l))))

ascending : (entries : List Entry) → AreInOrder entries → IsInKeyOrder key_cmp key_of entries
ascending [] h = tt
ascending (e ∷ entries) h = (
  before_all e entries (λ k d l. h 0 (suc k) d (omega arith) (omega (arith, l))),
  ascending entries (λ i j d l m. h (suc i) (suc j) d (omega (arith, l)) (omega (arith, m))),
)

module _ (when : Option (List ℕ)) (id : List ℕ) (entries : List Entry) (in_order : AreInOrder entries) where
  -- where the search ends
  pub ended : (r : Result ℕ ℕ) → IsSearchInRange r (length entries) → IsBinarySearchResult (λ (e : Entry). key_cmp (key_of e) (id, when)) entries r
      → MatchResult r (λ at. position (is_for when id) entries ≡ Some at) (λ _. find (is_for when id) entries ≡ None)
  ended r within found = searched key_cmp order key_eq ties key_of entries (id, when) r (ascending entries in_order) within found

get_or_same : (entries : List Entry) (at : ℕ) (d e : Entry) → at < length entries → get_or entries at d ≡ get_or entries at e
get_or_same [] at d e within = absurd (omega (arith, within))
get_or_same (x ∷ entries) zero d e within = refl
get_or_same (x ∷ entries) (suc at) d e within = get_or_same entries at d e (omega (arith, within))

-- whatever the default with which the entry is read
pub at_its_place : (when : Option (List ℕ)) (id : List ℕ) (entries : List Entry) (at : ℕ) (d : Entry)
    → position (is_for when id) entries ≡ Some at → Some (get_or entries at d).level ≡ entry_level entries when id
at_its_place when id entries at d place =
    let there = place_found (is_for when id) entries at place in
    let within : at < length entries = subst (λ (n : ℕ). n < length entries) there.0 there.1 in
    let read = get_or_same entries at d (get_or entries at d) within in
    ap (λ o. option_map (λ (x : Entry). x.level) o) (sym (found_there (is_for when id) entries at (get_or entries at d) place read))

pub nowhere : (when : Option (List ℕ)) (id : List ℕ) (entries : List Entry) → find (is_for when id) entries ≡ None
    → None ≡ entry_level entries when id
nowhere when id entries none = ap (λ o. option_map (λ (x : Entry). x.level) o) (sym none)
