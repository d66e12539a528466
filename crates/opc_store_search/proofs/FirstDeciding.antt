-- The first profile that covers, of those of a class in their order, is the most specific one.
use Rattle.std.proofs.Common.{
  ◌≡◌,
  ◌⊎◌,
  inl,
  inr,
  ℕ,
  ◌+◌,
  List,
  [],
  ◌∷◌,
  ◌++◌,
  find,
  length,
  Bool,
  true,
  false,
  cond,
  Some,
  None,
  refl,
  sym,
  ap,
  ◌∙◌,
  subst,
  arith,
  Ordering,
  Less,
  Equal,
}
use Rattle.std.specs.List.{AllByRecursion, AllPairs, slice_index_or}
use Rattle.std.specs.Ordering.{ordering_then, is_lt}
use Rattle.std.proofs.lemmas.Cmp.{tied_itself, nat_list_cmp_total}
use Rattle.std.proofs.lemmas.List.Elements.{All-from_recursion, All-cons}
use Rattle.std.proofs.lemmas.List.Kept.{AllPairs-cons}
use Rattle.sqlite_trees.specs.Tree.{IsAscending}
use Rattle.opc_store_sql.specs.Order.{Rises}
use Rattle.opc_store_sql.specs.Taken.{taken_for}
use Rattle.opc_names.specs.Order.{sort_key}
use Rattle.opc_names.specs.Names.{IsPattern}
use Rattle.opc_policy_members.specs.declared.profile.Profile.{Profile}
use Rattle.opc_policy_members.specs.Profiles.{AreProfiles, AreMostSpecificFirst, class_cmp, pattern_cmp, profile_cmp}
use Rattle.opc_policy.specs.Deciding.{deciding}
use Rattle.opc_policy.specs.Examined.{read_until}
use Rattle.opc_policy.proofs.FirstCovering.{AreBefore, NoneCovers, found_first, read_first, none_found}
use Rattle.opc_store_search.specs.Search.{covers}
use Rattle.opc_store_schema.proofs.Keys.{class_total}

-- ---- the order of the keys, pair by pair

all_pairs : {X : Type 0} (R : X → X → Type 0) (xs : List X) → IsAscending R xs → AllPairs R xs
all_pairs R [] up = λ i j d less low. absurd (omega arith)
all_pairs R (x ∷ xs) up = AllPairs-cons R x xs (All-from_recursion (R x) xs up.0) (all_pairs R xs up.1)

one_class : (p q : Profile) → p.class ≡ q.class → profile_cmp p q ≡ Less → pattern_cmp p.pattern q.pattern ≡ Less
one_class p q same less =
    let tie : class_cmp p.class q.class ≡ Equal = ap (class_cmp p.class) (sym same) ∙ tied_itself class_total p.class in
    ap (λ o. ordering_then o (pattern_cmp p.pattern q.pattern)) (sym tie) ∙ less

abbrev Below : Profile → Profile → Type 0
Below p q = profile_cmp p q ≡ Less

pub most_specific_first : (ps : List Profile) → Rises profile_cmp ps → AreMostSpecificFirst ps
most_specific_first ps up = λ i j d less low same. ap is_lt
    (one_class (slice_index_or ps i d) (slice_index_or ps j d) same (all_pairs Below ps up i j d less low))

not_tied : (o : Ordering) → o ≡ Less → o ≡ Equal → ⊥
not_tied o less tie = let e = sym less ∙ tie in cc

apart : (p q : Profile) → p.class ≡ q.class → profile_cmp p q ≡ Less → p.pattern ≡ q.pattern → ⊥
apart p q same less text = not_tied (pattern_cmp p.pattern q.pattern) (one_class p q same less)
    (ap (pattern_cmp p.pattern) (sym text) ∙ tied_itself nat_list_cmp_total (sort_key p.pattern))

pub are_profiles : (ps : List Profile) → AllByRecursion (λ (p : Profile). IsPattern p.pattern) ps → Rises profile_cmp ps → AreProfiles ps
are_profiles ps patterns up =
    record {
      patterns = All-from_recursion (λ (p : Profile). IsPattern p.pattern) ps patterns;
      distinct = λ i j d less low same. apart (slice_index_or ps i d) (slice_index_or ps j d) same (all_pairs Below ps up i j d less low);
    }

-- ---- the first that covers

module _ (resource : List ℕ) where
  -- its place, if one covers
  record Found (xs : List Profile) : Type 0 where
    prefix : List Profile
    d : Profile
    after : List Profile
    whole : xs ≡ prefix ++ d ∷ after
    none : NoneCovers resource prefix
    hit : covers resource d ≡ true
    is : find (covers resource) xs ≡ Some d
    count : taken_for (covers resource) xs ≡ length prefix + 1

  record Nowhere (xs : List Profile) : Type 0 where
    none : NoneCovers resource xs
    is : find (covers resource) xs ≡ None
    count : taken_for (covers resource) xs ≡ length xs

  empty_none : NoneCovers resource []
  empty_none = All-from_recursion (λ (p : Profile). covers resource p ≡ false) [] tt

  look : (xs : List Profile) → Found xs ⊎ Nowhere xs
  look [] = inr (record { none = empty_none; is = refl; count = refl })
  look (x ∷ xs) = go (covers resource x) refl (look xs)
    where
      go : (b : Bool) → covers resource x ≡ b → Found xs ⊎ Nowhere xs → Found (x ∷ xs) ⊎ Nowhere (x ∷ xs)
      go true e more = inl (record {
        prefix = [];
        d = x;
        after = xs;
        whole = refl;
        none = empty_none;
        hit = e;
        is = ap (λ b. cond b (Some x) (find (covers resource) xs)) e;
        count = ap (λ b. cond b 1 (1 + taken_for (covers resource) xs)) e;
      })
      go false e (inl f) = inl (record {
        prefix = x ∷ f.prefix;
        d = f.d;
        after = f.after;
        whole = ap (λ (l : List Profile). x ∷ l) f.whole;
        none = All-cons (λ (p : Profile). covers resource p ≡ false) x f.prefix e f.none;
        hit = f.hit;
        is = ap (λ b. cond b (Some x) (find (covers resource) xs)) e ∙ f.is;
        count = ap (λ b. cond b 1 (1 + taken_for (covers resource) xs)) e ∙ (let c = f.count in omega arith);
      })
      go false e (inr f) = inr (record {
        none = All-cons (λ (p : Profile). covers resource p ≡ false) x xs e f.none;
        is = ap (λ b. cond b (Some x) (find (covers resource) xs)) e ∙ f.is;
        count = ap (λ b. cond b 1 (1 + taken_for (covers resource) xs)) e ∙ (let c = f.count in omega arith);
      })

  -- what is found first decides, and this many are read for it
  pub record Decides (xs : List Profile) : Type 0 where
    pub decides : find (covers resource) xs ≡ deciding xs resource
    pub reads : taken_for (covers resource) xs ≡ length (read_until (find (covers resource) xs) xs)

  pub first_decides : (xs : List Profile) → AreBefore xs → Decides xs
  first_decides xs order = go (look xs)
    where
      go : Found xs ⊎ Nowhere xs → Decides xs
      go (inl f) =
          let up : AreBefore (f.prefix ++ f.d ∷ f.after) = subst AreBefore f.whole order in
          let here : deciding xs resource ≡ Some f.d =
          ap (λ (l : List Profile). deciding l resource) f.whole
          ∙ found_first resource f.prefix f.d f.after up f.none f.hit in
          let read : length (read_until (Some f.d) xs) ≡ length f.prefix + 1 =
          ap (λ (l : List Profile). length (read_until (Some f.d) l)) f.whole
          ∙ read_first resource f.prefix f.d f.after up in
          record { decides = f.is ∙ sym here; reads = f.count ∙ (sym read ∙ ap (λ o. length (read_until o xs)) (sym f.is)) }
      go (inr f) = record { decides = f.is ∙ sym (none_found resource xs f.none); reads = f.count ∙ ap (λ o. length (read_until o xs)) (sym f.is) }
