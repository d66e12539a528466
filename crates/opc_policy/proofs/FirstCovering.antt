-- The first profile that covers, of a list in the order of the patterns.
use Rattle.std.proofs.Common.{
  ◌≡◌,
  ℕ,
  ◌≤◌,
  ◌+◌,
  Bool,
  true,
  false,
  not,
  cond,
  ◌&&◌,
  List,
  [],
  ◌∷◌,
  ◌++◌,
  length,
  filter,
  get_or,
  suc,
  Option,
  Some,
  None,
  refl,
  sym,
  ap,
  ◌∙◌,
  subst,
  arith,
  All,
  Contains,
  length-append,
  append-nil,
}
use Rattle.std.specs.List.{AllPairs}
use Rattle.std.specs.Str.{bytes_eq}
use Rattle.std.proofs.lemmas.Bool.{false≢true}
use Rattle.std.proofs.lemmas.List.Elements.{All-head, All-tail, All-push, All-weaker, All-contains, filter-append, filter_passes}
use Rattle.std.proofs.Math.Seq.{get_or-append_seam}
use Rattle.std.proofs.lemmas.List.{get_or_append_left, get_or-append-add}
use Rattle.std.proofs.lemmas.List.Kept.{AllPairs-filter}
use Rattle.std.proofs.lemmas.List.Sums.{length-filter, count_by-le-length}
use Rattle.opc_names.specs.Authority.{same_class}
use Rattle.opc_names.specs.declared.class.Class.{Class}
use Rattle.opc_policy_members.specs.Profiles.{AreMostSpecificFirst, is_before}
use Rattle.opc_policy.specs.Deciding.{covering, first_with, first_of, deciding}
use Rattle.opc_policy.specs.Examined.{head_of, is_chosen, read_until}
use Rattle.opc_names.specs.Patterns.{CoversText, covers_text}
use Rattle.opc_policy_members.specs.declared.profile.Profile.{Profile}
use Rattle.opc_policy.proofs.MostSpecific.{ordered, not_before_itself, of_filter, covers_is, FirstIs, first_is}
use Rattle.opc_policy_members.proofs.Classes.{same_class_is}

-- a filter that keeps all, or none
kept_all : {X : Type 0} (p : X → Bool) (xs : List X) → All (λ x. p x ≡ true) xs → filter p xs ≡ xs
kept_all p [] h = refl
kept_all p (x ∷ xs) h = rw (All-head (λ x. p x ≡ true) x xs h, kept_all p xs (All-tail (λ x. p x ≡ true) x xs h)) refl

kept_none : {X : Type 0} (p : X → Bool) (xs : List X) → All (λ x. p x ≡ false) xs → filter p xs ≡ []
kept_none p [] h = refl
kept_none p (x ∷ xs) h = rw (All-head (λ x. p x ≡ false) x xs h) (kept_none p xs (All-tail (λ x. p x ≡ false) x xs h))

-- one filter after another
pub filter_both : {X : Type 0} (p q : X → Bool) (xs : List X) → filter q (filter p xs) ≡ filter (λ x. p x && q x) xs
filter_both p q [] = refl
filter_both {X} p q (x ∷ xs) =
    elim (p x) as (λ b. filter q (cond b (x ∷ filter p xs) (filter p xs)) ≡ cond (b && q x)
    (x ∷ filter (λ (y : X). p y && q y) xs) (filter (λ (y : X). p y && q y) xs)) [
      | true ↦ ap (λ ys. cond (q x) (x ∷ ys) ys) (filter_both p q xs)
      | false ↦ filter_both p q xs
    ]

-- those before an element of a list, and those after it
related_before : {X : Type 0} (R : X → X → Type 0) (xs : List X) (d : X) (ys : List X) → AllPairs R (xs ++ d ∷ ys) → All (λ x. R x d) xs
related_before R xs d ys h = λ k e l.
    rw (get_or_append_left xs (d ∷ ys) e k l, get_or-append_seam xs d ys e) at (h k (length xs) e l (omega (arith, length-append xs (d ∷ ys))))

related_after : {X : Type 0} (R : X → X → Type 0) (xs : List X) (d : X) (ys : List X) → AllPairs R (xs ++ d ∷ ys) → All (R d) ys
related_after R xs d ys h = λ k e l.
    rw (get_or-append_seam xs d ys e, get_or-append-add xs (d ∷ ys) (suc k) e) at
    (h (length xs) (length xs + suc k) e (omega arith) (omega (arith, l, length-append xs (d ∷ ys))))

abbrev pub AreBefore : List Profile → Type 0
AreBefore profiles = AllPairs (λ (p q : Profile). is_before p q ≡ true) profiles

abbrev pub NoneCovers : List ℕ → List Profile → Type 0
NoneCovers resource profiles = All (λ (p : Profile). covers_text p.pattern resource ≡ false) profiles

module _ (resource : List ℕ) (before : List Profile) (d : Profile) (after : List Profile) (order : AreBefore (before ++ d ∷ after)) where
  later : (q : Profile) → Contains after q → is_before q d ≡ false
  later q m = ordered.one_way d q (All-contains (λ (p : Profile). is_before d p ≡ true) after q
      (related_after (λ (p q : Profile). is_before p q ≡ true) before d after order) m)

  stays : (o : Option Profile) → FirstIs (covering resource after) o → first_with d o ≡ d
  unfolding FirstIs
  stays None h = refl
  stays (Some q) h = rw (later q (of_filter (λ (p : Profile). covers_text p.pattern resource) after q h.0).0) refl

  pub found_first : NoneCovers resource before → covers_text d.pattern resource ≡ true → deciding (before ++ d ∷ after) resource ≡ Some d
  found_first none covered =
      let covers : Profile → Bool = λ p. covers_text p.pattern resource in
      let parts : covering resource (before ++ d ∷ after) ≡ d ∷ covering resource after =
      filter-append covers before (d ∷ after) ∙ rw (kept_none covers before none, covered) refl in
      ap first_of parts ∙ ap Some (stays (first_of (covering resource after)) (first_is (covering resource after)))

  pub read_first : length (read_until (Some d) (before ++ d ∷ after)) ≡ length before + 1
  read_first =
      let read : Profile → Bool = λ p. not (is_before d p) in
      let earlier : All (λ p. read p ≡ true) before =
      λ k e l. ap not (ordered.one_way (get_or before k e) d
      (related_before (λ (p q : Profile). is_before p q ≡ true) before d after order k e l)) in
      let not_later : All (λ p. read p ≡ false) after = λ k e l. ap not (related_after (λ (p q : Profile). is_before p q ≡ true) before d after order k e l) in
      let parts : read_until (Some d) (before ++ d ∷ after) ≡ before ++ d ∷ [] =
      filter-append read before (d ∷ after)
      ∙ rw (kept_all read before earlier, not_before_itself d, kept_none read after not_later) refl in
      ap length parts ∙ length-append before (d ∷ [])

pub none_found : (resource : List ℕ) (profiles : List Profile) → NoneCovers resource profiles → deciding profiles resource ≡ None
none_found resource profiles none = ap first_of (kept_none (λ (p : Profile). covers_text p.pattern resource) profiles none)

-- the profiles that are chosen are of one class
chosen_class : (class : Class) (head : Option (List ℕ)) (p : Profile) → is_chosen class head p ≡ true → p.class ≡ class
chosen_class class None p h = same_class_is p.class class h
chosen_class class (Some text) p h = same_class_is p.class class (left (same_class p.class class) (bytes_eq (head_of p) text) h)
  where
    left : (a b : Bool) → (a && b) ≡ true → a ≡ true
    left true b e = refl
    left false b e = absurd (false≢true e)

pub chosen_order : (class : Class) (head : Option (List ℕ)) (profiles : List Profile) → AreMostSpecificFirst profiles
    → AreBefore (filter (is_chosen class head) profiles)
chosen_order class head profiles order = λ i j d l m.
    AllPairs-filter (λ (p q : Profile). p.class ≡ q.class → is_before p q ≡ true) (is_chosen class head) profiles order
    i j d l m (of_one i d (omega (arith, l, m)) ∙ sym (of_one j d m))
  where
    of_one : All (λ (p : Profile). p.class ≡ class) (filter (is_chosen class head) profiles)
    of_one = All-weaker (λ (p : Profile). is_chosen class head p ≡ true) (λ (p : Profile). p.class ≡ class)
        (λ p h. chosen_class class head p h) (filter (is_chosen class head) profiles)
        (filter_passes (is_chosen class head) profiles)

-- what is known while no profile that was chosen covers
pub record Unfound (chosen : Profile → Bool) (resource : List ℕ) (done : List Profile) (rows : ℕ) : Type 0 where
  pub count : rows ≡ length (filter chosen done)
  pub none : NoneCovers resource (filter chosen done)

module _ (chosen : Profile → Bool) (resource : List ℕ) (done : List Profile) (rows : ℕ) (so_far : Unfound chosen resource done rows) (p : Profile) where
  with_one : filter chosen (done ++ p ∷ []) ≡ filter chosen done ++ cond (chosen p) (p ∷ []) []
  with_one = filter-append chosen done (p ∷ [])

  pub unfound_other : chosen p ≡ false → Unfound chosen resource (done ++ p ∷ []) rows
  unfound_other e =
      let same : filter chosen (done ++ p ∷ []) ≡ filter chosen done = with_one ∙ rw e (append-nil (filter chosen done)) in
      record { count = so_far.count ∙ ap length (sym same); none = subst (NoneCovers resource) (sym same) so_far.none }

  pub unfound_more : chosen p ≡ true → covers_text p.pattern resource ≡ false → Unfound chosen resource (done ++ p ∷ []) (rows + 1)
  unfound_more e uncovered =
      let more : filter chosen (done ++ p ∷ []) ≡ filter chosen done ++ p ∷ [] = with_one ∙ rw e refl in
      let count = so_far.count in
      record {
        count = rw (more, length-append) (omega (arith, count));
        none = subst (NoneCovers resource) (sym more)
            (All-push (λ (q : Profile). covers_text q.pattern resource ≡ false) (filter chosen done) p so_far.none
            uncovered);
      }

  module _ (all after : List Profile) (is : all ≡ done ++ p ∷ after) (order : AreBefore (filter chosen all)) (here : chosen p ≡ true) where
    parts : filter chosen all ≡ filter chosen done ++ p ∷ filter chosen after
    parts = ap (filter chosen) is ∙ filter-append chosen done (p ∷ after) ∙ rw here refl

    pub unfound_now : covers_text p.pattern resource ≡ true → Some p ≡ deciding (filter chosen all) resource
    unfound_now covered = sym (rw parts (found_first resource (filter chosen done) p (filter chosen after) (subst AreBefore parts order) so_far.none covered))

    pub read_now : rows + 1 ≡ length (read_until (Some p) (filter chosen all))
    read_now = sym (rw (parts, so_far.count) (read_first resource (filter chosen done) p (filter chosen after) (subst AreBefore parts order)))

-- fewer are read than there are
pub few_rows : (chosen : Profile → Bool) (resource : List ℕ) (done : List Profile) (rows : ℕ) (all : List Profile)
    (p : Profile) (after : List Profile) → Unfound chosen resource done rows → all ≡ done ++ p ∷ after
    → rows + 1 ≤ length all
few_rows chosen resource done rows all p after so_far is =
    let count = so_far.count in
    let few : length (filter chosen done) ≤ length done = rw length-filter (count_by-le-length chosen done) in
    rw (is, length-append) (omega (arith, count, few))

pub covered_text : (p : Profile) (resource : List ℕ) → CoversText p.pattern resource → covers_text p.pattern resource ≡ true
covered_text p resource = (covers_is p resource).1

pub uncovered_text : (p : Profile) (resource : List ℕ) → (CoversText p.pattern resource → ⊥) → covers_text p.pattern resource ≡ false
uncovered_text p resource h = go (covers_text p.pattern resource) refl
  where
    go : (b : Bool) → covers_text p.pattern resource ≡ b → b ≡ false
    go true e = absurd (h ((covers_is p resource).0 e))
    go false e = refl
