-- Profiles and their access lists, as lists.
use Rattle.std.proofs.Common.{
  ◌≡◌,
  ℕ,
  List,
  [],
  ◌∷◌,
  ◌++◌,
  map,
  filter,
  not,
  ◌&&◌,
  Bool,
  true,
  false,
  cond,
  Some,
  None,
  refl,
  sym,
  ap,
  ap₂,
  subst,
  ◌∙◌,
  append-nil,
  is_eq,
  IsPermutation,
  Ordering,
  Less,
  Equal,
  Greater,
}
use Rattle.std.specs.List.{flat_map, AllByRecursion}
use Rattle.std.specs.Option.{option_map_or}
use Rattle.std.specs.Ordering.{ordering_then}
use Rattle.std.proofs.lemmas.Bool.{and_parts}
use Rattle.std.proofs.lemmas.Cmp.{tied_itself, nat_list_cmp_total}
use Rattle.std.proofs.lemmas.List.{map-append}
use Rattle.std.proofs.lemmas.Grind.{flat_map-append}
use Rattle.std.proofs.lemmas.List.Elements.{filter-append}
use Rattle.std.proofs.lemmas.List.Sorted.{IsPermutation-sym, IsPermutation-trans, IsPermutation-map, IsPermutation-middle}
use Rattle.std.proofs.lemmas.Map.Lookups.{exact_bytes}
use Rattle.std.proofs.lemmas.Slice.Eq.{bytes_eq-Decides}
use Rattle.sqlite.specs.Order.{Row}
use Rattle.sqlite_keyed.proofs.ListLemmas.{filter-map, filter_same, filter_none, all_weaker, all_both, all-map, all-flat_map, IsPermutation-same}
use Rattle.opc_store_sql.specs.Order.{Rises}
use Rattle.opc_store_sql.proofs.Sets.{others, replaced_is}
use Rattle.opc_store_sql.proofs.Parts.{Parts, parts, keeps_all, picked, others_of, none_picked}
use Rattle.opc_names.specs.declared.class.Class.{Class}
use Rattle.opc_names.specs.declared.class.Class.TheVariants.{Console, Opercmds}
use Rattle.opc_names.specs.Authority.{same_class}
use Rattle.opc_names.specs.Names.{IsPattern}
use Rattle.opc_names.specs.Laws.{KeysDiffer}
use Rattle.opc_names.specs.Order.{sort_key}
use Rattle.opc_policy_members.specs.declared.entry.Entry.{Entry}
use Rattle.opc_policy_members.specs.declared.profile.Profile.{Profile}
use Rattle.opc_policy_members.specs.Profiles.{class_cmp, pattern_cmp, profile_cmp, is_of, profile_of, with_profile}
use Rattle.opc_state.specs.Members.{without_profile}
use Rattle.opc_store_schema.specs.Represented.{profile_row, entry_row, entry_rows}
use Rattle.opc_store_schema.proofs.Keys.{class_total, profile_total}
use Rattle.opc_store_schema.proofs.ProfileTexts.{has_profile, has_entry, picks_profile, picks_entries, picks_entry, is_at}

class_means : (a b : Class) → same_class a b ≡ true → a ≡ b
class_means Console Console h = refl
class_means Console Opercmds h = absurd cc
class_means Opercmds Console h = absurd cc
class_means Opercmds Opercmds h = refl

pub compares_equal : (p q : Profile) → p.class ≡ q.class → p.pattern ≡ q.pattern → profile_cmp p q ≡ Equal
compares_equal p q class pattern =
    ap₂ ordering_then (ap (class_cmp p.class) (sym class) ∙ tied_itself class_total p.class)
    (ap (pattern_cmp p.pattern) (sym pattern) ∙ tied_itself nat_list_cmp_total (sort_key p.pattern))

-- the profiles with a change of the access list of one, if it is there
abbrev pub with_list : Class → List ℕ → (List Entry → List Entry) → List Profile → List Profile
with_list class pattern change ps = option_map_or (λ (p : Profile). with_profile (record p { entries = change p.entries }) ps) (profile_of ps class pattern) ps

module _ (class : Class) (pattern : List ℕ) where
  pub is_of_means : (p : Profile) → is_of class pattern p ≡ true → (p.class ≡ class) × (p.pattern ≡ pattern)
  is_of_means p h = let both = and_parts _ _ h in (class_means p.class class both.0, (bytes_eq-Decides p.pattern pattern).0 both.1)

  pub ties : (p q : Profile) → is_of class pattern p ≡ true → is_of class pattern q ≡ true → profile_cmp p q ≡ Equal
  ties p q h k = let a = is_of_means p h in let b = is_of_means q k in compares_equal p q (a.0 ∙ sym b.0) (a.1 ∙ sym b.1)

  abbrev pub Split : List Profile → Profile → Type 0
  Split = Parts profile_cmp (is_of class pattern)

  pub split : (ps : List Profile) (p : Profile) → Rises profile_cmp ps → profile_of ps class pattern ≡ Some p → Split ps p
  split ps p up found = parts profile_cmp (is_of class pattern) profile_total ties ps p up found

  -- ---- a profile is removed, with its access list

  same_test : (p : Profile) (b : Bool) → is_of class pattern p ≡ b → AllByRecursion (λ v. not (has_profile class pattern v) ≡ not b) (entry_rows p)
  same_test p b is = all-map (λ v. not (has_profile class pattern v) ≡ not b) (entry_row p.class p.pattern)
      (λ e. ap not (picks_entries class pattern p e ∙ is)) p.entries

  kept_all : (rows : List Row) → AllByRecursion (λ v. not (has_profile class pattern v) ≡ true) rows
      → filter (λ v. not (has_profile class pattern v)) rows ≡ rows
  kept_all [] h = refl
  kept_all (v ∷ rows) h = rw (h.0, kept_all rows h.1)

  pub entries_left : (ps : List Profile)
      → filter (λ v. not (has_profile class pattern v)) (flat_map entry_rows ps) ≡ flat_map entry_rows
      (without_profile class pattern ps)
  entries_left [] = refl
  entries_left (p ∷ ps) =
      filter-append (λ v. not (has_profile class pattern v)) (entry_rows p) (flat_map entry_rows ps) ∙ go (is_of class pattern p) refl (entries_left ps)
    where
      go : (b : Bool) → is_of class pattern p ≡ b
          → filter (λ v. not (has_profile class pattern v)) (flat_map entry_rows ps) ≡ flat_map entry_rows
          (without_profile class pattern ps)
          → filter (λ v. not (has_profile class pattern v)) (entry_rows p) ++ filter (λ v. not (has_profile class pattern v)) (flat_map entry_rows ps)
          ≡ flat_map entry_rows (cond (not b) (p ∷ without_profile class pattern ps) (without_profile class pattern ps))
      go true is more = ap₂ (λ (a b : List Row). a ++ b) (filter_none _ (entry_rows p) (same_test p true is)) more
      go false is more = ap₂ (λ (a b : List Row). a ++ b) (kept_all (entry_rows p) (same_test p false is)) more

  pub profiles_left : (ps : List Profile)
      → filter (λ v. not (has_profile class pattern v)) (map profile_row ps) ≡ map profile_row
      (without_profile class pattern ps)
  profiles_left ps = filter-map _ profile_row ps ∙ ap (map profile_row) (filter_same _ _ (λ p. ap not (picks_profile class pattern p)) ps)

  none_left : (ps : List Profile) → AllByRecursion (λ p. is_of class pattern p ≡ false) (without_profile class pattern ps)
  none_left [] = tt
  none_left (p ∷ ps) = go (is_of class pattern p) refl (none_left ps)
    where
      go : (b : Bool) → is_of class pattern p ≡ b → AllByRecursion (λ q. is_of class pattern q ≡ false) (without_profile class pattern ps)
          → AllByRecursion (λ q. is_of class pattern q ≡ false) (cond (not b) (p ∷ without_profile class pattern ps) (without_profile class pattern ps))
      go true is more = more
      go false is more = (is, more)

  pub lack : (qs : List Profile) → AllByRecursion (λ q. is_of class pattern q ≡ false) qs
      → AllByRecursion (λ v. has_profile class pattern v ≡ false) (flat_map entry_rows qs)
  lack qs h =
      all-flat_map (λ v. has_profile class pattern v ≡ false) entry_rows qs
      (all_weaker _ _ (λ q miss. all-map (λ v. has_profile class pattern v ≡ false) (entry_row q.class q.pattern)
      (λ e. picks_entries class pattern q e ∙ miss) q.entries) qs h)

  -- none of the entries that are left is of it
  pub entries_lack : (ps : List Profile) → AllByRecursion (λ v. has_profile class pattern v ≡ false) (flat_map entry_rows (without_profile class pattern ps))
  entries_lack ps = lack (without_profile class pattern ps) (none_left ps)

  kept_row : (rows : List Row) → AllByRecursion (λ v. has_profile class pattern v ≡ true) rows → filter (has_profile class pattern) rows ≡ rows
  kept_row [] h = refl
  kept_row (v ∷ rows) h = rw (h.0, kept_row rows h.1)

  -- the entries of the one profile
  pub list_hit : (ps : List Profile) (p : Profile) → Split ps p
      → filter (has_profile class pattern) (flat_map entry_rows ps) ≡ map (entry_row p.class p.pattern) p.entries
  list_hit ps p it =
      let has = has_profile class pattern in
      let whole : flat_map entry_rows ps ≡ flat_map entry_rows it.prefix
      ++ (entry_rows p ++ flat_map entry_rows it.back) =
      ap (flat_map entry_rows) it.whole ∙ flat_map-append entry_rows it.prefix (p ∷ it.back) in
      let mine : filter has (entry_rows p) ≡ entry_rows p =
      kept_row (entry_rows p) (all-map (λ v. has v ≡ true) (entry_row p.class p.pattern)
      (λ e. picks_entries class pattern p e ∙ it.passes) p.entries) in
      ap (filter has) whole
      ∙ (filter-append has (flat_map entry_rows it.prefix) (entry_rows p ++ flat_map entry_rows it.back)
      ∙ (ap₂ (λ (a b : List Row). a ++ b) (filter_none has _ (lack it.prefix it.before))
      (filter-append has (entry_rows p) (flat_map entry_rows it.back)
      ∙ ap₂ (λ (a b : List Row). a ++ b) mine (filter_none has _ (lack it.back it.after)))
      ∙ append-nil _))

  -- ---- a profile is put, and keeps its access list

  module _ (x : Profile) (of_class : x.class ≡ class) (of_pattern : x.pattern ≡ pattern) (ps : List Profile) where
    abbrev pub keeping : Profile → Profile
    keeping p = record x { entries = p.entries }

    module _ (p : Profile) (found : profile_of ps class pattern ≡ Some p) (it : Split ps p) where
      here : (p.class ≡ class) × (p.pattern ≡ pattern)
      here = is_of_means p it.passes

      pub replaced_here : with_profile (keeping p) ps ≡ it.prefix ++ keeping p ∷ it.back
      replaced_here = it.replaced (keeping p) (compares_equal (keeping p) p (of_class ∙ sym here.0) (of_pattern ∙ sym here.1))

      same_list : entry_rows (keeping p) ≡ entry_rows p
      same_list = ap₂ (λ (c : Class) (t : List ℕ). map (entry_row c t) p.entries) (of_class ∙ sym here.0) (of_pattern ∙ sym here.1)

      pub same_entries : flat_map entry_rows (with_profile (keeping p) ps) ≡ flat_map entry_rows ps
      same_entries =
          ap (flat_map entry_rows) replaced_here
          ∙ (flat_map-append entry_rows it.prefix (keeping p ∷ it.back)
          ∙ (ap (λ (l : List Row). flat_map entry_rows it.prefix ++ (l ++ flat_map entry_rows it.back)) same_list
          ∙ (sym (flat_map-append entry_rows it.prefix (p ∷ it.back)) ∙ ap (flat_map entry_rows) (sym it.whole))))

      -- its row replaces the one that was there
      pub profile_replaced : IsPermutation
          (map (λ (v : Row). profile_row x) (filter (has_profile class pattern) (map profile_row ps))
          ++ filter (λ v. not (has_profile class pattern v)) (map profile_row ps))
          (map profile_row (with_profile (keeping p) ps))
      profile_replaced =
          let hit : filter (has_profile class pattern) (map profile_row ps) ≡ profile_row p ∷ [] =
          filter-map _ profile_row ps ∙ (ap (map profile_row) (filter_same _ _ (picks_profile class pattern) ps)
          ∙ ap (map profile_row) (picked profile_cmp (is_of class pattern) ps p it)) in
          let rest : filter (λ v. not (has_profile class pattern v)) (map profile_row ps) ≡ map profile_row
          (it.prefix ++ it.back) = profiles_left ps
          ∙ ap (map profile_row) (others_of profile_cmp (is_of class pattern) ps p it) in
          let both = ap₂ (λ (a b : List Row). map (λ (v : Row). profile_row x) a ++ b) hit rest in
          let middle : IsPermutation (map profile_row (keeping p ∷ (it.prefix ++ it.back)))
          (map profile_row (it.prefix ++ keeping p ∷ it.back)) =
          IsPermutation-map profile_row _ _
          (IsPermutation-sym _ _ (IsPermutation-middle it.prefix (keeping p) it.back)) in
          IsPermutation-trans _ _ _ (IsPermutation-same _ _ both)
          (IsPermutation-trans _ _ _ middle (IsPermutation-same _ _ (ap (map profile_row) (sym replaced_here))))

    -- if it is not there, it is added
    module _ (differ : KeysDiffer) (valid : IsPattern x.pattern)
        (patterns : AllByRecursion (λ (p : Profile). IsPattern p.pattern) ps)
        (absent : profile_of ps class pattern ≡ None) where
      not_tied : (p : Profile) → IsPattern p.pattern → is_of class pattern p ≡ false → is_eq (profile_cmp p x) ≡ false
      not_tied p fine miss = go (class_cmp p.class x.class) refl (pattern_cmp p.pattern x.pattern) refl
        where
          equal_classes : (a b : Class) → class_cmp a b ≡ Equal → a ≡ b
          equal_classes Console Console h = refl
          equal_classes Console Opercmds h = absurd cc
          equal_classes Opercmds Console h = absurd cc
          equal_classes Opercmds Opercmds h = refl

          itself : (a b : Class) → a ≡ b → same_class a b ≡ true
          itself a b same = subst (λ c. same_class a c ≡ true) same (one a)
            where
              one : (a : Class) → same_class a a ≡ true
              one Console = refl
              one Opercmds = refl

          both : class_cmp p.class x.class ≡ Equal → pattern_cmp p.pattern x.pattern ≡ Equal → is_of class pattern p ≡ true
          both c k =
              let same = equal_classes p.class x.class c ∙ of_class in
              let text = differ p.pattern x.pattern fine valid (exact_bytes (sort_key p.pattern) (sort_key x.pattern) k) ∙ of_pattern in
              ap₂ (λ a b. a && b) (itself p.class class same) ((bytes_eq-Decides p.pattern pattern).1 text)

          go : (o : Ordering) → class_cmp p.class x.class ≡ o → (q : Ordering) → pattern_cmp p.pattern x.pattern ≡ q
              → is_eq (ordering_then (class_cmp p.class x.class) (pattern_cmp p.pattern x.pattern)) ≡ false
          go Less c q k = ap (λ o. is_eq (ordering_then o (pattern_cmp p.pattern x.pattern))) c
          go Greater c q k = ap (λ o. is_eq (ordering_then o (pattern_cmp p.pattern x.pattern))) c
          go Equal c Less k = ap₂ (λ o q. is_eq (ordering_then o q)) c k
          go Equal c Greater k = ap₂ (λ o q. is_eq (ordering_then o q)) c k
          go Equal c Equal k = absurd (let hit = both c k in cc)

      all_others : (qs : List Profile) → AllByRecursion (λ q. is_eq (profile_cmp q x) ≡ false) qs → others profile_cmp profile_total x qs ≡ qs
      all_others [] h = refl
      all_others (q ∷ qs) h = rw (h.0, all_others qs h.1)

      pub comes_in : Rises profile_cmp ps → IsPermutation (x ∷ ps) (with_profile x ps)
      comes_in up =
          let apart = all_both _ _ (λ q. is_eq (profile_cmp q x) ≡ false) not_tied ps patterns (none_picked profile_cmp (is_of class pattern) ps absent) in
          IsPermutation-sym _ _ (subst (λ (l : List Profile). IsPermutation (with_profile x ps) (x ∷ l))
          (all_others ps apart) (replaced_is profile_cmp profile_total x ps up))

  -- ---- entries of an access list

  module _ (ps : List Profile) (p : Profile) (it : Split ps p) (change : List Entry → List Entry) where
    abbrev pub listing : Profile
    listing = record p { entries = change p.entries }

    pub replaced_list : with_profile listing ps ≡ it.prefix ++ listing ∷ it.back
    replaced_list = it.replaced listing (compares_equal listing p refl refl)

    pub same_profiles : map profile_row (with_profile listing ps) ≡ map profile_row ps
    same_profiles = ap (map profile_row) replaced_list
        ∙ (map-append profile_row it.prefix (listing ∷ it.back)
        ∙ (sym (map-append profile_row it.prefix (p ∷ it.back)) ∙ ap (map profile_row) (sym it.whole)))

    pub split_entries : flat_map entry_rows (with_profile listing ps) ≡ flat_map entry_rows it.prefix
        ++ (map (entry_row p.class p.pattern) (change p.entries) ++ flat_map entry_rows it.back)
    split_entries = ap (flat_map entry_rows) replaced_list ∙ flat_map-append entry_rows it.prefix (listing ∷ it.back)

  module _ (id console : List ℕ) where
    lack_entry : (qs : List Profile) → AllByRecursion (λ q. is_of class pattern q ≡ false) qs
        → AllByRecursion (λ v. has_entry class pattern id console v ≡ false) (flat_map entry_rows qs)
    lack_entry qs h =
        all-flat_map (λ v. has_entry class pattern id console v ≡ false) entry_rows qs
        (all_weaker _ _ (λ q miss. all-map (λ v. has_entry class pattern id console v ≡ false)
        (entry_row q.class q.pattern)
        (λ e. picks_entry class pattern id console q e ∙ ap (λ b. b && is_at id console e) miss) q.entries) qs h)

    module _ (ps : List Profile) (p : Profile) (it : Split ps p) where
      picks_here : (e : Entry) → has_entry class pattern id console (entry_row p.class p.pattern e) ≡ is_at id console e
      picks_here e = picks_entry class pattern id console p e ∙ ap (λ b. b && is_at id console e) it.passes

      whole_entries : flat_map entry_rows ps ≡ flat_map entry_rows it.prefix ++ (entry_rows p ++ flat_map entry_rows it.back)
      whole_entries = ap (flat_map entry_rows) it.whole ∙ flat_map-append entry_rows it.prefix (p ∷ it.back)

      -- those that the test selects are those of the one access list
      pub entries_hit : filter (has_entry class pattern id console) (flat_map entry_rows ps) ≡ map
          (entry_row p.class p.pattern) (filter (is_at id console) p.entries)
      entries_hit =
          let has = has_entry class pattern id console in
          let mine : filter has (entry_rows p) ≡ map (entry_row p.class p.pattern)
          (filter (is_at id console) p.entries) =
          filter-map has (entry_row p.class p.pattern) p.entries
          ∙ ap (map (entry_row p.class p.pattern)) (filter_same _ _ picks_here p.entries) in
          ap (filter has) whole_entries
          ∙ (filter-append has (flat_map entry_rows it.prefix) (entry_rows p ++ flat_map entry_rows it.back)
          ∙ (ap₂ (λ (a b : List Row). a ++ b) (filter_none has _ (lack_entry it.prefix it.before))
          (filter-append has (entry_rows p) (flat_map entry_rows it.back)
          ∙ ap₂ (λ (a b : List Row). a ++ b) mine (filter_none has _ (lack_entry it.back it.after)))
          ∙ append-nil _))

      -- and the others stay
      pub entries_rest : filter (λ v. not (has_entry class pattern id console v)) (flat_map entry_rows ps)
          ≡ flat_map entry_rows it.prefix
          ++ (map (entry_row p.class p.pattern) (filter (λ (e : Entry). not (is_at id console e)) p.entries)
          ++ flat_map entry_rows it.back)
      entries_rest =
          let lacks = λ (v : Row). not (has_entry class pattern id console v) in
          let mine : filter lacks (entry_rows p) ≡ map (entry_row p.class p.pattern) (filter (λ (e : Entry). not (is_at id console e)) p.entries) =
          filter-map lacks (entry_row p.class p.pattern) p.entries
          ∙ ap (map (entry_row p.class p.pattern)) (filter_same _ _ (λ e. ap not (picks_here e)) p.entries) in
          ap (filter lacks) whole_entries
          ∙ (filter-append lacks (flat_map entry_rows it.prefix) (entry_rows p ++ flat_map entry_rows it.back)
          ∙ ap₂ (λ (a b : List Row). a ++ b) (keeps_all _ _ (lack_entry it.prefix it.before))
          (filter-append lacks (entry_rows p) (flat_map entry_rows it.back)
          ∙ ap₂ (λ (a b : List Row). a ++ b) mine (keeps_all _ _ (lack_entry it.back it.after))))

    -- of a profile that is not there no entry is selected
    pub no_entries : (ps : List Profile) → profile_of ps class pattern ≡ None → filter (has_entry class pattern id console) (flat_map entry_rows ps) ≡ []
    no_entries ps absent = filter_none _ _ (lack_entry ps (none_picked profile_cmp (is_of class pattern) ps absent))

    pub all_entries : (ps : List Profile) → profile_of ps class pattern ≡ None
        → filter (λ v. not (has_entry class pattern id console v)) (flat_map entry_rows ps) ≡ flat_map entry_rows ps
    all_entries ps absent = keeps_all _ _ (lack_entry ps (none_picked profile_cmp (is_of class pattern) ps absent))
