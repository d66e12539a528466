-- What is cached stays right.
use Rattle.std.proofs.Common.{
  ◌≡◌,
  ◌<◌,
  ◌≤◌,
  ℕ,
  Bool,
  true,
  false,
  cond,
  ◌&&◌,
  IfSome,
  List,
  [],
  ◌∷◌,
  length,
  Option,
  Some,
  None,
  Result,
  Ok,
  Err,
  Contains,
  IfOk,
  OnErr,
  OnOk,
  refl,
  sym,
  ap,
  subst,
  ◌∙◌,
  inl,
  inr,
  arith,
}
use Rattle.std.specs.List.{list_any}
use Rattle.std.specs.Map.{lookup}
use Rattle.std.specs.Option.{option_and_then, option_map}
use Rattle.std.specs.Str.{bytes_eq}
use Rattle.lru.specs.LruCache.{LruCache, lru_cache, promoted, put_entries}
use Rattle.lru.proofs.CallerLemmas.{Contains-lookup, Contains-promoted, Contains-put_entries}
use Rattle.lru.proofs.Splits.{Contains-nil}
use Rattle.opc_names.specs.Authority.{same_class}
use Rattle.opc_names.specs.contracts.class.ClassPartialEq.TheImpl.{ghosts}
use Rattle.opc_names.specs.declared.class.Class.{Class}
use Rattle.opc_names.specs.declared.class.Class.TheVariants.{Console, Opercmds}
use Rattle.opc_policy_members.specs.declared.profile.Profile.{Profile}
use Rattle.opc_policy_members.specs.Profiles.{profile_of}
use Rattle.opc_policy_members.proofs.Classes.{same_class_is}
use Rattle.opc_policy_members.specs.declared.policy.Policy.{Policy}
use Rattle.opc_terms.specs.declared.store_fault.StoreFault.{StoreFault}
use Rattle.opc_state.specs.declared.change.Change.{Change}
use Rattle.opc_state.specs.declared.change.Edit.{Edit}
use Rattle.opc_state.specs.Changes.{IsKept, all_edited, changed_by}
use Rattle.opc_state.specs.Invariants.{IsKeyed}
use Rattle.opc_state.specs.Loads.{bare}
use Rattle.opc_state.specs.Meaning.{Meaning}
use Rattle.opc_state.specs.State.{State, deciding_in}
use Rattle.opc_state.proofs.SameRows.{first, names, rest}
use Rattle.opc_state_cache.specs.Cache.{
  Entries,
  IsCached,
  IsKeptWith,
  IsRight,
  Name,
  deciding_pattern,
  invalidates,
  pattern_of,
  remembered,
  same_name,
}
use Rattle.opc_state_cache.specs.Redefining.{redefines}
use Rattle.opc_state_cache.specs.Flags.{AreFlagsOf}
use Rattle.opc_state_cache.specs.Meaning.{cached_meaning}
use Rattle.opc_state_cache.specs.declared.cached.Cached.{Cached}
use Rattle.opc_state_cache.specs.declared.flags.Flags.{Flags}
use Rattle.opc_state_cache.proofs.Keyed.{IsFoundIn, deciding_found}
use Rattle.opc_state_cache.proofs.Named.{same_pattern}
use Rattle.opc_state_cache.proofs.Edits.{Stays, account_stays, edits_stay}

same_is : (n m : Name) → same_name n m ≡ true → n ≡ m
same_is n m h =
    let of_class : n.0 ≡ m.0 = same_class_is n.0 m.0 (first (same_class n.0 m.0) (bytes_eq n.1 m.1) h) in
    let of_text : n.1 ≡ m.1 = names n.1 m.1 (rest (same_class n.0 m.0) (bytes_eq n.1 m.1) h) in
    λ i. (of_class i, of_text i)

-- what is cached is right of a state, which is in order where there is anything
pub record Holds (entries : Entries) (s : State) : Type 0 where
  pub right : IsRight s.policy entries
  pub keyed : (e : Name × Option (List ℕ)) → Contains entries e → IsKeyed s

pub nothing_holds : (s : State) → Holds [] s
nothing_holds s = record { right = λ e there. absurd (Contains-nil e there); keyed = λ e there. absurd (Contains-nil e there) }

-- ---- a hit

pub promoted_holds : (name : Name) (entries : Entries) (s : State) → Holds entries s → Holds (promoted (same_name name) entries) s
promoted_holds name entries s h = record {
  right = λ e there. h.right e (Contains-promoted (same_name name) entries e there);
  keyed = λ e there. h.keyed e (Contains-promoted (same_name name) entries e there);
}

pub hit_keyed : (name : Name) (entries : Entries) (s : State) (pattern : Option (List ℕ)) → Holds entries s
    → lookup (same_name name) entries ≡ Some pattern → IsKeyed s
hit_keyed name entries s pattern h found =
    let there = Contains-lookup (same_name name) entries pattern found in
    h.keyed (there.0, pattern) there.1

hit_right : (name : Name) (entries : Entries) (s : State) (pattern : Option (List ℕ)) → Holds entries s
    → lookup (same_name name) entries ≡ Some pattern → pattern ≡ deciding_pattern s.policy name
hit_right name entries s pattern h found =
    let there = Contains-lookup (same_name name) entries pattern found in
    h.right (there.0, pattern) there.1 ∙ ap (deciding_pattern s.policy) (sym (same_is name there.0 there.2))

pub hit_decides : (name : Name) (entries : Entries) (s : State) (pattern : Option (List ℕ)) → Holds entries s → lookup (same_name name) entries ≡ Some pattern
    → option_and_then (profile_of s.policy.profiles name.0) pattern ≡ deciding_in s.policy name.0 name.1
hit_decides name entries s pattern h found =
    ap (option_and_then (profile_of s.policy.profiles name.0)) (hit_right name entries s pattern h found)
    ∙ go (deciding_in s.policy name.0 name.1) (deciding_found s.policy.profiles name.0 name.1 (hit_keyed name entries s pattern h found).profiles)
  where
    go : (o : Option Profile) → IfSome o (IsFoundIn s.policy.profiles name.0)
        → option_and_then (profile_of s.policy.profiles name.0) (option_map pattern_of o) ≡ o
    go None is = refl
    go (Some d) is = is

-- ---- a miss

pub put_holds : (entries : Entries) (s : State) (name : Name) (pattern : Option (List ℕ)) → Holds entries s → IsKeyed s
    → pattern ≡ deciding_pattern s.policy name → Holds (put_entries same_name (lru_cache entries 256) name pattern) s
put_holds entries s name pattern h ordered is = record {
  right = λ e there. elim (Contains-put_entries same_name (lru_cache entries 256) name pattern e there) [
    | inl was ↦ h.right e was
    | inr new ↦ new.0 ∙ is ∙ ap (deciding_pattern s.policy) (sym (elim new.1 [ inl same ↦ same | inr was ↦ sym (same_is name e.0 was.2) ]))
  ];
  keyed = λ e there. ordered;
}

bare_pattern : (o : Option Profile) → option_map pattern_of (option_map bare o) ≡ option_map pattern_of o
bare_pattern None = refl
bare_pattern (Some p) = refl

pub kept_with_holds : (old new : Entries) (s : State) (name : Name) (profile : Option Profile) → Holds old s → IsKeyed s
    → profile ≡ option_map bare (deciding_in s.policy name.0 name.1)
    → IsKeptWith old new name (option_map pattern_of profile) → Holds new s
kept_with_holds old new s name profile h ordered is (inl same) = subst (λ entries. Holds entries s) (sym same) h
kept_with_holds old new s name profile h ordered is (inr put) =
    subst (λ entries. Holds entries s) (sym put)
    (put_holds old s name (option_map pattern_of profile) h ordered (ap (option_map pattern_of) is ∙ bare_pattern (deciding_in s.policy name.0 name.1)))

pub searched_holds : (r : Result (Option Profile) StoreFault) (old new : Entries) (s : State) (name : Name) → Holds old s
    → IfOk r (λ profile. profile ≡ option_map bare (deciding_in s.policy name.0 name.1)) → IfOk r (λ _. IsKeyed s)
    → IfOk r (λ profile. IsKeptWith old new name (option_map pattern_of profile)) → OnErr r (new ≡ old) → Holds new s
searched_holds (Ok profile) old new s name h is ordered keeps failed = kept_with_holds old new s name profile h ordered is keeps
searched_holds (Err fault) old new s name h is ordered keeps failed = subst (λ entries. Holds entries s) (sym failed) h

-- ---- a change

edits_hold : (c : Change) (s : State) (entries : Entries) → Holds entries s → (b : Bool)
    → invalidates s.policy c.edits.items ≡ b → Holds (cond b [] entries) (changed_by c s)
edits_hold c s entries h true is = nothing_holds (changed_by c s)
edits_hold c s entries h false is =
    let stays : IsKeyed s → Stays s (changed_by c s) = λ k. account_stays c.account s (all_edited c.edits.items s) (edits_stay c.edits.items s k is) in
    record {
      right = λ e there. h.right e there ∙ same_pattern s.policy.profiles (changed_by c s).policy.profiles e.0.0 e.0.1 (sym (stays (h.keyed e there)).named);
      keyed = λ e there. (stays (h.keyed e there)).keyed;
    }

pub remembered_holds : (c : Change) (s : State) (entries : Entries) → Holds entries s → Holds (remembered s.policy c.edits.items entries) (changed_by c s)
remembered_holds c s entries h = edits_hold c s entries h (invalidates s.policy c.edits.items) refl

pub fewer_hold : (c : Change) (s : State) (entries : Entries) → Holds entries s → Holds (remembered s.policy c.edits.items entries) s
fewer_hold c s entries h = go (invalidates s.policy c.edits.items)
  where
    go : (b : Bool) → Holds (cond b [] entries) s
    go true = nothing_holds s
    go false = h

-- ---- the tables with the cache

module _ {T : Type 0} (m : Meaning T) where
  pub held : (tables : T) (entries : Entries) (flags : Flags) (s : State) → IsCached m tables entries flags s → Holds entries s
  held tables entries flags s h = record { right = h.right; keyed = h.keyed }

  pub with_cache : (tables : T) (entries : Entries) (flags : Flags) (s : State) → m.represents tables s → Holds entries s
      → AreFlagsOf s flags → IsCached m tables entries flags s
  with_cache tables entries flags s represented h are = record { represented = represented; known = are; right = h.right; keyed = h.keyed }

  pub cached_kept : (old new : Cached T) → IsKept m old.tables new.tables
      → (m.is_sure new.tables → (s : State) → m.represents old.tables s → Holds old.recent s → Holds new.recent s)
      → (m.is_sure new.tables → (s : State) → m.represents old.tables s → AreFlagsOf s old.flags → AreFlagsOf s new.flags)
      → IsKept (cached_meaning m) old new
  cached_kept old new kept holds flags = record {
    sure = kept.sure;
    same = λ sure s h. with_cache new.tables new.recent new.flags s (kept.same sure s h.represented)
        (holds sure s h.represented (held old.tables old.recent old.flags s h)) (flags sure s h.represented h.known);
    crash = kept.crash;
  }

-- ---- results

pub if_ok : {V E P : Type 0} (r : Result V E) → P → IfOk r (λ _. P)
if_ok (Ok v) p = p
if_ok (Err e) p = tt

pub on_ok : {V E P Q : Type 0} (r : Result V E) → (P → Q) → OnOk r P → OnOk r Q
on_ok (Ok v) f p = f p
on_ok (Err e) f p = tt

pub on_err_too : {V E P : Type 0} (r : Result V E) → P → OnErr r P
on_err_too (Ok v) p = tt
on_err_too (Err e) p = p

pub on_err : {V E P Q : Type 0} (r : Result V E) → (P → Q) → OnErr r P → OnErr r Q
on_err (Ok v) f p = tt
on_err (Err e) f p = f p

-- ---- lists of edits

pub no_edit : (p : Policy) (edits : List Edit) → length edits < 1 → invalidates p edits ≡ list_any redefines edits
no_edit p [] few = refl
no_edit p (e ∷ edits) few = absurd (omega arith)

pub some_edits : (p : Policy) (edits : List Edit) → 2 ≤ length edits → invalidates p edits ≡ list_any redefines edits
some_edits p [] many = absurd (omega arith)
some_edits p (e ∷ []) many = absurd (omega arith)
some_edits p (e ∷ (f ∷ more)) many = refl

-- ---- a put

-- names as the cache compares them
abbrev pub is_key : Name → Name → Bool
is_key n m = ghosts.eq n.0 m.0 && bytes_eq n.1 m.1

same_classes : (c d : Class) → ghosts.eq c d ≡ same_class c d
same_classes Console Console = refl
same_classes Console Opercmds = refl
same_classes Opercmds Console = refl
same_classes Opercmds Opercmds = refl

same_keys : is_key ≡ same_name
same_keys = λ i n m. same_classes n.0 m.0 i && bytes_eq n.1 m.1

pub put_or_not : {V E : Type 0} (r : Result V E) (old new : LruCache Name (Option (List ℕ))) (entries : Entries)
    (name : Name) (pattern : Option (List ℕ)) → old ≡ lru_cache entries 256
    → OnOk r (new ≡ lru_cache (put_entries is_key old name pattern) old.cap) → OnErr r (new ≡ old) → IsKeptWith entries new.entries name pattern
put_or_not (Ok v) old new entries name pattern was ok err =
    inr (ap (λ c. c.entries) ok ∙ ap (λ is. put_entries is old name pattern) same_keys
    ∙ ap (λ c. put_entries same_name c name pattern) was)
put_or_not (Err e) old new entries name pattern was ok err = inl (ap (λ c. c.entries) err ∙ ap (λ c. c.entries) was)
