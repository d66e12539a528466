-- The first profile of a class whose sort key is at a start or after it.
use Rattle.std.proofs.Common.{
  ◌≡◌,
  ℕ,
  Bool,
  true,
  false,
  ◌&&◌,
  List,
  [],
  ◌∷◌,
  Option,
  Some,
  None,
  find,
  cond,
  refl,
  sym,
  ap,
  ◌∙◌,
}
use Rattle.std.specs.BTreeMap.Range.{entries_between, is_from_start, range_contains}
use Rattle.std.specs.Cmp.Lexicographic.{slice_cmp}
use Rattle.std.specs.List.{AllByRecursion}
use Rattle.std.specs.List.Sorted.{IsStrictlySortedBy}
use Rattle.std.specs.Map.{keys_of, values_of}
use Rattle.std.specs.Ordering.{nat_cmp, is_le, is_lt}
use Rattle.std.specs.declared.cmp.Ordering.{Ordering}
use Rattle.std.specs.declared.cmp.Ordering.TheVariants.{Less}
use Rattle.std.specs.declared.ops.Bound.{Bound}
use Rattle.std.specs.declared.ops.Bound.TheVariants.{Included, Excluded, Unbounded}
use Rattle.std.proofs.lemmas.Bool.{false≢true}
use Rattle.opc_names.specs.Authority.{same_class}
use Rattle.opc_names.specs.Order.{sort_key}
use Rattle.opc_names.specs.declared.class.Class.{Class}
use Rattle.opc_names.specs.declared.class.Class.TheVariants.{Console, Opercmds}
use Rattle.opc_policy_members.proofs.ProfilesByKey.{key_cmp}
use Rattle.opc_policy_members.specs.Profiles.{is_of_from}
use Rattle.opc_policy_members.specs.Stored.{AreByKey, IsAtItsKey, key_bound}
use Rattle.opc_policy_members.specs.declared.profile.Profile.{Profile}

abbrev Keyed : Type 0
Keyed = (Class × List ℕ) × Profile

abbrev order : List ℕ → List ℕ → Ordering
order = slice_cmp nat_cmp

-- whether a key of one class is from a start of another on
abbrev from_class : (class other : Class) → (same : Bool) → Bool
from_class Console Console same = same
from_class Console Opercmds same = true
from_class Opercmds Console same = false
from_class Opercmds Opercmds same = same

and_true : (b : Bool) → (b && true) ≡ b
and_true true = refl
and_true false = refl

from_nothing : (key : List ℕ) → is_le (order [] key) ≡ true
from_nothing [] = refl
from_nothing (c ∷ key) = refl

included : (class other : Class) (key k : List ℕ) → is_le (key_cmp (class, key) (other, k)) ≡ from_class class other (is_le (order key k))
included Console Console key k = refl
included Console Opercmds key k = refl
included Opercmds Console key k = refl
included Opercmds Opercmds key k = refl

excluded : (class other : Class) (key k : List ℕ) → is_lt (key_cmp (class, key) (other, k)) ≡ from_class class other (is_lt (order key k))
excluded Console Console key k = refl
excluded Console Opercmds key k = refl
excluded Opercmds Console key k = refl
excluded Opercmds Opercmds key k = refl

from_bound : (class other : Class) (start : Bound (List ℕ)) (k : List ℕ)
    → range_contains key_cmp (key_bound class start) Unbounded (other, k) ≡ from_class class other (is_from_start order start k)
from_bound class other (Included key) k = and_true _ ∙ included class other key k
from_bound class other (Excluded key) k = and_true _ ∙ excluded class other key k
from_bound class other Unbounded k = and_true _ ∙ included class other [] k ∙ ap (from_class class other) (from_nothing k)

-- the first of a list, if it is of a class
abbrev first_of_class : Class → List Keyed → Option Profile
first_of_class class [] = None
first_of_class class (e ∷ es) = cond (same_class e.1.class class) (Some e.1) None

-- a class that comes after another, and all that come after it
of_first : (other class : Class) (x : Bool) → from_class class other x ≡ false → (same_class other class && x) ≡ false
of_first Console Console x h = h
of_first Console Opercmds x h = refl
of_first Opercmds Console x h = refl
of_first Opercmds Opercmds x h = h

of_same : (other class : Class) (x : Bool) → from_class class other x ≡ true → same_class other class ≡ true
    → (same_class other class && x) ≡ true
of_same Console Console x h s = h
of_same Console Opercmds x h s = absurd (false≢true s)
of_same Opercmds Console x h s = absurd (false≢true s)
of_same Opercmds Opercmds x h s = h

of_other : (other class : Class) (x : Bool) → same_class other class ≡ false → (same_class other class && x) ≡ false
of_other other class x h = rw h refl

after_other : (class other next : Class) (k l : List ℕ) (x : Bool) → from_class class other x ≡ true → same_class other class ≡ false
    → key_cmp (other, k) (next, l) ≡ Less → same_class next class ≡ false
after_other Console Console next k l x h s less = absurd (false≢true (sym s))
after_other Console Opercmds Console k l x h s less = (cc)
after_other Console Opercmds Opercmds k l x h s less = refl
after_other Opercmds Console next k l x h s less = absurd (false≢true h)
after_other Opercmds Opercmds next k l x h s less = absurd (false≢true (sym s))

module _ (class : Class) (start : Bound (List ℕ)) where
  abbrev contained : Keyed → Bool
  contained e = range_contains key_cmp (key_bound class start) Unbounded e.0

  ranged : (e : Keyed) → IsAtItsKey e → contained e ≡ from_class class e.1.class (is_from_start order start (sort_key e.1.pattern))
  ranged e at = rw (sym at.0, sym at.1) (from_bound class e.0.0 start e.0.1)

  none_after : (e : Keyed) (es : List Keyed) → IsAtItsKey e → AreByKey es → contained e ≡ true → same_class e.1.class class ≡ false
      → AllByRecursion (λ (k : Class × List ℕ). key_cmp e.0 k ≡ Less) (keys_of es) → find (is_of_from class start) (values_of es) ≡ None
  none_after e [] at all from other less = refl
  none_after e (f ∷ es) at all from other less =
      let same : same_class f.1.class class ≡ false =
      after_other class e.1.class f.1.class e.0.1 f.0.1 _ (sym (ranged e at) ∙ from) other (rw (at.0, all.0.0) at less.0) in
      rw (of_other f.1.class class (is_from_start order start (sort_key f.1.pattern)) same) (none_after e es at all.1 from other less.1)

  first_is : (es : List Keyed) → AreByKey es → IsStrictlySortedBy key_cmp (keys_of es)
      → find (is_of_from class start) (values_of es) ≡ first_of_class class (entries_between key_cmp (key_bound class start) Unbounded es)
  unfolding IsStrictlySortedBy
  first_is [] all sorted = refl
  first_is (e ∷ es) all sorted = go (contained e) (same_class e.1.class class) refl refl (first_is es all.1 sorted.1)
    where
      at : contained e ≡ from_class class e.1.class (is_from_start order start (sort_key e.1.pattern))
      at = ranged e all.0

      go : (b s : Bool) → contained e ≡ b → same_class e.1.class class ≡ s
          → find (is_of_from class start) (values_of es) ≡ first_of_class class (entries_between key_cmp (key_bound class start) Unbounded es)
          → find (is_of_from class start) (values_of (e ∷ es))
          ≡ first_of_class class (entries_between key_cmp (key_bound class start) Unbounded (e ∷ es))
      go false s c d more = rw (c, of_first e.1.class class _ (sym at ∙ c)) more
      go true true c d more = rw (c, of_same e.1.class class _ (sym at ∙ c) d, d) refl
      go true false c d more = rw (c, of_other e.1.class class (is_from_start order start (sort_key e.1.pattern)) d, d)
          (none_after e es all.0 all.1 c d sorted.0)

  module _ (es between : List Keyed) (all : AreByKey es) (sorted : IsStrictlySortedBy key_cmp (keys_of es))
      (is : between ≡ entries_between key_cmp (key_bound class start) Unbounded es) where
    pub found : (e : Keyed) (rest : List Keyed) → between ≡ e ∷ rest → same_class e.1.class class ≡ true
        → Some e.1 ≡ find (is_of_from class start) (values_of es)
    found e rest first same = sym (first_is es all sorted ∙ ap (first_of_class class) (sym is ∙ first) ∙ rw same refl)

    pub none_left : between ≡ [] → None ≡ find (is_of_from class start) (values_of es)
    none_left none = sym (first_is es all sorted ∙ ap (first_of_class class) (sym is ∙ none))

    pub other_left : (e : Keyed) (rest : List Keyed) → between ≡ e ∷ rest → same_class e.1.class class ≡ false
        → None ≡ find (is_of_from class start) (values_of es)
    other_left e rest first other = sym (first_is es all sorted ∙ ap (first_of_class class) (sym is ∙ first) ∙ rw other refl)
