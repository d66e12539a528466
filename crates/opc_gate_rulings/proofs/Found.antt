-- A profile of a policy is found by its class and its pattern.
use Rattle.std.proofs.Common.{◌≡◌, ℕ, Bool, true, false, cond, ◌&&◌, List, [], ◌∷◌, Option, Some, None, Decides, IfSome, filter, refl, sym, ap, subst, ◌∙◌}
use Rattle.std.specs.Cmp.{tied_itself}
use Rattle.std.specs.Cmp.Lexicographic.{nat_list_cmp_total}
use Rattle.std.specs.List.{AllByRecursion}
use Rattle.std.specs.Ordering.{is_lt, ordering_then}
use Rattle.std.specs.Str.{bytes_eq}
use Rattle.std.specs.declared.cmp.Ordering.TheVariants.{Equal}
use Rattle.std.proofs.lemmas.Slice.Eq.{bytes_eq-Decides}
use Rattle.opc_names.specs.Authority.{same_class}
use Rattle.opc_names.specs.Order.{sort_key}
use Rattle.opc_names.specs.declared.class.Class.{Class}
use Rattle.opc_names.specs.declared.class.Class.TheVariants.{Console, Opercmds}
use Rattle.opc_policy_members.specs.declared.profile.Profile.{Profile}
use Rattle.opc_policy.specs.Deciding.{covering, deciding, first_of, first_with}
use Rattle.opc_policy_members.specs.Profiles.{class_cmp, is_before, is_of, of_class, pattern_cmp, profile_cmp, profile_of}
use Rattle.opc_rows.specs.Ordered.{Ascends}

-- of all elements

all_two : {A : Type 0} (P Q R : A → Type 0) → ((a : A) → P a → Q a → R a) → (xs : List A) → AllByRecursion P xs → AllByRecursion Q xs → AllByRecursion R xs
all_two P Q R turn [] ps qs = tt
all_two P Q R turn (x ∷ xs) ps qs = (turn x ps.0 qs.0, all_two P Q R turn xs ps.1 qs.1)

all_kept : {A : Type 0} (P : A → Type 0) (test : A → Bool) (xs : List A) → AllByRecursion P xs → AllByRecursion P (filter test xs)
all_kept P test [] ps = tt
all_kept P test (x ∷ xs) ps = go (test x) (all_kept P test xs ps.1)
  where
    go : (b : Bool) → AllByRecursion P (filter test xs) → AllByRecursion P (cond b (x ∷ filter test xs) (filter test xs))
    go true rest = (ps.0, rest)
    go false rest = rest

first_kept : (P : Profile → Type 0) (profiles : List Profile) → AllByRecursion P profiles → IfSome (first_of profiles) P
first_kept P [] ps = tt
first_kept P (x ∷ profiles) ps = one (first_of profiles) (first_kept P profiles ps.1)
  where
    one : (o : Option Profile) → IfSome o P → P (first_with x o)
    one None rest = ps.0
    one (Some q) rest = go (is_before q x)
      where
        go : (b : Bool) → P (cond b q x)
        go true = rest
        go false = ps.0

-- a profile that comes before another is of another class or pattern

apart : (x p : Profile) → is_lt (profile_cmp x p) ≡ true → is_of p.class p.pattern x ≡ false
apart x p before = go x.class p.class (bytes_eq x.pattern p.pattern) (bytes_eq-Decides x.pattern p.pattern) before
  where
    tie : x.pattern ≡ p.pattern → pattern_cmp x.pattern p.pattern ≡ Equal
    tie same = subst (λ q. pattern_cmp q p.pattern ≡ Equal) (sym same) (tied_itself nat_list_cmp_total (sort_key p.pattern))

    never : x.pattern ≡ p.pattern → is_lt (pattern_cmp x.pattern p.pattern) ≡ true → true ≡ false
    never same before = sym (sym (ap is_lt (tie same)) ∙ before)

    go : (c d : Class) (b : Bool) → Decides b (x.pattern ≡ p.pattern)
        → is_lt (ordering_then (class_cmp c d) (pattern_cmp x.pattern p.pattern)) ≡ true → (same_class c d && b) ≡ false
    go Console Console true same h = never (same.0 refl) h
    go Console Console false same h = refl
    go Console Opercmds b same h = refl
    go Opercmds Console b same h = refl
    go Opercmds Opercmds true same h = never (same.0 refl) h
    go Opercmds Opercmds false same h = refl

itself : (p : Profile) → is_of p.class p.pattern p ≡ true
itself p = go p.class (bytes_eq p.pattern p.pattern) ((bytes_eq-Decides p.pattern p.pattern).1 refl)
  where
    go : (c : Class) (b : Bool) → b ≡ true → (same_class c c && b) ≡ true
    go Console b is = is
    go Opercmds b is = is

abbrev IsFound : List Profile → Profile → Type 0
IsFound profiles p = profile_of profiles p.class p.pattern ≡ Some p

each_found : (profiles : List Profile) → Ascends (λ (q r : Profile). is_lt (profile_cmp q r)) profiles → AllByRecursion (IsFound profiles) profiles
each_found [] rise = tt
each_found (x ∷ profiles) rise = (
  ap (λ b. cond b (Some x) (profile_of profiles x.class x.pattern)) (itself x),
  all_two (λ p. is_lt (profile_cmp x p) ≡ true) (IsFound profiles) (IsFound (x ∷ profiles))
      (λ p before found. ap (λ b. cond b (Some x) (profile_of profiles p.class p.pattern)) (apart x p before) ∙ found)
      profiles rise.0 (each_found profiles rise.1),
)

-- so is the one that decides
pub deciding_found : (profiles : List Profile) (class : Class) (resource : List ℕ)
    → Ascends (λ (q r : Profile). is_lt (profile_cmp q r)) profiles
    → IfSome (deciding (of_class class profiles) resource) (IsFound profiles)
deciding_found profiles class resource rise =
    first_kept (IsFound profiles) (covering resource (of_class class profiles))
    (all_kept (IsFound profiles) _ (of_class class profiles) (all_kept (IsFound profiles) _ profiles (each_found profiles rise)))
