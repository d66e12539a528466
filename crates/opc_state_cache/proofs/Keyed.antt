-- What stays in the order of the keys, and what is found by them then.
use Rattle.std.proofs.Common.{
  ◌≡◌,
  ℕ,
  Bool,
  true,
  false,
  cond,
  ◌&&◌,
  List,
  [],
  ◌∷◌,
  Option,
  Some,
  None,
  Decides,
  IfSome,
  filter,
  refl,
  sym,
  ap,
  subst,
  ◌∙◌,
  is_eq,
}
use Rattle.std.specs.BTreeSet.{replace_key}
use Rattle.std.specs.Cmp.{IsTotalOrder, tied_itself}
use Rattle.std.specs.Cmp.Lexicographic.{nat_list_cmp_total}
use Rattle.std.specs.List.{AllByRecursion}
use Rattle.std.specs.Ordering.{is_lt, nat_cmp, ordering_then}
use Rattle.std.specs.Str.{bytes_eq}
use Rattle.std.specs.declared.cmp.Ordering.{Ordering}
use Rattle.std.specs.declared.cmp.Ordering.TheVariants.{Equal}
use Rattle.std.proofs.lemmas.Cmp.{nat_cmp_total, on_total, then_total}
use Rattle.std.proofs.lemmas.Slice.Eq.{bytes_eq-Decides}
use Rattle.opc_names.specs.Authority.{same_class}
use Rattle.opc_names.specs.Order.{sort_key}
use Rattle.opc_names.specs.declared.class.Class.{Class}
use Rattle.opc_names.specs.declared.class.Class.TheVariants.{Console, Opercmds}
use Rattle.opc_policy_members.specs.declared.profile.Profile.{Profile}
use Rattle.opc_policy_members.specs.declared.user.User.{User}
use Rattle.opc_policy.specs.Deciding.{covering, deciding, first_of, first_with}
use Rattle.opc_policy_members.specs.Profiles.{class_cmp, is_before, is_of, of_class, pattern_cmp, profile_cmp, profile_of}
use Rattle.opc_policy_members.specs.Members.{user_cmp}
use Rattle.opc_policy_members.proofs.Classes.{same_class_is}
use Rattle.opc_rows.specs.Ordered.{Ascends}
use Rattle.opc_state.proofs.Replacing.{all_put, put_in_order}

-- ---- the orders of the keys

pub user_total : IsTotalOrder user_cmp
user_total = on_total (λ (u : User). u.id) nat_list_cmp_total

abbrev class_rank : Class → ℕ
class_rank Console = 0
class_rank Opercmds = 1

by_rank : (c d : Class) → nat_cmp (class_rank c) (class_rank d) ≡ class_cmp c d
by_rank Console Console = refl
by_rank Console Opercmds = refl
by_rank Opercmds Console = refl
by_rank Opercmds Opercmds = refl

class_total : IsTotalOrder class_cmp
class_total = subst IsTotalOrder (λ i c d. by_rank c d i) (on_total class_rank nat_cmp_total)

pub profile_total : IsTotalOrder profile_cmp
profile_total = then_total (on_total (λ (p : Profile). p.class) class_total) (on_total (λ (p : Profile). sort_key p.pattern) nat_list_cmp_total)

-- one that is put among others
module _ {R : Type 0} (cmp : R → R → Ordering) (total : IsTotalOrder cmp) where
  pub put_ascends : (r : R) (rows : List R) → Ascends (λ a b. is_lt (cmp a b)) rows → Ascends (λ a b. is_lt (cmp a b)) (replace_key cmp rows r)
  put_ascends = put_in_order cmp total (λ a b. is_eq (cmp a b)) (λ a b. refl)

  pub put_all : (P : R → Type 0) (r : R) (rows : List R) → P r → AllByRecursion P rows → AllByRecursion P (replace_key cmp rows r)
  put_all = all_put cmp total (λ a b. is_eq (cmp a b)) (λ a b. refl)

-- ---- the profile that decides is found by its class and its pattern

all_two : {A : Type 0} (P Q R : A → Type 0) → ((a : A) → P a → Q a → R a) → (xs : List A) → AllByRecursion P xs → AllByRecursion Q xs → AllByRecursion R xs
all_two P Q R turn [] ps qs = tt
all_two P Q R turn (x ∷ xs) ps qs = (turn x ps.0 qs.0, all_two P Q R turn xs ps.1 qs.1)

-- those that pass a test, by the result of the test
all_passing : {A : Type 0} (P Q : A → Type 0) (test : A → Bool) → ((a : A) → test a ≡ true → P a → Q a) → (xs : List A)
    → AllByRecursion P xs → AllByRecursion Q (filter test xs)
all_passing P Q test turn [] ps = tt
all_passing {A} P Q test turn (x ∷ xs) ps = go (test x) refl (all_passing P Q test turn xs ps.1)
  where
    go : (b : Bool) → test x ≡ b → AllByRecursion Q (filter test xs) → AllByRecursion Q (cond b (x ∷ filter test xs) (filter test xs))
    go true is rest = (turn x is ps.0, rest)
    go false is rest = rest

all_first : (P : Profile → Type 0) (profiles : List Profile) → AllByRecursion P profiles → IfSome (first_of profiles) P
all_first P [] ps = tt
all_first P (x ∷ profiles) ps = one (first_of profiles) (all_first P profiles ps.1)
  where
    one : (o : Option Profile) → IfSome o P → P (first_with x o)
    one None rest = ps.0
    one (Some q) rest = go (is_before q x)
      where
        go : (b : Bool) → P (cond b q x)
        go true = rest
        go false = ps.0

apart : (x p : Profile) → is_lt (profile_cmp x p) ≡ true → is_of p.class p.pattern x ≡ false
apart x p before = go x.class p.class (bytes_eq x.pattern p.pattern) (bytes_eq-Decides x.pattern p.pattern) before
  where
    tie : x.pattern ≡ p.pattern → pattern_cmp x.pattern p.pattern ≡ Equal
    tie same = subst (λ q. pattern_cmp q p.pattern ≡ Equal) (sym same) (tied_itself nat_list_cmp_total (sort_key p.pattern))

    never : x.pattern ≡ p.pattern → is_lt (pattern_cmp x.pattern p.pattern) ≡ true → true ≡ false
    never same before = sym (sym (ap is_lt (tie same)) ∙ before)

    go : (c d : Class) (b : Bool) → Decides b (x.pattern ≡ p.pattern)
        → is_lt (ordering_then (class_cmp c d) (pattern_cmp x.pattern p.pattern)) ≡ true → (same_class c d && b) ≡ false
    go Console Console true same h = never (same.0 refl) h
    go Console Console false same h = refl
    go Console Opercmds b same h = refl
    go Opercmds Console b same h = refl
    go Opercmds Opercmds true same h = never (same.0 refl) h
    go Opercmds Opercmds false same h = refl

pub of_itself : (p : Profile) → is_of p.class p.pattern p ≡ true
of_itself p = go p.class (bytes_eq p.pattern p.pattern) ((bytes_eq-Decides p.pattern p.pattern).1 refl)
  where
    go : (c : Class) (b : Bool) → b ≡ true → (same_class c c && b) ≡ true
    go Console b is = is
    go Opercmds b is = is

abbrev IsFound : List Profile → Profile → Type 0
IsFound profiles p = profile_of profiles p.class p.pattern ≡ Some p

abbrev pub IsFoundIn : List Profile → Class → Profile → Type 0
IsFoundIn profiles class p = profile_of profiles class p.pattern ≡ Some p

each_found : (profiles : List Profile) → Ascends (λ (q r : Profile). is_lt (profile_cmp q r)) profiles → AllByRecursion (IsFound profiles) profiles
each_found [] rise = tt
each_found (x ∷ profiles) rise = (
  ap (λ b. cond b (Some x) (profile_of profiles x.class x.pattern)) (of_itself x),
  all_two (λ p. is_lt (profile_cmp x p) ≡ true) (IsFound profiles) (IsFound (x ∷ profiles))
      (λ p before found. ap (λ b. cond b (Some x) (profile_of profiles p.class p.pattern)) (apart x p before) ∙ found)
      profiles rise.0 (each_found profiles rise.1),
)

pub deciding_found : (profiles : List Profile) (class : Class) (resource : List ℕ)
    → Ascends (λ (q r : Profile). is_lt (profile_cmp q r)) profiles
    → IfSome (deciding (of_class class profiles) resource) (IsFoundIn profiles class)
deciding_found profiles class resource rise =
    all_first (IsFoundIn profiles class) (covering resource (of_class class profiles))
    (all_passing (IsFoundIn profiles class) (IsFoundIn profiles class) _ (λ p passes found. found) (of_class class profiles)
    (all_passing (IsFound profiles) (IsFoundIn profiles class) (λ (p : Profile). same_class p.class class)
    (λ p passes found. subst (λ c. profile_of profiles c p.pattern ≡ Some p) (same_class_is p.class class passes) found) profiles (each_found profiles rise)))
