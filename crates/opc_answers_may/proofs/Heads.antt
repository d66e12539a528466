-- A console that is asked about has one head, and one head says the same of its consoles.
use Rattle.std.proofs.Common.{
  ◌≡◌,
  ◌+◌,
  ◌∙◌,
  ap,
  sym,
  refl,
  ℕ,
  suc,
  Bool,
  true,
  false,
  ◌&&◌,
  cond,
  List,
  [],
  ◌∷◌,
  ◌++◌,
  Option,
  Some,
  None,
  filter,
  length,
  length-append,
  map,
  arith,
}
use Rattle.std.specs.Prelude.{All, find, if◌then◌else◌, not}
use Rattle.std.specs.Cmp.Lexicographic.{nat_list_cmp_total, slice_cmp}
use Rattle.std.specs.List.{flat_map}
use Rattle.std.specs.Option.{is_none}
use Rattle.std.specs.Ordering.{is_lt, nat_cmp, ordering_reverse}
use Rattle.std.specs.Str.{bytes_eq}
use Rattle.std.specs.declared.cmp.Ordering.{Ordering}
use Rattle.std.specs.declared.cmp.Ordering.TheVariants.{Equal, Greater, Less}
use Rattle.std.proofs.lemmas.List.Elements.{All-head, All-tail, filter-append}
use Rattle.std.proofs.lemmas.Slice.Eq.{bytes_eq-Decides}
use Rattle.opc_names.specs.Authority.{same_class}
use Rattle.opc_names.specs.Order.{sort_key}
use Rattle.opc_names.specs.declared.class.Class.{Class}
use Rattle.opc_names.specs.declared.class.Class.TheVariants.{Console, Opercmds}
use Rattle.opc_policy_members.specs.declared.profile.Profile.{Profile}
use Rattle.opc_policy_members.specs.Profiles.{AreMostSpecificFirst, is_before, is_of, of_class}
use Rattle.opc_policy_members.specs.Taken.{is_active}
use Rattle.opc_policy_members.specs.declared.policy.Policy.{Policy}
use Rattle.opc_policy.proofs.InOrder.{find-decides}
use Rattle.opc_policy.specs.Deciding.{deciding}
use Rattle.opc_answers.specs.Deciding.{decider}
use Rattle.opc_answers_may.specs.declared.logons.LogonAt.{LogonAt}
use Rattle.opc_answers_may.specs.declared.logons.LogonBasis.{LogonBasis}
use Rattle.opc_answers_may.specs.declared.logons.LogonBasis.TheVariants.{Auto, ByProfile, NoDigest, NoProfile}
use Rattle.opc_answers_may.specs.Logons.{alone, basis_by, by_profile, is_on, is_plain, is_raised_at, same_basis}
use Rattle.opc_answers_may.specs.MayLaws.{HasOneHead, StandsUnderItsHead, passing}
use Rattle.opc_answers_may.proofs.Placing.{is_the_one}
use Rattle.opc_answers.specs.Logons.{acts_for}

abbrev IsEarlier : Profile → Profile → Type 0
IsEarlier p q = p.class ≡ q.class → is_before p q ≡ true

pairs_head : (p : Profile) (ps : List Profile) → AreMostSpecificFirst (p ∷ ps) → All (IsEarlier p) ps
pairs_head p ps h k d less = h 0 (suc k) d (omega arith) (omega (arith, less))

pairs_tail : (p : Profile) (ps : List Profile) → AreMostSpecificFirst (p ∷ ps) → AreMostSpecificFirst ps
pairs_tail p ps h i j d first second = h (suc i) (suc j) d (omega (arith, first)) (omega (arith, second))

one_class : (c d : Class) → same_class c d ≡ true → c ≡ d
one_class Console Console e = refl
one_class Console Opercmds e = cc
one_class Opercmds Console e = cc
one_class Opercmds Opercmds e = refl

never_less : (o : Ordering) → o ≡ ordering_reverse o → is_lt o ≡ false
never_less Less flipped = cc
never_less Equal flipped = refl
never_less Greater flipped = refl

-- no profile comes before one of its pattern
not_before : (p q : Profile) → p.pattern ≡ q.pattern → is_before p q ≡ false
not_before p q same =
    sym (ap (λ t. is_lt (slice_cmp nat_cmp (sort_key p.pattern) (sort_key t))) same)
    ∙ never_less _ (nat_list_cmp_total.antisymm (sort_key p.pattern) (sort_key p.pattern))

abbrev is_same : LogonBasis → LogonBasis → Bool
is_same basis other = same_basis other basis

abbrev end : List LogonBasis
end = NoProfile ∷ NoDigest ∷ Auto ∷ []

-- ---- what else may decide

none_by : (basis : LogonBasis) (ps : List Profile) → ((pattern : List ℕ) → same_basis (ByProfile pattern) basis ≡ false)
    → filter (is_same basis) (map basis_by ps) ≡ []
none_by basis [] differs = refl
none_by basis (p ∷ ps) differs = rw (differs p.pattern) (none_by basis ps differs)

with_end : (basis : LogonBasis) (ps : List Profile) (found : List LogonBasis) → filter (is_same basis) (map basis_by ps) ≡ found
    → filter (is_same basis) (map basis_by ps ++ end) ≡ found ++ filter (is_same basis) end
with_end basis ps found is = filter-append (is_same basis) (map basis_by ps) end ∙ ap (λ l. l ++ filter (is_same basis) end) is

-- ---- a profile

later_none : (p : Profile) (ps : List Profile) (pattern : List ℕ) → p.class ≡ Console → p.pattern ≡ pattern → All (IsEarlier p) ps
    → filter (is_same (ByProfile pattern)) (map basis_by (of_class Console ps)) ≡ []
later_none p [] pattern class same earlier = refl
later_none p (q ∷ qs) pattern class same earlier =
    go (same_class q.class Console) (bytes_eq q.pattern pattern) refl refl
    (later_none p qs pattern class same (All-tail (IsEarlier p) q qs earlier))
  where
    go : (a b : Bool) → same_class q.class Console ≡ a → bytes_eq q.pattern pattern ≡ b
        → filter (is_same (ByProfile pattern)) (map basis_by (of_class Console qs)) ≡ []
        → filter (is_same (ByProfile pattern)) (map basis_by (cond a (q ∷ of_class Console qs) (of_class Console qs))) ≡ []
    go false b of is later = later
    go true false of is later = rw is later
    go true true of is later =
        let before : is_before p q ≡ true = All-head (IsEarlier p) q qs earlier (class ∙ sym (one_class q.class Console of)) in
        let never : is_before p q ≡ false = not_before p q (same ∙ sym ((bytes_eq-Decides q.pattern pattern).0 is)) in
        let no : true ≡ false = sym before ∙ never in cc

by_its_own : (ps : List Profile) (pattern : List ℕ) (q : Profile) → AreMostSpecificFirst ps → find (is_of Console pattern) ps ≡ Some q
    → filter (is_same (ByProfile pattern)) (map basis_by (of_class Console ps)) ≡ ByProfile pattern ∷ []
by_its_own [] pattern q order found = cc
by_its_own (p ∷ ps) pattern q order found =
    go (same_class p.class Console) (bytes_eq p.pattern pattern) refl refl found
    (by_its_own ps pattern q (pairs_tail p ps order))
  where
    go : (a b : Bool) → same_class p.class Console ≡ a → bytes_eq p.pattern pattern ≡ b
        → cond (a && b) (Some p) (find (is_of Console pattern) ps) ≡ Some q
        → (find (is_of Console pattern) ps ≡ Some q
        → filter (is_same (ByProfile pattern)) (map basis_by (of_class Console ps)) ≡ ByProfile pattern ∷ [])
        → filter (is_same (ByProfile pattern)) (map basis_by (cond a (p ∷ of_class Console ps) (of_class Console ps)))
        ≡ ByProfile pattern ∷ []
    go false b of is found later = later found
    go true false of is found later = rw is (later found)
    go true true of is found later =
        let same : p.pattern ≡ pattern = (bytes_eq-Decides p.pattern pattern).0 is in
        let rest = later_none p ps pattern (one_class p.class Console of) same (pairs_head p ps order) in
        rw (is, rest) (ap (λ t. ByProfile t ∷ []) same)

-- the profile that decides is the one of its pattern
pub decider_stored : (p : Policy) (name : List ℕ) (q : Profile) → AreMostSpecificFirst p.profiles → decider p Console name ≡ Some q
    → find (is_of Console q.pattern) p.profiles ≡ Some q
decider_stored p name q order decides = go (is_active p.active Console) decides
  where
    go : (b : Bool) → (if b then deciding (of_class Console p.profiles) name else None) ≡ Some q
        → find (is_of Console q.pattern) p.profiles ≡ Some q
    go true decides = is_the_one Console name p.profiles q (find-decides Console name p.profiles order ∙ decides)
    go false decides = cc

by_decided : (ps : List Profile) (d : Option Profile) → AreMostSpecificFirst ps
    → ((q : Profile) → d ≡ Some q → find (is_of Console q.pattern) ps ≡ Some q)
    → filter (is_same (by_profile d)) (map basis_by (of_class Console ps) ++ end) ≡ by_profile d ∷ []
by_decided ps None order stored = with_end NoProfile (of_class Console ps) [] (none_by NoProfile (of_class Console ps) (λ pattern. refl))
by_decided ps (Some q) order stored =
    with_end (ByProfile q.pattern) (of_class Console ps) (ByProfile q.pattern ∷ []) (by_its_own ps q.pattern q order (stored q refl))

abbrev basis_by_all : Policy → (name : List ℕ) → (acts none : Bool) → LogonBasis
basis_by_all p name a n = if a then Auto else (if n then NoDigest else by_profile (decider p Console name))

one_so : (p : Policy) (name : List ℕ) (a n : Bool) → AreMostSpecificFirst p.profiles
    → filter (is_same (basis_by_all p name a n)) (map basis_by (of_class Console p.profiles) ++ end) ≡ basis_by_all p name a n ∷ []
one_so p name true n order =
    with_end Auto (of_class Console p.profiles) [] (none_by Auto (of_class Console p.profiles) (λ pattern. refl))
one_so p name false true order =
    with_end NoDigest (of_class Console p.profiles) [] (none_by NoDigest (of_class Console p.profiles) (λ pattern. refl))
one_so p name false false order =
    by_decided p.profiles (decider p Console name) order (λ q decides. decider_stored p name q order decides)

pub has_one_head : HasOneHead
has_one_head p m c order = one_so p c.name (acts_for c m) (is_none m.user.digest) order

-- ---- under a head

flat_alone : (logons : List LogonAt) → flat_map (λ (group : List LogonAt). group) (map alone logons) ≡ logons
flat_alone [] = refl
flat_alone (l ∷ logons) = ap (λ rest. l ∷ rest) (flat_alone logons)

passing_both : (test : LogonAt → Bool) (xs ys : List LogonAt) → passing test (xs ++ ys) ≡ passing test xs + passing test ys
passing_both test xs ys = ap length (filter-append test xs ys) ∙ length-append (filter test xs) (filter test ys)

-- each is plain or raised
parted : (test : LogonAt → Bool) (logons : List LogonAt)
    → passing test (filter is_plain logons) + passing test (filter is_raised_at logons) ≡ passing test logons
parted test [] = refl
parted test (l ∷ logons) = go (is_raised_at l) (test l) refl refl (parted test logons)
  where
    go : (r b : Bool) → is_raised_at l ≡ r → test l ≡ b
        → passing test (filter is_plain logons) + passing test (filter is_raised_at logons) ≡ passing test logons
        → passing test (cond (not r) (l ∷ filter is_plain logons) (filter is_plain logons))
        + passing test (cond r (l ∷ filter is_raised_at logons) (filter is_raised_at logons)) ≡ passing test (l ∷ logons)
    go true true is passes so = rw passes (omega (arith, so))
    go true false is passes so = rw passes so
    go false true is passes so = rw passes (omega (arith, so))
    go false false is passes so = rw passes so

pub stands_under_its_head : StandsUnderItsHead
stands_under_its_head logons basis test =
    let there : List LogonAt = filter (is_on basis) logons in
    ap (λ l. passing test (filter is_plain there ++ l)) (flat_alone (filter is_raised_at there))
    ∙ passing_both test (filter is_plain there) (filter is_raised_at there) ∙ parted test there
