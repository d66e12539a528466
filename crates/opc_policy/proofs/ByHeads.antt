-- The deciding profile, head by head.
use Rattle.std.proofs.Common.{
  ◌≡◌,
  ℕ,
  ◌<◌,
  ◌≤◌,
  ◌+◌,
  ◌-◌,
  true,
  false,
  ◌&&◌,
  nat_le,
  List,
  take,
  length,
  Option,
  Some,
  None,
  refl,
  sym,
  ap,
  ◌∙◌,
  arith,
  ◌⊎◌,
  inl,
  inr,
}
use Rattle.std.specs.List.{Contains}
use Rattle.std.specs.Option.{is_some}
use Rattle.std.specs.List.{starts_with}
use Rattle.std.specs.Prelude.{nat_eq}
use Rattle.std.proofs.lemmas.List.Sums.{count_by-le-length, length-filter}
use Rattle.opc_names.specs.Authority.{same_class}
use Rattle.std.proofs.lemmas.Bool.{false≢true}
use Rattle.std.proofs.lemmas.Bool.Decides.{eqb_tells}
use Rattle.std.proofs.lemmas.List.{take_at, length-take-le}
use Rattle.std.proofs.lemmas.Slice.Eq.{bytes_eq-Decides}
use Rattle.opc_names.specs.Patterns.{tokens, CoversText}
use Rattle.opc_names.specs.declared.class.Class.{Class}
use Rattle.opc_names.specs.Names.{IsPattern}
use Rattle.std.specs.Str.{bytes_eq}
use Rattle.opc_names.proofs.Heads.{heads_are_prefixes, longer_heads_come_first}
use Rattle.opc_names.proofs.Orders.{before_itself, before_trans}
use Rattle.opc_policy_members.specs.declared.profile.Profile.{Profile}
use Rattle.opc_policy_members.specs.Profiles.{AreProfiles, of_class}
use Rattle.opc_policy.specs.Deciding.{IsBefore, IsDeciding, deciding}
use Rattle.opc_policy.specs.Examined.{head_of, head_length, with_head, read_until, is_examined, examined}
use Rattle.opc_policy.proofs.MostSpecific.{of_filter, to_filter, deciding_is, class_pattern, one_is_deciding}
use Rattle.opc_policy.proofs.Counts.{prefix_fits, longer, as_long, longer_none, longer_last, longer_more, as_long_all, as_long_more}

-- their patterns are patterns
abbrev pub HavePatterns : List Profile → Type 0
HavePatterns profiles = (q : Profile) → Contains profiles q → IsPattern q.pattern

-- no profile that covers the name has a head longer than k
abbrev pub NoneLonger : List Profile → List ℕ → ℕ → Type 0
NoneLonger profiles name k = (q : Profile) → Contains profiles q → CoversText q.pattern name → length (head_of q) ≤ k

eq_or_less : (a k : ℕ) → a ≤ k → (a ≡ k) ⊎ (a < k)
eq_or_less a k h = grind (arith, eqb_tells a k)

module _ (profiles : List Profile) (name : List ℕ) (patterns : HavePatterns profiles) where
  head_is : (q : Profile) → Contains profiles q → CoversText q.pattern name → head_of q ≡ take (length (head_of q)) name
  head_is q m c =
      let prefix = heads_are_prefixes q.pattern name (patterns q m) c in
      sym (ap (take (length (head_of q))) prefix.1 ∙ take_at (head_of q) prefix.0 (length (head_of q)) refl)

  pub none_longer_start : NoneLonger profiles name (length name)
  none_longer_start q m c = prefix_fits (head_of q) name (head_is q m c)

  at_head : (k : ℕ) (q : Profile) → Contains profiles q → CoversText q.pattern name → length (head_of q) ≡ k → Contains (with_head (take k name) profiles) q
  at_head k q m c e = to_filter _ profiles q m ((bytes_eq-Decides (head_of q) (take k name)).1 (rw (← e) (head_is q m c)))

  pub none_longer_less : (k : ℕ) → NoneLonger profiles name k → IsDeciding (with_head (take k name) profiles) name None
      → (q : Profile) → Contains profiles q → CoversText q.pattern name → length (head_of q) < k
  none_longer_less k longest h q m c =
      let within = longest q m c in
      let other : length (head_of q) ≡ k → ⊥ = λ e. h q (at_head k q m c e) c in
      omega (arith, within, other)

  pub deciding_none : NoneLonger profiles name 0 → IsDeciding (with_head (take 0 name) profiles) name None → IsDeciding profiles name None
  deciding_none longest h q m c = let l = none_longer_less 0 longest h q m c in omega (arith, l)

  pub deciding_head : (k : ℕ) (d : Profile) → IsDeciding (with_head (take k name) profiles) name (Some d) → head_of d ≡ take k name
  deciding_head k d h = (bytes_eq-Decides (head_of d) (take k name)).0 (of_filter _ profiles d h.0).1

  pub deciding_some : (k : ℕ) (d : Profile) → k ≤ length name → NoneLonger profiles name k
      → IsDeciding (with_head (take k name) profiles) name (Some d) → IsDeciding profiles name (Some d)
  deciding_some k d fits longest h =
      let m = (of_filter _ profiles d h.0).0 in
      let l : length (head_of d) ≡ k = ap length (deciding_head k d h) ∙ length-take-le k name fits in
      (m, h.1, λ q n c b. first q n c b (longest q n c) (eq_or_less (length (head_of q)) k (longest q n c)) m l)
    where
      first : (q : Profile) → Contains profiles q → CoversText q.pattern name → IsBefore q d → length (head_of q) ≤ k
          → (length (head_of q) ≡ k) ⊎ (length (head_of q) < k) → Contains profiles d → length (head_of d) ≡ k → ⊥
      first q n c b w (inl e) m l = h.2 q (at_head k q n c e) c b
      first q n c b w (inr e) m l =
          before_itself (tokens q.pattern)
          (before_trans (tokens q.pattern) (tokens d.pattern) (tokens q.pattern) b
          (longer_heads_come_first d.pattern q.pattern name (patterns d m) (patterns q n) h.1 c
          (omega (arith, e, l))))

-- what is known before a head of length k is searched
pub record Asked (profiles : List Profile) (name : List ℕ) (k rows : ℕ) : Type 0 where
  pub within : k ≤ length name
  pub count : rows ≡ longer name k profiles
  pub longest : NoneLonger profiles name k

module _ (content : List Profile) (class : Class) (name : List ℕ) (sound : AreProfiles content) where
  patterns : HavePatterns (of_class class content)
  patterns = class_pattern content class sound

  pub asked_start : Asked (of_class class content) name (length name) 0
  asked_start = record {
    within = omega arith;
    count = sym (longer_none name (of_class class content));
    longest = none_longer_start (of_class class content) name patterns;
  }

  -- the answer of the source for that head
  module _ (k rows more : ℕ) (before : Asked (of_class class content) name k rows) (answer : Option Profile)
      (decided : answer ≡ deciding (with_head (take k name) (of_class class content)) name)
      (read : more ≡ length (read_until answer (with_head (take k name) (of_class class content)))) where
    head_pattern : HavePatterns (with_head (take k name) (of_class class content))
    head_pattern q m = patterns q (of_filter (λ (p : Profile). bytes_eq (head_of p) (take k name)) (of_class class content) q m).0

    decides : IsDeciding (with_head (take k name) (of_class class content)) name answer
    decides = rw decided (deciding_is (with_head (take k name) (of_class class content)) name head_pattern)

    pub asked_some : (d : Profile) → answer ≡ Some d → (answer ≡ deciding (of_class class content) name)
        × (rows + more ≡ length (examined answer name (of_class class content))) × (length (head_of d) ≡ k)
    asked_some d e =
        let here = rw e at decides in
        let head = deciding_head (of_class class content) name patterns k d here in
        let count = rw e at read in (
          e ∙ one_is_deciding content class name (Some d) sound (deciding_some (of_class class content) name patterns k d before.within before.longest here),
          rw (e, before.count, count) (longer_last name k d (of_class class content) before.within head),
          ap length head ∙ length-take-le k name before.within,
        )

    asked_more : answer ≡ None → rows + more ≡ as_long name k (of_class class content)
    asked_more e = let count = rw e at read in rw (before.count, count) (longer_more name k (of_class class content) before.within)

    pub asked_none : k ≡ 0 → answer ≡ None → (answer ≡ deciding (of_class class content) name)
        × (rows + more ≡ length (examined answer name (of_class class content)))
    asked_none z e =
        let here = rw e at decides in (
          e ∙ one_is_deciding content class name None sound (deciding_none (of_class class content) name patterns (rw z at before.longest) (rw z at here)),
          asked_more e ∙ rw (z, e) (as_long_all name (of_class class content)),
        )

    -- no more profiles are read than there are
    few : rows + more ≤ length (of_class class content)
    few = go answer refl
      where
        go : (x : Option Profile) → answer ≡ x → rows + more ≤ length (of_class class content)
        go (Some d) e = rw ((asked_some d e).1, length-filter {X = Profile})
            (count_by-le-length (λ (p : Profile). is_examined answer name p) (of_class class content))
        go None e = rw (asked_more e) (count_by-le-length
            (λ (p : Profile). starts_with nat_eq name (head_of p) && nat_le k (length (head_of p)))
            (of_class class content))

    pub asked_few : rows + more ≤ length content
    asked_few =
        let within : length (of_class class content) ≤ length content =
        rw length-filter (count_by-le-length (λ (p : Profile). same_class p.class class) content) in
        let read_few = few in
        omega (arith, read_few, within)

    -- at the first cover, or at the empty head
    pub asked_last : (is_some answer ≡ true) ⊎ ((is_some answer ≡ false) × (k ≡ 0))
        → (answer ≡ deciding (of_class class content) name)
        × (rows + more ≡ length (examined answer name (of_class class content)))
        × (length name + 1 - k + head_length answer ≡ length name + 1)
    asked_last last = go answer refl last
      where
        go : (x : Option Profile) → answer ≡ x → (is_some x ≡ true) ⊎ ((is_some x ≡ false) × (k ≡ 0))
            → (answer ≡ deciding (of_class class content) name)
            × (rows + more ≡ length (examined answer name (of_class class content)))
            × (length name + 1 - k + head_length answer ≡ length name + 1)
        go (Some d) e h = let found = asked_some d e in let within = before.within in let long =
            found.2 in (found.0, found.1, rw e (omega (arith, within, long)))
        go None e (inl h) = absurd (false≢true h)
        go None e (inr h) = let found = asked_none h.1 e in let zero_left = h.1 in (found.0, found.1, rw e (omega (arith, zero_left)))

    none_is : (x : Option Profile) → is_some x ≡ false → x ≡ None
    none_is None h = refl
    none_is (Some d) h = cc

    pub asked_next : (j : ℕ) → k ≡ j + 1 → is_some answer ≡ false → Asked (of_class class content) name j (rows + more)
    asked_next j s h = let e = none_is answer h in record {
      within = omega (arith, before.within, s);
      count = asked_more e ∙ rw s (as_long_more name j (of_class class content));
      longest = λ q n c. let l = none_longer_less (of_class class content) name patterns k before.longest (rw e at decides) q n c in omega (arith, l, s);
    }
