-- Which pattern decides depends on the classes and the patterns of the profiles alone.
use Rattle.std.proofs.Common.{◌≡◌, ℕ, Bool, true, false, cond, ◌&&◌, List, [], ◌∷◌, Option, Some, None, map, Less, Equal, Greater, refl, sym, ap, ◌∙◌, rules}
use Rattle.std.specs.BTreeSet.{replace_key}
use Rattle.std.specs.Cmp.Lexicographic.{slice_cmp}
use Rattle.std.specs.List.{find}
use Rattle.std.specs.Option.{option_map}
use Rattle.std.specs.Ordering.{is_lt, match_ordering, nat_cmp, ordering_reverse, ordering_then}
use Rattle.std.specs.declared.cmp.Ordering.{Ordering}
use Rattle.opc_names.specs.Authority.{same_class}
use Rattle.opc_names.specs.Order.{sort_key}
use Rattle.opc_names.specs.Patterns.{covers_text}
use Rattle.opc_names.specs.declared.class.Class.{Class}
use Rattle.opc_policy_members.specs.declared.profile.Profile.{Profile}
use Rattle.opc_policy.specs.Deciding.{covering, deciding, first_of, first_with}
use Rattle.opc_policy_members.specs.Profiles.{class_cmp, is_before, of_class, pattern_cmp, profile_cmp}
use Rattle.opc_rows.specs.Ordered.{Ascends}
use Rattle.opc_rows.proofs.Orders.{all_found}
use Rattle.opc_state_cache.specs.Cache.{Name, pattern_of}
use Rattle.opc_state_cache.proofs.Keyed.{profile_total}

abbrev pub name_of : Profile → Name
name_of p = (p.class, p.pattern)

-- ---- the search, over names alone

abbrev first_name : Name → Option Name → Name
first_name n None = n
first_name n (Some m) = cond (is_lt (slice_cmp nat_cmp (sort_key m.1) (sort_key n.1))) m n

abbrev decided : Class → List ℕ → List Name → Option Name
decided class resource [] = None
decided class resource (n ∷ ns) = cond (same_class n.0 class && covers_text n.1 resource)
    (Some (first_name n (decided class resource ns))) (decided class resource ns)

first_named : (p : Profile) (o : Option Profile) → name_of (first_with p o) ≡ first_name (name_of p) (option_map name_of o)
first_named p None = refl
first_named p (Some q) = go (is_before q p)
  where
    go : (b : Bool) → name_of (cond b q p) ≡ cond b (name_of q) (name_of p)
    go true = refl
    go false = refl

decided_is : (class : Class) (resource : List ℕ) (ps : List Profile)
    → option_map name_of (deciding (of_class class ps) resource) ≡ decided class resource (map name_of ps)
decided_is class resource [] = refl
decided_is class resource (p ∷ ps) = go (same_class p.class class) (decided_is class resource ps)
  where
    covered : (c : Bool) → option_map name_of (deciding (of_class class ps) resource) ≡ decided class resource (map name_of ps)
        → option_map name_of (first_of (cond c (p ∷ covering resource (of_class class ps)) (covering resource (of_class class ps))))
        ≡ cond c (Some (first_name (name_of p) (decided class resource (map name_of ps)))) (decided class resource (map name_of ps))
    covered true later = ap Some (first_named p (deciding (of_class class ps) resource) ∙ ap (first_name (name_of p)) later)
    covered false later = later

    go : (b : Bool) → option_map name_of (deciding (of_class class ps) resource) ≡ decided class resource (map name_of ps)
        → option_map name_of (first_of (covering resource (cond b (p ∷ of_class class ps) (of_class class ps))))
        ≡ cond (b && covers_text p.pattern resource)
        (Some (first_name (name_of p) (decided class resource (map name_of ps))))
        (decided class resource (map name_of ps))
    go true later = covered (covers_text p.pattern resource) later
    go false later = later

pattern_named : (o : Option Profile) → option_map pattern_of o ≡ option_map (λ (n : Name). n.1) (option_map name_of o)
pattern_named None = refl
pattern_named (Some p) = refl

pub same_pattern : (ps qs : List Profile) (class : Class) (resource : List ℕ) → map name_of ps ≡ map name_of qs
    → option_map pattern_of (deciding (of_class class ps) resource) ≡ option_map pattern_of (deciding (of_class class qs) resource)
same_pattern ps qs class resource same =
    pattern_named (deciding (of_class class ps) resource)
    ∙ ap (option_map (λ (n : Name). n.1)) (decided_is class resource ps ∙ ap (decided class resource) same ∙ sym (decided_is class resource qs))
    ∙ sym (pattern_named (deciding (of_class class qs) resource))

-- ---- a profile that is put where one of its name is

is_less : (o : Ordering) → is_lt o ≡ true → o ≡ Less
is_less Less h = refl
is_less Equal h = absurd (search (rules, h))
is_less Greater h = absurd (search (rules, h))

itself : (o : Ordering) → o ≡ ordering_reverse o → o ≡ Equal
itself Less e = absurd (search (rules, e))
itself Equal e = refl
itself Greater e = absurd (search (rules, e))

some_is : (x y : Profile) → Some x ≡ Some y → x ≡ y
some_is x y h = search (rules, h)

-- the order depends on names
by_name : (q r x : Profile) → name_of q ≡ name_of r → profile_cmp q x ≡ profile_cmp r x
by_name q r x same = ap (λ (n : Name). ordering_then (class_cmp n.0 x.class) (pattern_cmp n.1 x.pattern)) same

pub put_named : (new old : Profile) (test : Profile → Bool) (ps : List Profile) → name_of new ≡ name_of old
    → Ascends (λ (q r : Profile). is_lt (profile_cmp q r)) ps → find test ps ≡ Some old
    → map name_of (replace_key profile_cmp ps new) ≡ map name_of ps
put_named new old test [] same order found = absurd (search (rules, found))
put_named new old test (x ∷ xs) same order found = go (test x) found (put_named new old test xs same order.1)
  where
    go : (b : Bool) → cond b (Some x) (find test xs) ≡ Some old → (find test xs ≡ Some old → map name_of (replace_key profile_cmp xs new) ≡ map name_of xs)
        → map name_of (replace_key profile_cmp (x ∷ xs) new) ≡ map name_of (x ∷ xs)
    go true f later =
        let here : x ≡ old = some_is x old f in
        let compares_equal : profile_cmp new x ≡ Equal =
        by_name new old x same ∙ ap (λ y. profile_cmp old y) here
        ∙ itself (profile_cmp old old) (profile_total.antisymm old old) in
        ap (λ o. map name_of (match_ordering o (new ∷ x ∷ xs) (new ∷ xs) (x ∷ replace_key profile_cmp xs new))) compares_equal
        ∙ ap (λ n. n ∷ map name_of xs) (same ∙ ap name_of (sym here))
    go false f later =
        let before : is_lt (profile_cmp x old) ≡ true = all_found (λ y. is_lt (profile_cmp x y) ≡ true) test old xs f order.0 in
        let after : profile_cmp new x ≡ Greater =
        by_name new old x same ∙ profile_total.antisymm old x
        ∙ ap ordering_reverse (is_less (profile_cmp x old) before) in
        ap (λ o. map name_of (match_ordering o (new ∷ x ∷ xs) (new ∷ xs) (x ∷ replace_key profile_cmp xs new))) after
        ∙ ap (λ ns. name_of x ∷ ns) (later f)
