-- What users hold by access lists.
use Rattle.std.proofs.Common.{
  ◌≡◌,
  ◌⊎◌,
  inl,
  inr,
  ℕ,
  Bool,
  true,
  false,
  cond,
  nat_le,
  ◌||◌,
  List,
  [],
  ◌∷◌,
  Option,
  Some,
  None,
  codes,
  filter,
  find,
  option_map,
  unwrap_or,
  refl,
  sym,
  ap,
  subst,
  ◌∙◌,
  arith,
}
use Rattle.std.specs.List.{Contains, list_any}
use Rattle.std.specs.Option.{is_none, option_eq, option_or}
use Rattle.std.specs.Str.{bytes_eq}
use Rattle.std.proofs.lemmas.Bool.{and_parts, or_left, or_right}
use Rattle.std.proofs.lemmas.Bool.Decides.{nat_tests}
use Rattle.std.proofs.lemmas.List.Elements.{Contains-append_left, Contains-append_right, Contains-push}
use Rattle.std.proofs.lemmas.Slice.Eq.{bytes_eq-Decides}
use Rattle.opc_names.specs.declared.level.Level.{Level}
use Rattle.opc_names.specs.declared.level.Level.TheVariants as level
use Rattle.opc_names.specs.Authority.{includes, level_rank}
use Rattle.opc_policy_members.specs.declared.entry.Entry.{Entry}
use Rattle.opc_policy_members.specs.declared.profile.Profile.{Profile}
use Rattle.opc_policy_members.specs.declared.user.User.{User}
use Rattle.opc_policy_members.specs.Access.{entry_level, everyone_level, first_level, higher, higher_level, highest_level, is_for}
use Rattle.opc_policy_members.specs.Held.{conditional_level, held, plain_level, universal_level}
use Rattle.opc_machine_laws.specs.HoldingLaws.{
  ConsoleEntriesRaise,
  ConsolesNeverLower,
  EntriesCountAtTheirConsole,
  Gives,
  IsForUser,
  LevelsAreGiven,
  RestrictedUsersAreNamed,
  is_here,
  is_named,
}

-- the higher of two levels

left : {A : Type 0} (f : A → ℕ) (a b : A) → nat_le (f a) (f (cond (nat_le (f b) (f a)) a b)) ≡ true
left f a b = grind (arith, nat_tests)

right : {A : Type 0} (f : A → ℕ) (a b : A) → nat_le (f b) (f (cond (nat_le (f b) (f a)) a b)) ≡ true
right f a b = grind (arith, nat_tests)

one_of_two : (a b : Level) → (higher_level a b ≡ a) ⊎ (higher_level a b ≡ b)
one_of_two a b = go (includes a b)
  where
    go : (t : Bool) → (cond t a b ≡ a) ⊎ (cond t a b ≡ b)
    go true = inl refl
    go false = inr refl

above_none : (a : Level) → higher_level a level.None ≡ a
above_none level.None = refl
above_none level.Read = refl
above_none level.Update = refl
above_none level.Control = refl
above_none level.Alter = refl

none_alone : (needed : Level) → includes level.None needed ≡ true → needed ≡ level.None
none_alone level.None h = refl
none_alone level.Read h = absurd (cc)
none_alone level.Update h = absurd (cc)
none_alone level.Control h = absurd (cc)
none_alone level.Alter h = absurd (cc)

-- the entry that gives a level

abbrev IsGiven : List Entry → Option (List ℕ) → (Entry → Type 0) → Level → Type 0
IsGiven entries when P given = (e : Entry) × Contains entries e × (e.when ≡ when) × P e × (e.level ≡ given)

same_id : (a b : List ℕ) → bytes_eq a b ≡ true → a ≡ b
same_id a b h = (bytes_eq-Decides a b).0 h

same_when : (a b : Option (List ℕ)) → option_eq bytes_eq a b ≡ true → a ≡ b
same_when None None h = refl
same_when None (Some b) h = absurd (cc)
same_when (Some a) None h = absurd (cc)
same_when (Some a) (Some b) h = ap Some (same_id a b h)

found : (test : Entry → Bool) (entries : List Entry) (e : Entry) → find test entries ≡ Some e → Contains entries e × (test e ≡ true)
found test [] e h = absurd (cc)
found test (x ∷ xs) e h = go (λ g. found test xs e g) (test x) refl h
  where
    go : (find test xs ≡ Some e → Contains xs e × (test e ≡ true)) → (b : Bool) → test x ≡ b
        → cond b (Some x) (find test xs) ≡ Some e → Contains (x ∷ xs) e × (test e ≡ true)
    go later true t g = let same : x ≡ e =
        cc in (
          subst (Contains (x ∷ xs)) same (Contains-append_left (x ∷ []) xs x (Contains-push [] x)),
          subst (λ y. test y ≡ true) same t,
        )
    go later false t g = let more = later g in (Contains-append_right (x ∷ []) xs e more.0, more.1)

by_entry : (entries : List Entry) (when : Option (List ℕ)) (id : List ℕ) (given : Level)
    → entry_level entries when id ≡ Some given → IsGiven entries when (λ e. e.id ≡ id) given
by_entry entries when id given h = go (find (is_for when id) entries) refl h
  where
    go : (o : Option Entry) → find (is_for when id) entries ≡ o → option_map (λ (e : Entry). e.level) o ≡ Some given
        → IsGiven entries when (λ e. e.id ≡ id) given
    go None at g = absurd (cc)
    go (Some e) at g =
        let at_it = found (is_for when id) entries e at in
        let both = and_parts (bytes_eq e.id id) (option_eq bytes_eq e.when when) at_it.1 in
        let gives : e.level ≡ given = cc in
        (e, at_it.0, same_when e.when when both.1, same_id e.id id both.0, gives)

by_groups : (entries : List Entry) (when : Option (List ℕ)) (groups : List (List ℕ)) (given : Level)
    → highest_level entries when groups ≡ Some given → IsGiven entries when (λ e. Contains groups e.id) given
by_groups entries when [] given h = absurd (cc)
by_groups entries when (group ∷ groups) given h =
    go (λ l at. by_groups entries when groups l at) (entry_level entries when group) refl
    (highest_level entries when groups) refl h
  where
    first : (l : Level) → entry_level entries when group ≡ Some l → l ≡ given → IsGiven entries when (λ e. Contains (group ∷ groups) e.id) given
    first l at is =
        let g = by_entry entries when group l at in
        (g.0, g.1, g.2, subst (Contains (group ∷ groups)) (sym g.3) (Contains-append_left (group ∷ []) groups group (Contains-push [] group)), g.4 ∙ is)

    later : ((l : Level) → highest_level entries when groups ≡ Some l
        → IsGiven entries when (λ e. Contains groups e.id) l) → (l : Level) → highest_level entries when groups ≡ Some l
        → l ≡ given → IsGiven entries when (λ e. Contains (group ∷ groups) e.id) given
    later among l at is = let g = among l at in (g.0, g.1, g.2, Contains-append_right (group ∷ []) groups g.0.id g.3, g.4 ∙ is)

    go : ((l : Level) → highest_level entries when groups ≡ Some l → IsGiven entries when (λ e. Contains groups e.id) l)
        → (one : Option Level) → entry_level entries when group ≡ one → (more : Option Level)
        → highest_level entries when groups ≡ more → higher one more ≡ Some given
        → IsGiven entries when (λ e. Contains (group ∷ groups) e.id) given
    go among None at more after g = later among given (after ∙ g) refl
    go among (Some a) at None after g = let is : a ≡ given = cc in first a at is
    go among (Some a) at (Some b) after g = pick (one_of_two a b)
      where
        is : higher_level a b ≡ given
        is = cc

        pick : (higher_level a b ≡ a) ⊎ (higher_level a b ≡ b) → IsGiven entries when (λ e. Contains (group ∷ groups) e.id) given
        pick (inl h0) = first a at (sym h0 ∙ is)
        pick (inr h0) = later among b after (sym h0 ∙ is)

by_first : (entries : List Entry) (when : Option (List ℕ)) (u : User) (groups : List (List ℕ)) (given : Level)
    → first_level entries when u groups ≡ Some given → IsGiven entries when (IsForUser u groups) given
by_first entries when u groups given h = own (entry_level entries when u.id) refl h
  where
    everyone : (b : Bool) → u.restricted ≡ b → cond b None (entry_level entries when (codes "*")) ≡ Some given → IsGiven entries when (IsForUser u groups) given
    everyone true is g = absurd (cc)
    everyone false is g = let e = by_entry entries when (codes "*") given g in (e.0, e.1, e.2, inr (inr (e.3, is)), e.4)

    grouped : (o : Option Level) → highest_level entries when groups ≡ o
        → option_or o (everyone_level entries when u) ≡ Some given → IsGiven entries when (IsForUser u groups) given
    grouped None at g = everyone u.restricted refl g
    grouped (Some l) at g = let e = by_groups entries when groups given (at ∙ g) in (e.0, e.1, e.2, inr (inl e.3), e.4)

    own : (o : Option Level) → entry_level entries when u.id ≡ o
        → option_or o (option_or (highest_level entries when groups) (everyone_level entries when u)) ≡ Some given
        → IsGiven entries when (IsForUser u groups) given
    own None at g = grouped (highest_level entries when groups) refl g
    own (Some l) at g = let e = by_entry entries when u.id given (at ∙ g) in (e.0, e.1, e.2, inl e.3, e.4)

module _ (p : Profile) (u : User) (console : Option (List ℕ)) (groups : List (List ℕ)) (needed : Level) where
  abbrev Given : Type 0
  Given = (needed ≡ level.None) ⊎ (((e : Entry) × Gives p u console groups needed e) ⊎ ((u.restricted ≡ false) × (includes p.uacc needed ≡ true)))

  by_list : (when : Option (List ℕ)) → (when ≡ None) ⊎ (when ≡ console) → (l : Level)
      → first_level p.entries when u groups ≡ Some l → includes l needed ≡ true → Given
  by_list when here l at h =
      let g = by_first p.entries when u groups l at in
      inr (inl (g.0, record { listed = g.1; here = place here g.2; for_user = g.3; enough = subst (λ x. includes x needed ≡ true) (sym g.4) h }))
    where
      place : {x : Option (List ℕ)} → (when ≡ None) ⊎ (when ≡ console) → x ≡ when → (x ≡ None) ⊎ (x ≡ console)
      place (inl none) is = inl (is ∙ none)
      place (inr one) is = inr (is ∙ one)

  by_plain : includes (plain_level p u groups) needed ≡ true → Given
  by_plain h = go (first_level p.entries None u groups) refl h
    where
      universal : (b : Bool) → u.restricted ≡ b → includes (cond b level.None p.uacc) needed ≡ true → Given
      universal true is g = inl (none_alone needed g)
      universal false is g = inr (inr (is, g))

      go : (o : Option Level) → first_level p.entries None u groups ≡ o → includes (unwrap_or o (universal_level p u)) needed ≡ true → Given
      go None at g = universal u.restricted refl g
      go (Some l) at g = by_list None (inl refl) l at g

  by_condition : includes (conditional_level p u console groups) needed ≡ true → Given
  by_condition h = go console refl h
    where
      listed : (w : List ℕ) → console ≡ Some w → (o : Option Level) → first_level p.entries (Some w) u groups ≡ o
          → includes (unwrap_or o level.None) needed ≡ true → Given
      listed w is None at g = inl (none_alone needed g)
      listed w is (Some l) at g = by_list (Some w) (inr (sym is)) l at g

      go : (o : Option (List ℕ)) → console ≡ o → includes (conditional_level p u o groups) needed ≡ true → Given
      go None is g = inl (none_alone needed g)
      go (Some w) is g = listed w is (first_level p.entries (Some w) u groups) refl g

  pub given : includes (held p u console groups) needed ≡ true → Given
  unfolding held
  given h = go (one_of_two (plain_level p u groups) (conditional_level p u console groups))
    where
      go : (higher_level (plain_level p u groups) (conditional_level p u console groups) ≡ plain_level p u groups)
          ⊎ (higher_level (plain_level p u groups) (conditional_level p u console groups) ≡ conditional_level p u
          console groups) → Given
      go (inl is) = by_plain (subst (λ x. includes x needed ≡ true) is h)
      go (inr is) = by_condition (subst (λ x. includes x needed ≡ true) is h)

pub levels_given : LevelsAreGiven
levels_given p u console groups needed h = given p u console groups needed h

pub never_lower : ConsolesNeverLower
unfolding held
never_lower p u console groups =
    let plain = plain_level p u groups in
    subst (λ x. includes (higher_level plain (conditional_level p u (Some console) groups)) x ≡ true)
    (sym (above_none plain)) (left level_rank plain (conditional_level p u (Some console) groups))

pub console_raises : ConsoleEntriesRaise
unfolding held
console_raises p u console groups given h =
    subst (λ o. includes (higher_level (plain_level p u groups) (unwrap_or o level.None)) given ≡ true) (sym h)
    (right level_rank (plain_level p u groups) given)

-- entries that do not count

find_kept : (test keep : Entry → Bool) → ((e : Entry) → test e ≡ true → keep e ≡ true) → (entries : List Entry)
    → find test (filter keep entries) ≡ find test entries
find_kept test keep h [] = refl
find_kept test keep h (x ∷ xs) = go (find_kept test keep h xs) (keep x) refl (test x) refl
  where
    go : find test (filter keep xs) ≡ find test xs → (k : Bool) → keep x ≡ k → (t : Bool) → test x ≡ t
        → find test (cond k (x ∷ filter keep xs) (filter keep xs)) ≡ cond t (Some x) (find test xs)
    go later true kept true is = ap (λ b. cond b (Some x) (find test (filter keep xs))) is
    go later true kept false is = ap (λ b. cond b (Some x) (find test (filter keep xs))) is ∙ later
    go later false kept true is = let contrary = h x is in absurd (cc)
    go later false kept false is = later

entry_kept : (keep : Entry → Bool) (entries : List Entry) (when : Option (List ℕ)) (id : List ℕ)
    → ((e : Entry) → is_for when id e ≡ true → keep e ≡ true)
    → entry_level (filter keep entries) when id ≡ entry_level entries when id
entry_kept keep entries when id h = ap (option_map (λ (e : Entry). e.level)) (find_kept (is_for when id) keep h entries)

itself : (id : List ℕ) → bytes_eq id id ≡ true
itself id = (bytes_eq-Decides id id).1 refl

highest_kept : (keep : Entry → Bool) (entries : List Entry) (when : Option (List ℕ)) (groups : List (List ℕ))
    → ((group : List ℕ) → list_any (bytes_eq group) groups ≡ true → (e : Entry) → is_for when group e ≡ true → keep e ≡ true)
    → highest_level (filter keep entries) when groups ≡ highest_level entries when groups
highest_kept keep entries when [] h = refl
highest_kept keep entries when (group ∷ groups) h =
    let one = entry_kept keep entries when group (h group (or_left (bytes_eq group group) (list_any (bytes_eq group) groups) (itself group))) in
    let more = highest_kept keep entries when groups (λ g is. h g (or_right (bytes_eq g group) (list_any (bytes_eq g) groups) is)) in
    ap (λ o. higher o (highest_level (filter keep entries) when groups)) one ∙ ap (higher (entry_level entries when group)) more

first_kept : (keep : Entry → Bool) (entries : List Entry) (when : Option (List ℕ)) (u : User) (groups : List (List ℕ))
    → ((e : Entry) → is_for when u.id e ≡ true → keep e ≡ true)
    → ((group : List ℕ) → list_any (bytes_eq group) groups ≡ true → (e : Entry) → is_for when group e ≡ true → keep e ≡ true)
    → everyone_level (filter keep entries) when u ≡ everyone_level entries when u
    → first_level (filter keep entries) when u groups ≡ first_level entries when u groups
first_kept keep entries when u groups own grouped everyone =
    ap (λ o. option_or o (option_or (highest_level (filter keep entries) when groups)
    (everyone_level (filter keep entries) when u))) (entry_kept keep entries when u.id own)
    ∙ ap (λ o. option_or (entry_level entries when u.id) (option_or o (everyone_level (filter keep entries) when u)))
    (highest_kept keep entries when groups grouped)
    ∙ ap (λ o. option_or (entry_level entries when u.id) (option_or (highest_level entries when groups) o)) everyone

-- without the entries for other consoles
module _ (p : Profile) (u : User) (console : Option (List ℕ)) (groups : List (List ℕ)) where
  counts : (when : Option (List ℕ)) → (is_none when || option_eq bytes_eq when console) ≡ true
      → (id : List ℕ) (e : Entry) → is_for when id e ≡ true → is_here console e ≡ true
  counts when here id e h = subst (λ w. (is_none w || option_eq bytes_eq w console) ≡ true)
      (sym (same_when e.when when (and_parts (bytes_eq e.id id) (option_eq bytes_eq e.when when) h).1)) here

  first_here : (when : Option (List ℕ)) → (is_none when || option_eq bytes_eq when console) ≡ true
      → first_level (filter (is_here console) p.entries) when u groups ≡ first_level p.entries when u groups
  first_here when here =
      first_kept (is_here console) p.entries when u groups (counts when here u.id) (λ group is. counts when here group)
      (ap (λ o. cond u.restricted None o) (entry_kept (is_here console) p.entries when (codes "*") (counts when here (codes "*"))))

same_levels : (p q : Profile) (u : User) (console : Option (List ℕ)) (groups : List (List ℕ)) → universal_level q u ≡ universal_level p u
    → first_level q.entries None u groups ≡ first_level p.entries None u groups
    → ((w : List ℕ) → console ≡ Some w → first_level q.entries (Some w) u groups ≡ first_level p.entries (Some w) u groups)
    → held q u console groups ≡ held p u console groups
unfolding held
same_levels p q u console groups universal plain condition =
    ap (λ o. higher_level (unwrap_or o (universal_level q u)) (conditional_level q u console groups)) plain
    ∙ ap (λ l. higher_level (unwrap_or (first_level p.entries None u groups) l) (conditional_level q u console groups)) universal
    ∙ ap (higher_level (plain_level p u groups)) (go console refl)
  where
    go : (o : Option (List ℕ)) → console ≡ o → conditional_level q u o groups ≡ conditional_level p u o groups
    go None is = refl
    go (Some w) is = ap (λ o. unwrap_or o level.None) (condition w is)

pub count_at_their_console : EntriesCountAtTheirConsole
count_at_their_console p u console groups =
    same_levels p (record p { entries = filter (is_here console) p.entries }) u console groups refl (first_here p u console groups None refl)
    (λ w is. first_here p u console groups (Some w) (subst (λ o. option_eq bytes_eq (Some w) o ≡ true) (sym is) (itself w)))

-- without what is given to everyone
module _ (p : Profile) (u : User) (groups : List (List ℕ)) where
  named_so : (when : Option (List ℕ)) (id : List ℕ) → (bytes_eq id u.id || list_any (bytes_eq id) groups) ≡ true
      → (e : Entry) → is_for when id e ≡ true → is_named u groups e ≡ true
  named_so when id named e h = subst (λ x. (bytes_eq x u.id || list_any (bytes_eq x) groups) ≡ true)
      (sym (same_id e.id id (and_parts (bytes_eq e.id id) (option_eq bytes_eq e.when when) h).0)) named

  first_named : u.restricted ≡ true → (when : Option (List ℕ))
      → first_level (filter (is_named u groups) p.entries) when u groups ≡ first_level p.entries when u groups
  first_named restricted when =
      first_kept (is_named u groups) p.entries when u groups
      (named_so when u.id (or_left (bytes_eq u.id u.id) (list_any (bytes_eq u.id) groups) (itself u.id)))
      (λ group is. named_so when group (or_right (bytes_eq group u.id) (list_any (bytes_eq group) groups) is))
      (nobody (entry_level (filter (is_named u groups) p.entries) when (codes "*")) ∙ sym (nobody (entry_level p.entries when (codes "*"))))
    where
      nobody : (o : Option Level) → cond u.restricted None o ≡ None
      nobody o = ap (λ b. cond b None o) restricted

pub restricted_named : RestrictedUsersAreNamed
restricted_named p u console groups restricted =
    same_levels p (record p { uacc = level.None; entries = filter (is_named u groups) p.entries }) u console groups
    (ap (λ b. cond b level.None level.None) restricted ∙ sym (ap (λ b. cond b level.None p.uacc) restricted))
    (first_named p u groups restricted None) (λ w is. first_named p u groups restricted (Some w))
