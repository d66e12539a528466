-- Of the groups of a user only those with an entry count.
use Rattle.std.proofs.Common.{
  ◌≡◌,
  ◌⊎◌,
  inl,
  inr,
  ⊎_elim,
  ℕ,
  Bool,
  true,
  false,
  cond,
  ◌||◌,
  ◌&&◌,
  List,
  [],
  ◌∷◌,
  Option,
  Some,
  None,
  Decides,
  filter,
  find,
  map,
  option_map,
  unwrap_or,
  refl,
  sym,
  ap,
  subst,
  ◌∙◌,
  rules,
}
use Rattle.std.specs.Option.{option_eq, option_or}
use Rattle.std.specs.Str.{bytes_eq}
use Rattle.std.proofs.lemmas.Bool.{or_left, or_right}
use Rattle.std.proofs.lemmas.Slice.Eq.{bytes_eq-Decides}
use Rattle.opc_names.specs.declared.level.Level.{Level}
use Rattle.opc_names.specs.declared.level.Level.TheVariants as level
use Rattle.opc_policy_members.specs.declared.entry.Entry.{Entry}
use Rattle.opc_policy_members.specs.declared.user.User.{User}
use Rattle.opc_policy_members.specs.Access.{entry_level, everyone_level, first_level, higher, higher_level, highest_level, is_for}
use Rattle.opc_policy_members.specs.Held.{ListedGroupsSuffice, conditional_level, held, listed_groups, plain_level, universal_level}
use Rattle.opc_policy_members.specs.Members.{is_group}
use Rattle.opc_policy_members.proofs.Highest.{higher_assoc}

-- the higher of two levels, in either order, and of a level and itself

level_comm : (a b : Level) → higher_level a b ≡ higher_level b a
level_comm level.None level.None = refl
level_comm level.None level.Read = refl
level_comm level.None level.Update = refl
level_comm level.None level.Control = refl
level_comm level.None level.Alter = refl
level_comm level.Read level.None = refl
level_comm level.Read level.Read = refl
level_comm level.Read level.Update = refl
level_comm level.Read level.Control = refl
level_comm level.Read level.Alter = refl
level_comm level.Update level.None = refl
level_comm level.Update level.Read = refl
level_comm level.Update level.Update = refl
level_comm level.Update level.Control = refl
level_comm level.Update level.Alter = refl
level_comm level.Control level.None = refl
level_comm level.Control level.Read = refl
level_comm level.Control level.Update = refl
level_comm level.Control level.Control = refl
level_comm level.Control level.Alter = refl
level_comm level.Alter level.None = refl
level_comm level.Alter level.Read = refl
level_comm level.Alter level.Update = refl
level_comm level.Alter level.Control = refl
level_comm level.Alter level.Alter = refl

level_itself : (a : Level) → higher_level a a ≡ a
level_itself level.None = refl
level_itself level.Read = refl
level_itself level.Update = refl
level_itself level.Control = refl
level_itself level.Alter = refl

higher_comm : (a b : Option Level) → higher a b ≡ higher b a
higher_comm None None = refl
higher_comm None (Some b) = refl
higher_comm (Some a) None = refl
higher_comm (Some a) (Some b) = ap Some (level_comm a b)

higher_itself : (a : Option Level) → higher a a ≡ a
higher_itself None = refl
higher_itself (Some a) = ap Some (level_itself a)

-- groups among groups

later : (group x : List ℕ) (groups : List (List ℕ)) → is_group groups group ≡ true → is_group (x ∷ groups) group ≡ true
later group x groups h = or_right (bytes_eq group x) (is_group groups group) h

here : (group : List ℕ) (groups : List (List ℕ)) → is_group (group ∷ groups) group ≡ true
here group groups = or_left (bytes_eq group group) (is_group groups group) ((bytes_eq-Decides group group).1 refl)

passed : (test : List ℕ → Bool) (ids : List (List ℕ)) (group : List ℕ) → is_group (filter test ids) group ≡ true → test group ≡ true
passed test [] group h = absurd (search (rules, h))
passed test (x ∷ ids) group h = go (test x) refl (passed test ids group) h
  where
    either : (b : Bool) → Decides b (group ≡ x) → test x ≡ true
        → (is_group (filter test ids) group ≡ true → test group ≡ true) → (b || is_group (filter test ids) group) ≡ true
        → test group ≡ true
    either true same kept rest is = subst (λ i. test i ≡ true) (sym (same.0 refl)) kept
    either false same kept rest is = rest is

    go : (k : Bool) → test x ≡ k → (is_group (filter test ids) group ≡ true → test group ≡ true)
        → is_group (cond k (x ∷ filter test ids) (filter test ids)) group ≡ true → test group ≡ true
    go true kept rest is = either (bytes_eq group x) (bytes_eq-Decides group x) kept rest is
    go false kept rest is = rest is

module _ (entries : List Entry) (when : Option (List ℕ)) where
  -- a group that is already among the groups does not raise their level
  absorbed : (group : List ℕ) (groups : List (List ℕ)) → is_group groups group ≡ true
      → higher (entry_level entries when group) (highest_level entries when groups) ≡ highest_level entries when groups
  absorbed group [] h = absurd (search (rules, h))
  absorbed group (x ∷ groups) h = go (bytes_eq group x) (bytes_eq-Decides group x) (absorbed group groups) h
    where
      level : List ℕ → Option Level
      level = entry_level entries when

      rest : Option Level
      rest = highest_level entries when groups

      go : (b : Bool) → Decides b (group ≡ x) → (is_group groups group ≡ true → higher (level group) rest ≡ rest)
          → (b || is_group groups group) ≡ true → higher (level group) (higher (level x) rest) ≡ higher (level x) rest
      go true same again is =
          ap (λ i. higher (level i) (higher (level x) rest)) (same.0 refl)
          ∙ sym (higher_assoc (level x) (level x) rest)
          ∙ ap (λ l. higher l rest) (higher_itself (level x))
      go false same again is =
          sym (higher_assoc (level group) (level x) rest)
          ∙ ap (λ l. higher l rest) (higher_comm (level group) (level x))
          ∙ higher_assoc (level x) (level group) rest
          ∙ ap (higher (level x)) (again is)

  abbrev AreAmong : List (List ℕ) → List (List ℕ) → Type 0
  AreAmong groups others = (group : List ℕ) → is_group groups group ≡ true → (entry_level entries when group ≡ None) ⊎ (is_group others group ≡ true)

  -- nor do groups that are among others, or have no entry
  covered : (groups others : List (List ℕ)) → AreAmong groups others
      → higher (highest_level entries when groups) (highest_level entries when others) ≡ highest_level entries when
      others
  covered [] others h = refl
  covered (x ∷ groups) others h =
      higher_assoc (entry_level entries when x) (highest_level entries when groups) (highest_level entries when others)
      ∙ ap (higher (entry_level entries when x)) (covered groups others (λ group is. h group (later group x groups is)))
      ∙ ⊎_elim (λ none. ap (λ l. higher l (highest_level entries when others)) none) (λ is. absorbed x others is) (h x (here x groups))

  highest_same : (groups others : List (List ℕ)) → AreAmong groups others → AreAmong others groups
      → highest_level entries when groups ≡ highest_level entries when others
  highest_same groups others forth back =
      sym (covered others groups back)
      ∙ higher_comm (highest_level entries when others) (highest_level entries when groups)
      ∙ covered groups others forth

-- a group with an entry is among those that are listed
listed : (groups : List (List ℕ)) (when : Option (List ℕ)) (group : List ℕ) → is_group groups group ≡ true
    → (entries : List Entry) → (entry_level entries when group ≡ None)
    ⊎ (is_group (listed_groups entries groups) group ≡ true)
listed groups when group member [] = inl refl
listed groups when group member (e ∷ entries) = go (bytes_eq e.id group) (bytes_eq-Decides e.id group) (listed groups when group member entries)
  where
    more : (k : Bool) → is_group (listed_groups entries groups) group ≡ true
        → is_group (cond k (e.id ∷ listed_groups entries groups) (listed_groups entries groups)) group ≡ true
    more true is = later group e.id (listed_groups entries groups) is
    more false is = is

    first : (k : Bool) → is_group groups e.id ≡ k → e.id ≡ group
        → is_group (cond k (e.id ∷ listed_groups entries groups) (listed_groups entries groups)) group ≡ true
    first true kept same = subst (λ i. is_group (i ∷ listed_groups entries groups) group ≡ true) (sym same) (here group (listed_groups entries groups))
    first false kept same = let contrary = subst (λ i. is_group groups i ≡ false) same kept in absurd (cc)

    go : (b : Bool) → Decides b (e.id ≡ group) → (entry_level entries when group ≡ None) ⊎ (is_group (listed_groups entries groups) group ≡ true)
        → (option_map (λ (f : Entry). f.level)
        (cond (b && option_eq bytes_eq e.when when) (Some e) (find (is_for when group) entries)) ≡ None)
        ⊎ (is_group (listed_groups (e ∷ entries) groups) group ≡ true)
    go true same rest = inr (first (is_group groups e.id) refl (same.0 refl))
    go false same (inl none) = inl none
    go false same (inr is) = inr (more (is_group groups e.id) is)

highest_listed : (entries : List Entry) (when : Option (List ℕ)) (groups : List (List ℕ))
    → highest_level entries when (listed_groups entries groups) ≡ highest_level entries when groups
highest_listed entries when groups =
    highest_same entries when (listed_groups entries groups) groups
    (λ group is. inr (passed (is_group groups) (map (λ (e : Entry). e.id) entries) group is))
    (λ group is. listed groups when group is entries)

first_listed : (entries : List Entry) (when : Option (List ℕ)) (user : User) (groups : List (List ℕ))
    → first_level entries when user (listed_groups entries groups) ≡ first_level entries when user groups
first_listed entries when user groups =
    ap (λ l. option_or (entry_level entries when user.id) (option_or l (everyone_level entries when user)))
    (highest_listed entries when groups)

pub listed_groups_suffice : ListedGroupsSuffice
unfolding held
listed_groups_suffice p user console groups =
    ap (λ l. higher_level (unwrap_or l (universal_level p user))
    (conditional_level p user console (listed_groups p.entries groups))) (first_listed p.entries None user groups)
    ∙ ap (higher_level (plain_level p user groups)) (go console)
  where
    go : (o : Option (List ℕ)) → conditional_level p user o (listed_groups p.entries groups) ≡ conditional_level p user o groups
    go None = refl
    go (Some console) = ap (λ l. unwrap_or l level.None) (first_listed p.entries (Some console) user groups)
