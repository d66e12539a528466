-- The rows that a policy is written as make that policy.
use Rattle.std.proofs.Common.{
  ◌≡◌,
  ◌++◌,
  ◌&&◌,
  ◌||◌,
  ℕ,
  Bool,
  true,
  false,
  cond,
  List,
  [],
  ◌∷◌,
  Option,
  Some,
  None,
  Ok,
  Equal,
  find,
  is_some,
  map,
  refl,
  sym,
  ap,
  ap₂,
  subst,
  ◌∙◌,
  append_assoc,
}
use Rattle.std.specs.Cmp.{IsTotalOrder, tied_itself}
use Rattle.std.specs.Cmp.Lexicographic.{options_total}
use Rattle.std.specs.List.{AllByRecursion, flat_map}
use Rattle.std.specs.Option.{option_map_or}
use Rattle.std.specs.Ordering.{is_lt, nat_cmp, ordering_then}
use Rattle.std.specs.Str.{bytes_eq}
use Rattle.std.proofs.lemmas.Cmp.{on_total, then_total, nat_cmp_total, nat_list_cmp_total}
use Rattle.std.proofs.lemmas.Slice.Eq.{bytes_eq-Decides}
use Rattle.opc_names.specs.Authority.{same_class}
use Rattle.opc_names.specs.Order.{sort_key}
use Rattle.opc_names.specs.declared.class.Class.{Class}
use Rattle.opc_names.specs.declared.class.Class.TheVariants.{Console, Opercmds}
use Rattle.opc_policy_members.specs.declared.connect.Connect.{Connect}
use Rattle.opc_policy_members.specs.declared.entry.Entry.{Entry}
use Rattle.opc_policy_members.specs.declared.policy.Policy.{Policy}
use Rattle.opc_policy_members.specs.declared.profile.Profile.{Profile}
use Rattle.opc_policy_members.specs.declared.user.User.{User}
use Rattle.opc_policy_members.specs.Access.{entry_cmp, with_entry}
use Rattle.opc_policy_members.specs.Members.{connect_cmp, is_group, name_cmp, user_cmp, user_of, with_connect, with_user}
use Rattle.opc_policy_members.specs.Profiles.{class_cmp, is_of, profile_cmp, profile_of, with_definition, with_profile}
use Rattle.opc_policy_members.proofs.Classes.{same_class_is}
use Rattle.opc_policy_members.specs.Taken.{after_row, has_group, has_holder, has_user, needing, unless, policy_after}
use Rattle.opc_rows.specs.Ordered.{Ascends}
use Rattle.opc_board.specs.declared.rows.ConsoleRow.{ConsoleRow}
use Rattle.opc_state.specs.Invariants.{IsConnectOfStored, IsEntryOfStored, IsPolicy, IsProfileOfStored}
use Rattle.opc_state.specs.Loads.{bare}
use Rattle.opc_state.specs.PolicyFile.{
  permits_of,
  row_of_connect,
  row_of_console,
  row_of_entry,
  row_of_group,
  row_of_profile,
  row_of_user,
  rows_of,
  rows_of_classes,
}
use Rattle.opc_state.specs.State.{empty}
use Rattle.opc_machine_invariants.specs.KeptInvariants.{IsInKeyOrder}
use Rattle.opc_machine_invariants.proofs.Appending.{all_before, all_of, find_past, insert_last, replace_last, replace_middle}
use Rattle.opc_machine_invariants.proofs.Taken.{all_taken, then_rows}

user_total : IsTotalOrder user_cmp
user_total = on_total (λ (u : User). u.id) nat_list_cmp_total

connect_total : IsTotalOrder connect_cmp
connect_total = then_total (on_total (λ (c : Connect). c.user) nat_list_cmp_total) (on_total (λ (c : Connect). c.group) nat_list_cmp_total)

abbrev class_rank : Class → ℕ
class_rank Console = 0
class_rank Opercmds = 1

by_rank : (c d : Class) → nat_cmp (class_rank c) (class_rank d) ≡ class_cmp c d
by_rank Console Console = refl
by_rank Console Opercmds = refl
by_rank Opercmds Console = refl
by_rank Opercmds Opercmds = refl

class_total : IsTotalOrder class_cmp
class_total = subst IsTotalOrder (λ i c d. by_rank c d i) (on_total class_rank nat_cmp_total)

profile_total : IsTotalOrder profile_cmp
profile_total = then_total (on_total (λ (p : Profile). p.class) class_total) (on_total (λ (p : Profile). sort_key p.pattern) nat_list_cmp_total)

entry_total : IsTotalOrder entry_cmp
entry_total = then_total (on_total (λ (e : Entry). e.id) nat_list_cmp_total) (on_total (λ (e : Entry). e.when) (options_total nat_list_cmp_total))

itself : (a : List ℕ) → bytes_eq a a ≡ true
itself a = (bytes_eq-Decides a a).1 refl

-- whoever is in a list is found there
found_in : (prefix : List User) (u : User) (back : List User) → is_some (user_of (prefix ++ u ∷ back) u.id) ≡ true
found_in [] u back = ap (λ b. is_some (cond b (Some u) (user_of back u.id))) (itself u.id)
found_in (v ∷ prefix) u back = go (bytes_eq u.id v.id) (found_in prefix u back)
  where
    go : (b : Bool) → is_some (user_of (prefix ++ u ∷ back) u.id) ≡ true → is_some (cond b (Some v) (user_of (prefix ++ u ∷ back) u.id)) ≡ true
    go true more = refl
    go false more = more

all_found : (prefix back : List User) → AllByRecursion (λ (u : User). is_some (user_of (prefix ++ back) u.id) ≡ true) back
all_found prefix [] = tt
all_found prefix (u ∷ back) = (
  found_in prefix u back,
  subst (λ (us : List User). AllByRecursion (λ (v : User). is_some (user_of us v.id) ≡ true) back)
      (append_assoc prefix (u ∷ []) back) (all_found (prefix ++ u ∷ []) back),
)

compares_equal : (x q : Profile) → same_class x.class q.class ≡ true → bytes_eq x.pattern q.pattern ≡ true → profile_cmp x q ≡ Equal
compares_equal x q one other =
    ap₂ (λ c t. ordering_then (class_cmp c q.class) (name_cmp (sort_key t) (sort_key q.pattern)))
    (same_class_is x.class q.class one) ((bytes_eq-Decides x.pattern q.pattern).0 other)
    ∙ tied_itself profile_total q

-- a profile that comes before another is not the one of its class and pattern
not_of : (x q : Profile) → is_lt (profile_cmp x q) ≡ true → is_of q.class q.pattern x ≡ false
not_of x q less = go (same_class x.class q.class) (bytes_eq x.pattern q.pattern) refl refl
  where
    go : (a b : Bool) → same_class x.class q.class ≡ a → bytes_eq x.pattern q.pattern ≡ b → (a && b) ≡ false
    go false b one other = refl
    go true false one other = refl
    go true true one other = sym less ∙ ap is_lt (compares_equal x q one other)

is_its_own : (q : Profile) → is_of q.class q.pattern q ≡ true
is_its_own q = ap₂ (λ a b. a && b) (own q.class) (itself q.pattern)
  where
    own : (c : Class) → same_class c c ≡ true
    own Console = refl
    own Opercmds = refl

pub all_map : {X Y : Type 0} (f : X → Y) (P : Y → Type 0) (xs : List X) → AllByRecursion (λ x. P (f x)) xs → AllByRecursion P (map f xs)
all_map f P [] all = tt
all_map f P (x ∷ xs) all = (all.0, all_map f P xs all.1)

pub map_last : {X Y : Type 0} (f : X → Y) (xs : List X) (x : X) → map f (xs ++ x ∷ []) ≡ map f xs ++ f x ∷ []
map_last f [] x = refl
map_last f (y ∷ xs) x = ap (λ zs. f y ∷ zs) (map_last f xs x)

pub none_found : {X : Type 0} (p : X → Bool) (xs : List X) → AllByRecursion (λ x. p x ≡ false) xs → find p xs ≡ None
none_found p [] none = refl
none_found p (x ∷ xs) none = ap (λ b. cond b (Some x) (find p xs)) none.0 ∙ none_found p xs none.1

-- a name of a user is not a group's, if no group's name is a user's
no_group : (p : Policy) (id : List ℕ) → has_user p id ≡ true → (groups : List (List ℕ))
    → AllByRecursion (λ (g : List ℕ). has_user p g ≡ false) groups → is_group groups id ≡ false
no_group p id there [] apart = refl
no_group p id there (g ∷ groups) apart = go (bytes_eq id g) refl (no_group p id there groups apart.1)
  where
    go : (b : Bool) → bytes_eq id g ≡ b → is_group groups id ≡ false → (b || is_group groups id) ≡ false
    go true same more = sym there ∙ ap (has_user p) ((bytes_eq-Decides id g).0 same) ∙ apart.0
    go false same more = more

module _ (p : Policy) (invariants : IsPolicy p) (order : IsInKeyOrder p) where
  -- the policy, as far as it has been made
  abbrev of_groups : List (List ℕ) → Policy
  of_groups groups = record { users = []; groups = groups; connects = []; profiles = []; active = p.active }

  abbrev of_users : List User → Policy
  of_users users = record { users = users; groups = p.groups; connects = []; profiles = []; active = p.active }

  abbrev of_connects : List Connect → Policy
  of_connects connects = record { users = p.users; groups = p.groups; connects = connects; profiles = []; active = p.active }

  abbrev of_profiles : List Profile → Policy
  of_profiles profiles = record p { profiles = profiles }

  groups : policy_after (map row_of_group p.groups) (of_groups []) ≡ Ok (of_groups p.groups)
  groups =
      all_taken row_of_group of_groups (λ a b. is_lt (name_cmp a b)) (λ _. Unit {0})
      (λ done g all _. ap (λ gs. Ok (of_groups gs)) (insert_last name_cmp nat_list_cmp_total done g all)) p.groups order.groups (free p.groups)
    where
      free : (xs : List (List ℕ)) → AllByRecursion (λ _. Unit {0}) xs
      free [] = tt
      free (x ∷ xs) = (tt, free xs)

  users : policy_after (map row_of_user p.users) (of_users []) ≡ Ok (of_users p.users)
  users =
      all_taken row_of_user of_users (λ (u v : User). is_lt (user_cmp u v)) (λ (u : User). has_group p u.id ≡ false)
      (λ done u all free.
      ap (λ b. unless b u.id (Ok (of_users (with_user u done)))) free
      ∙ ap (λ us. Ok (of_users us)) (replace_last user_cmp user_total done u all))
      p.users order.users
      (all_of (λ (u : User). has_user p u.id ≡ true) (λ (u : User). has_group p u.id ≡ false)
      (λ u there. no_group p u.id there p.groups invariants.apart) p.users (all_found [] p.users))

  connects : policy_after (map row_of_connect p.connects) (of_connects []) ≡ Ok (of_connects p.connects)
  connects =
      all_taken row_of_connect of_connects (λ (c d : Connect). is_lt (connect_cmp c d)) (IsConnectOfStored p)
      (λ done c all stored.
      ap₂ (λ a b. needing a c.user (needing b c.group (Ok (of_connects (with_connect c done))))) stored.0 stored.1
      ∙ ap (λ cs. Ok (of_connects cs)) (insert_last connect_cmp connect_total done c all))
      p.connects order.connects invariants.connects

  profile_taken : (done : List Profile) (q : Profile) → AllByRecursion (λ (r : Profile). is_lt (profile_cmp r q) ≡ true) done → IsProfileOfStored p q
      → after_row (row_of_profile q) (of_profiles (map bare done)) ≡ Ok (of_profiles (map bare (done ++ q ∷ [])))
  profile_taken done q all stored =
      ap (λ b. needing b q.owner (Ok (of_profiles (with_definition (bare q) (map bare done))))) stored.0
      ∙ ap (λ (o : Option Profile). Ok (of_profiles
      (with_profile (record q { entries = option_map_or (λ (r : Profile). r.entries) o [] }) (map bare done))))
      unknown
      ∙ ap (λ qs. Ok (of_profiles qs)) (replace_last profile_cmp profile_total (map bare done) (bare q)
      (all_map bare (λ (r : Profile). is_lt (profile_cmp r (bare q)) ≡ true) done all) ∙ sym (map_last bare done q))
    where
      unknown : profile_of (map bare done) q.class q.pattern ≡ None
      unknown =
          none_found (is_of q.class q.pattern) (map bare done)
          (all_map bare (λ (r : Profile). is_of q.class q.pattern r ≡ false) done
          (all_of (λ (r : Profile). is_lt (profile_cmp r q) ≡ true)
          (λ (r : Profile). is_of q.class q.pattern (bare r) ≡ false) (λ r less. not_of r q less) done all))

  profiles : policy_after (map row_of_profile p.profiles) (of_profiles []) ≡ Ok (of_profiles (map bare p.profiles))
  profiles =
      all_taken row_of_profile (λ qs. of_profiles (map bare qs)) (λ (q r : Profile). is_lt (profile_cmp q r)) (IsProfileOfStored p)
      profile_taken p.profiles order.profiles invariants.profiles

  -- the access list of a profile between those that have theirs and those that have none yet
  module _ (prefix : List Profile) (q : Profile) (back : List Profile) (after : AllByRecursion (λ (r : Profile). is_lt (profile_cmp r q) ≡ true) prefix) where
    abbrev listing : List Entry → List Profile
    listing entries = prefix ++ record q { entries = entries } ∷ back

    entry_taken : (done : List Entry) (e : Entry) → AllByRecursion (λ (f : Entry). is_lt (entry_cmp f e) ≡ true) done → IsEntryOfStored p e
        → after_row (row_of_entry q.class q.pattern e) (of_profiles (listing done)) ≡ Ok (of_profiles (listing (done ++ e ∷ [])))
    entry_taken done e all stored =
        ap (λ (o : Option Profile). needing (is_some o) q.pattern
        (needing (has_holder p e.id) e.id
        (Ok (of_profiles (option_map_or
        (λ (r : Profile). with_profile (record r { entries = with_entry e r.entries }) (listing done)) o
        (listing done)))))) known
        ∙ ap (λ b. needing b e.id (Ok (of_profiles (with_profile (record q { entries = with_entry e done }) (listing done))))) stored
        ∙ ap (λ qs. Ok (of_profiles qs))
        (replace_middle profile_cmp profile_total prefix (record q { entries = with_entry e done })
        (record q { entries = done }) back after (tied_itself profile_total q))
        ∙ ap (λ es. Ok (of_profiles (listing es))) (replace_last entry_cmp entry_total done e all)
      where
        known : profile_of (listing done) q.class q.pattern ≡ Some (record q { entries = done })
        known =
            find_past (is_of q.class q.pattern) prefix (record q { entries = done } ∷ back)
            (all_of (λ (r : Profile). is_lt (profile_cmp r q) ≡ true)
            (λ (r : Profile). is_of q.class q.pattern r ≡ false) (λ r less. not_of r q less) prefix after)
            ∙ ap (λ b. cond b (Some (record q { entries = done })) (find (is_of q.class q.pattern) back)) (is_its_own q)

    list_taken : Ascends (λ (e f : Entry). is_lt (entry_cmp e f)) q.entries → AllByRecursion (IsEntryOfStored p) q.entries
        → policy_after (permits_of q) (of_profiles (listing [])) ≡ Ok (of_profiles (prefix ++ q ∷ back))
    list_taken ascends stored =
        all_taken (row_of_entry q.class q.pattern) (λ es. of_profiles (listing es))
        (λ (e f : Entry). is_lt (entry_cmp e f)) (IsEntryOfStored p) entry_taken q.entries ascends stored

  lists_from : (prefix back : List Profile) → Ascends (λ (q r : Profile). is_lt (profile_cmp q r)) (prefix ++ back)
      → AllByRecursion (λ (q : Profile). Ascends (λ (e f : Entry). is_lt (entry_cmp e f)) q.entries) back → AllByRecursion (IsProfileOfStored p) back
      → policy_after (flat_map permits_of back) (of_profiles (prefix ++ map bare back)) ≡ Ok (of_profiles (prefix ++ back))
  lists_from prefix [] ascends entries stored = refl
  lists_from prefix (q ∷ back) ascends entries stored =
      let same : (prefix ++ q ∷ []) ++ back ≡ prefix ++ q ∷ back = append_assoc prefix (q ∷ []) back in
      then_rows (permits_of q) (flat_map permits_of back) (of_profiles (prefix ++ bare q ∷ map bare back))
      (of_profiles (prefix ++ q ∷ map bare back)) (of_profiles (prefix ++ q ∷ back))
      (list_taken prefix q (map bare back) (all_before (λ (r s : Profile). is_lt (profile_cmp r s)) prefix q back ascends) entries.0 stored.0.1)
      (ap (λ qs. policy_after (flat_map permits_of back) (of_profiles qs)) (sym (append_assoc prefix (q ∷ []) (map bare back)))
      ∙ lists_from (prefix ++ q ∷ []) back (subst (Ascends (λ (r s : Profile). is_lt (profile_cmp r s))) (sym same) ascends) entries.1 stored.1
      ∙ ap (λ qs. Ok (of_profiles qs)) same)

  past_consoles : (consoles : List ConsoleRow) (q : Policy) → policy_after (map row_of_console consoles) q ≡ Ok q
  past_consoles [] q = refl
  past_consoles (c ∷ consoles) q = past_consoles consoles q

  pub policy_comes_back : (consoles : List ConsoleRow) → policy_after (rows_of p consoles) empty.policy ≡ Ok p
  policy_comes_back consoles =
      let some = rows_of_classes p.active ++ map row_of_group p.groups in
      let more = some ++ map row_of_user p.users in
      let most = more ++ map row_of_connect p.connects in
      let others = most ++ map row_of_console consoles in
      let all = others ++ map row_of_profile p.profiles in
      then_rows all (flat_map permits_of p.profiles) empty.policy (of_profiles (map bare p.profiles)) p
      (then_rows others (map row_of_profile p.profiles) empty.policy (of_profiles []) _
      (then_rows most (map row_of_console consoles) empty.policy (of_connects p.connects) _
      (then_rows more (map row_of_connect p.connects) empty.policy (of_users p.users) _
      (then_rows some (map row_of_user p.users) empty.policy (of_groups p.groups) _ groups users)
      connects)
      (past_consoles consoles (of_connects p.connects)))
      profiles)
      (lists_from [] p.profiles order.profiles order.entries invariants.profiles)
