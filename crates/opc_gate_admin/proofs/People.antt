-- Users, groups and connects that are put and removed: what the policy becomes, and that it changes.
use Rattle.std.proofs.Common.{
  ◌≡◌,
  ℕ,
  ◌==◌,
  length,
  arith,
  Bool,
  true,
  false,
  not,
  ◌||◌,
  ◌&&◌,
  List,
  [],
  ◌∷◌,
  Some,
  None,
  Result,
  Ok,
  Ordering,
  Less,
  Equal,
  Greater,
  is_eq,
  filter,
  cond,
  refl,
  sym,
  ap,
  ◌∙◌,
  rules,
}
use Rattle.std.specs.Cmp.{IsTotalOrder}
use Rattle.std.specs.Cmp.Lexicographic.{texts_ties}
use Rattle.std.specs.List.{list_any}
use Rattle.std.specs.Option.{is_some}
use Rattle.std.specs.Ordering.{ordering_then}
use Rattle.std.specs.Str.{bytes_eq}
use Rattle.std.proofs.lemmas.Bool.Decides.{nat_tests}
use Rattle.std.proofs.lemmas.Cmp.{on_total, nat_list_cmp_total}
use Rattle.opc_policy_members.specs.declared.connect.Connect.{Connect}
use Rattle.opc_terms.specs.declared.fault.Fault.{Fault}
use Rattle.opc_policy_members.specs.declared.policy.Policy.{Policy}
use Rattle.opc_policy_members.specs.declared.user.User.{User}
use Rattle.opc_policy_members.specs.Members.{connect_cmp, is_group, name_cmp, user_cmp, user_of, with_connect, with_group, with_user}
use Rattle.opc_policy_members.specs.Taken.{has_group, has_user, needing, unless}
use Rattle.opc_board.specs.declared.board.BoardRows.{BoardRows}
use Rattle.opc_state.specs.declared.change.Edit.TheVariants as edit
use Rattle.opc_state.specs.Changes.{edited}
use Rattle.opc_state.specs.Invariants.{IsKeyed}
use Rattle.opc_state.specs.Loads.{is_connected}
use Rattle.opc_state.specs.Members.{without_user}
use Rattle.opc_state.specs.State.{State}
use Rattle.opc_state.proofs.SameRows.{name_itself, names}
use Rattle.opc_machine.specs.declared.operation.Operation.TheVariants as operation
use Rattle.opc_machine.specs.Administration.{has_name, is_in_use, policy_changed, unless_in_use}
use Rattle.opc_machine.specs.Imports.{same_user}
use Rattle.opc_gate_admin.proofs.Idle.{any_added, found_put, is_tie, none_found, none_left, put_again, some_is}
use Rattle.opc_gate_admin.proofs.Same.{user_is, user_itself}

pub there_is : (b : Bool) (name : List ℕ) (made : Result Policy Fault) → b ≡ true → needing b name made ≡ made
there_is b name made h = ap (λ x. needing x name made) h

pub there_is_none : (b : Bool) (name : List ℕ) (made : Result Policy Fault) → b ≡ false → unless b name made ≡ made
there_is_none b name made h = ap (λ x. unless x name made) h

or_left : (a b : Bool) → (a || b) ≡ false → a ≡ false
or_left true b h = h
or_left false b h = refl

or_right : (a b : Bool) → (a || b) ≡ false → b ≡ false
or_right true b h = absurd (search (rules, h))
or_right false b h = h

-- ---- users

user_total : IsTotalOrder user_cmp
user_total = on_total (λ (u : User). u.id) nat_list_cmp_total

compares_equal : (u v : User) → bytes_eq u.id v.id ≡ true → user_cmp u v ≡ Equal
compares_equal u v h = is_tie (user_cmp u v) (sym (texts_ties u.id v.id) ∙ h)

user_put_changes : (s : State) (u : User) → (user_of s.policy.users u.id ≡ Some u → ⊥) → edited (edit.PutUser u) s ≡ s → ⊥
user_put_changes s u other same =
    other (sym (ap (λ (t : State). user_of t.policy.users u.id) same)
    ∙ found_put user_cmp (λ (v : User). bytes_eq u.id v.id) u s.policy.users (name_itself u.id) (compares_equal u))

user_put_again : (s : State) (u : User) → IsKeyed s → user_of s.policy.users u.id ≡ Some u → with_user u s.policy.users ≡ s.policy.users
user_put_again s u order found = put_again user_cmp user_total (λ (v : User). bytes_eq u.id v.id) u s.policy.users order.users found

mirrored : (a b : List ℕ) → bytes_eq a b ≡ false → bytes_eq b a ≡ false
mirrored a b h = go (bytes_eq b a) refl
  where
    go : (x : Bool) → bytes_eq b a ≡ x → x ≡ false
    go false e = refl
    go true e = sym e ∙ ap (λ n. bytes_eq n a) (names b a e) ∙ ap (λ n. bytes_eq a n) (sym (names b a e)) ∙ h

-- one that is put at an id that is stored, and the same as before or not
pub altered : (s : State) (b : BoardRows) (stored user : User) → user_of s.policy.users user.id ≡ Some stored
    → policy_changed b (operation.AltUser user.id user.special user.auditor user.revoked user.digest user.restricted)
    s.policy ≡ Ok (record s.policy { users = with_user user s.policy.users })
altered s b stored user found = ap (λ o. needing (is_some o) user.id (Ok (record s.policy { users = with_user user s.policy.users }))) found

pub other_user_changes : (s : State) (stored user : User) → user_of s.policy.users user.id ≡ Some stored
    → same_user stored user ≡ false → edited (edit.PutUser user) s ≡ s → ⊥
other_user_changes s stored user found differs =
    user_put_changes s user (λ h. let is : stored ≡ user = some_is stored user (sym found ∙ h) in
    search (rules, sym differs ∙ ap (λ u. same_user u user) is ∙ user_itself user))

pub unaltered : (s : State) (b : BoardRows) (stored user : User) → IsKeyed s → user_of s.policy.users user.id ≡ Some stored → same_user stored user ≡ true
    → policy_changed b (operation.AltUser user.id user.special user.auditor user.revoked user.digest user.restricted) s.policy ≡ Ok s.policy
unaltered s b stored user order found same =
    let is : user_of s.policy.users user.id ≡ Some user = found ∙ ap Some (user_is stored user same) in
    altered s b stored user found ∙ ap (λ us. Ok (record s.policy { users = us })) (user_put_again s user order is)

pub user_removal_changes : (s : State) (id : List ℕ) → is_some (user_of s.policy.users id) ≡ true → edited (edit.RemoveUser id) s ≡ s → ⊥
user_removal_changes s id there same =
    let gone : user_of (without_user id s.policy.users) id ≡ None =
    none_found (λ (v : User). bytes_eq id v.id) (λ (v : User). bytes_eq v.id id) (λ v h. mirrored v.id id h)
    s.policy.users in
    let still : user_of s.policy.users id ≡ None = sym (ap (λ (t : State). user_of t.policy.users id) same) ∙ gone in
    search (rules, sym there ∙ ap is_some still)

user_stored : (s : State) (u : User) → has_user s.policy u.id ≡ false → user_of s.policy.users u.id ≡ Some u → ⊥
user_stored s u none there = search (rules, sym none ∙ ap is_some there)

pub added : (s : State) (b : BoardRows) (user : User) → user.revoked ≡ false → has_name s.policy user.id ≡ false
    → policy_changed b (operation.AddUser user.id user.special user.auditor user.digest user.restricted) s.policy ≡ Ok
    (record s.policy { users = with_user user s.policy.users })
added s b user plain free =
    there_is_none (has_name s.policy user.id) user.id (Ok (record s.policy { users = with_user (record user { revoked = false }) s.policy.users })) free
    ∙ ap (λ r. Ok (record s.policy { users = with_user (record user { revoked = r }) s.policy.users })) (sym plain)

pub new_user_changes : (s : State) (user : User) → has_name s.policy user.id ≡ false → edited (edit.PutUser user) s ≡ s → ⊥
new_user_changes s user free = user_put_changes s user (user_stored s user (or_left (has_user s.policy user.id) (has_group s.policy user.id) free))

pub deleted : (s : State) (id : List ℕ) → has_user s.policy id ≡ true → is_in_use s.policy s.board id ≡ false
    → policy_changed s.board (operation.DelUser id) s.policy ≡ Ok (record s.policy { users = without_user id s.policy.users })
deleted s id there used =
    let made : Result Policy Fault = Ok (record s.policy { users = without_user id s.policy.users }) in
    there_is (has_user s.policy id) id (unless_in_use (is_in_use s.policy s.board id) id made) there
    ∙ ap (λ a. unless_in_use a id made) used

-- some pass a test if the list of those that pass it is not empty
pub some_filtered : {A : Type 0} (test : A → Bool) (xs : List A) → not (length (filter test xs) == 0) ≡ list_any test xs
some_filtered test [] = refl
some_filtered {A} test (x ∷ xs) = go (test x) (some_filtered test xs)
  where
    some : (ys : List A) → not (length (x ∷ ys) == 0) ≡ true
    some ys = grind (arith, nat_tests)

    go : (b : Bool) → not (length (filter test xs) == 0) ≡ list_any test xs
        → not (length (cond b (x ∷ filter test xs) (filter test xs)) == 0) ≡ (b || list_any test xs)
    go true later = some (filter test xs)
    go false later = later

-- ---- groups and connects

tied_names : (a b : List ℕ) → name_cmp a b ≡ Equal → a ≡ b
tied_names a b h = names a b (texts_ties a b ∙ ap is_eq h)

pub new_group_changes : (s : State) (name : List ℕ) → has_name s.policy name ≡ false → edited (edit.PutGroup name) s ≡ s → ⊥
new_group_changes s name free same =
    let there : is_group (with_group name s.policy.groups) name ≡ true =
    any_added name_cmp (bytes_eq name) name s.policy.groups (name_itself name)
    (λ x h. ap (λ n. bytes_eq name n) (sym (tied_names name x h)) ∙ name_itself name) in
    let none : has_group s.policy name ≡ false = or_right (has_user s.policy name) (has_group s.policy name) free in
    search (rules, sym none ∙ sym (ap (λ (t : State). is_group t.policy.groups name) same) ∙ there)

same_connect : (c d : Connect) → connect_cmp c d ≡ Equal → c ≡ d
same_connect c d h = go (name_cmp c.user d.user) refl h
  where
    go : (o : Ordering) → name_cmp c.user d.user ≡ o → ordering_then o (name_cmp c.group d.group) ≡ Equal → c ≡ d
    go Less e h = absurd (search (rules, h))
    go Equal e h = let user : c.user ≡ d.user = tied_names c.user d.user e in let group : c.group ≡ d.group = tied_names c.group d.group h in λ i. record {
      user = user i;
      group = group i;
    }
    go Greater e h = absurd (search (rules, h))

connect_itself : (c : Connect) → (bytes_eq c.user c.user && bytes_eq c.group c.group) ≡ true
connect_itself c = ap (λ b. b && bytes_eq c.group c.group) (name_itself c.user) ∙ name_itself c.group

pub new_connect_changes : (s : State) (c : Connect) → is_connected s.policy c.user c.group ≡ false → edited (edit.PutConnect c) s ≡ s → ⊥
new_connect_changes s c none same =
    let test : Connect → Bool = λ d. bytes_eq d.user c.user && bytes_eq d.group c.group in
    let there : list_any test (with_connect c s.policy.connects) ≡ true =
    any_added connect_cmp test c s.policy.connects (connect_itself c)
    (λ x h. ap test (sym (same_connect c x h)) ∙ connect_itself c) in
    search (rules, sym none ∙ sym (ap (λ (t : State). list_any test t.policy.connects) same) ∙ there)

pub connect_removal_changes : (s : State) (c : Connect) → is_connected s.policy c.user c.group ≡ true → edited (edit.RemoveConnect c) s ≡ s → ⊥
connect_removal_changes s c there same =
    let test : Connect → Bool = λ d. bytes_eq d.user c.user && bytes_eq d.group c.group in
    search (rules, sym there ∙ sym (ap (λ (t : State). list_any test t.policy.connects) same) ∙ none_left test s.policy.connects)
