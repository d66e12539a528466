-- The rows of a policy file, taken one after another.
use Rattle.std.proofs.Common.{◌≡◌, ◌<◌, ◌+◌, ℕ, true, false, List, [], ◌∷◌, ◌++◌, Result, Ok, Err, take, get_or, length, is_some, map, refl, sym, ap, subst, ◌∙◌}
use Rattle.std.specs.Prelude.{Bool}
use Rattle.std.specs.BTreeMap.{insert_entry}
use Rattle.std.specs.Map.{values_of}
use Rattle.std.proofs.lemmas.List.{take_more}
use Rattle.opc_terms.specs.declared.fault.Fault.{Fault}
use Rattle.opc_policy_members.specs.declared.connect.Connect.{Connect}
use Rattle.opc_policy_members.specs.declared.policy.Policy.{Policy}
use Rattle.opc_policy_members.specs.declared.row.Row.{Row}
use Rattle.opc_policy_members.specs.declared.row.Row.TheVariants as rows
use Rattle.opc_policy_members.specs.declared.user.User.{User}
use Rattle.opc_policy_members.proofs.UsersById.{AreById-insert, values-with_user}
use Rattle.opc_policy_members.specs.Members.{name_cmp, with_user}
use Rattle.opc_policy_members.specs.Profiles.{profile_of}
use Rattle.opc_policy_members.specs.Stored.{AreById}
use Rattle.opc_policy_members.specs.Taken.{after_row, has_user, has_group, has_holder, unless, needing, policy_after, then_policy}
use Rattle.opc_board.specs.declared.board.BoardRows.{BoardRows}
use Rattle.opc_state.specs.State.{empty}
use Rattle.opc_machine.specs.Bootstrap.{bootstrapped, console_after, consoles_after, with_rows_of}
use Rattle.opc_answers.specs.declared.members.UserWithGroups.{UserWithGroups}
use Rattle.opc_answers.specs.Made.{connect_after, connects_after, member_of, members_of, state_of, user_after, users_after}

consoles_steps : (one more : List Row) (b : BoardRows) → consoles_after (one ++ more) b ≡ consoles_after more (consoles_after one b)
consoles_steps [] more b = refl
consoles_steps (row ∷ one) more b = consoles_steps one more (console_after row b)

pub consoles_more : (all : List Row) (i : ℕ) (row : Row) (start b new : BoardRows) → i < length all
    → row ≡ get_or all i row → consoles_after (take i all) start ≡ b → new ≡ console_after row b
    → consoles_after (take (i + 1) all) start ≡ new
consoles_more all i row start b new low is was next =
    ap (λ xs. consoles_after xs start) (take_more all i row low ∙ ap (λ x. take i all ++ x ∷ []) (sym is))
    ∙ consoles_steps (take i all) (row ∷ []) start
    ∙ ap (console_after row) was
    ∙ sym next

users_steps : (one more : List Row) (users : List User) → users_after (one ++ more) users ≡ users_after more (users_after one users)
users_steps [] more users = refl
users_steps (row ∷ one) more users = users_steps one more (user_after row users)

pub users_more : (all : List Row) (i : ℕ) (row : Row) (start users new : List User) → i < length all → row ≡ get_or all i row
    → users ≡ users_after (take i all) start → new ≡ user_after row users
    → new ≡ users_after (take (i + 1) all) start
users_more all i row start users new low is was next =
    next
    ∙ ap (user_after row) was
    ∙ sym (ap (λ xs. users_after xs start) (take_more all i row low ∙ ap (λ x. take i all ++ x ∷ []) (sym is))
    ∙ users_steps (take i all) (row ∷ []) start)

-- users that are kept at their ids, with one more
pub kept_by_id : (user : User) (old new : List (List ℕ × User)) → AreById old → new ≡ insert_entry name_cmp old user.id user → AreById new
kept_by_id user old new by_id is = subst AreById (sym is) (AreById-insert user old by_id)

pub kept_users : (user : User) (old new : List (List ℕ × User)) → AreById old → new ≡ insert_entry name_cmp old user.id user
    → values_of new ≡ with_user user (values_of old)
kept_users user old new by_id is = ap values_of is ∙ values-with_user user old by_id

-- ---- the users of the policy

ok_is : (p q : Policy) → (let r : Result Policy Fault = Ok p in r) ≡ Ok q → p ≡ q
ok_is p q h = cc

not_err : (f : Fault) (q : Policy) → (let r : Result Policy Fault = Err f in r) ≡ Ok q → ⊥
not_err f q h = cc

unless_ok : (b : Bool) (name : List ℕ) (made : Result Policy Fault) (q : Policy) → unless b name made ≡ Ok q → made ≡ Ok q
unless_ok true name made q h = absurd (not_err _ q h)
unless_ok false name made q h = h

needing_ok : (b : Bool) (name : List ℕ) (made : Result Policy Fault) (q : Policy) → needing b name made ≡ Ok q → made ≡ Ok q
needing_ok true name made q h = h
needing_ok false name made q h = absurd (not_err _ q h)

one_user : (row : Row) (p q : Policy) → after_row row p ≡ Ok q → q.users ≡ user_after row p.users
one_user (rows.Class class active) p q h = ap (λ x. x.users) (sym (ok_is _ q h))
one_user (rows.Group name) p q h = ap (λ x. x.users) (sym (ok_is _ q (unless_ok (has_user p name) name _ q h)))
one_user (rows.User user) p q h = ap (λ x. x.users) (sym (ok_is _ q (unless_ok (has_group p user.id) user.id _ q h)))
one_user (rows.Connect user group) p q h =
    ap (λ x. x.users) (sym (ok_is _ q (needing_ok (has_group p group) group _ q (needing_ok (has_user p user) user _ q h))))
one_user (rows.Console name auth mode) p q h = ap (λ x. x.users) (sym (ok_is p q h))
one_user (rows.Profile class pattern uacc owner warning) p q h =
    ap (λ x. x.users) (sym (ok_is _ q (needing_ok (has_user p owner) owner _ q h)))
one_user (rows.Permit class pattern id level when) p q h =
    ap (λ x. x.users) (sym (ok_is _ q
    (needing_ok (has_holder p id) id _ q
    (needing_ok (is_some (profile_of p.profiles class pattern)) pattern _ q h))))

pub users_so : (all : List Row) (p q : Policy) → policy_after all p ≡ Ok q → q.users ≡ users_after all p.users
users_so [] p q h = ap (λ x. x.users) (sym (ok_is p q h))
users_so (row ∷ all) p q h = go (after_row row p) refl h (λ r. users_so all r q)
  where
    go : (r : Result Policy Fault) → after_row row p ≡ r → then_policy r (λ x. policy_after all x) ≡ Ok q
        → ((x : Policy) → policy_after all x ≡ Ok q → q.users ≡ users_after all x.users)
        → q.users ≡ users_after all (user_after row p.users)
    go (Ok x) is h later = later x h ∙ ap (users_after all) (one_user row p x is)
    go (Err f) is h later = absurd (not_err f q h)

-- ---- the connects of the policy

one_connect : (row : Row) (p q : Policy) → after_row row p ≡ Ok q → q.connects ≡ connect_after row p.connects
one_connect (rows.Class class active) p q h = ap (λ x. x.connects) (sym (ok_is _ q h))
one_connect (rows.Group name) p q h = ap (λ x. x.connects) (sym (ok_is _ q (unless_ok (has_user p name) name _ q h)))
one_connect (rows.User user) p q h = ap (λ x. x.connects) (sym (ok_is _ q (unless_ok (has_group p user.id) user.id _ q h)))
one_connect (rows.Connect user group) p q h =
    ap (λ x. x.connects) (sym (ok_is _ q (needing_ok (has_group p group) group _ q (needing_ok (has_user p user) user _ q h))))
one_connect (rows.Console name auth mode) p q h = ap (λ x. x.connects) (sym (ok_is p q h))
one_connect (rows.Profile class pattern uacc owner warning) p q h =
    ap (λ x. x.connects) (sym (ok_is _ q (needing_ok (has_user p owner) owner _ q h)))
one_connect (rows.Permit class pattern id level when) p q h =
    ap (λ x. x.connects) (sym (ok_is _ q
    (needing_ok (has_holder p id) id _ q
    (needing_ok (is_some (profile_of p.profiles class pattern)) pattern _ q h))))

pub connects_so : (all : List Row) (p q : Policy) → policy_after all p ≡ Ok q → q.connects ≡ connects_after all p.connects
connects_so [] p q h = ap (λ x. x.connects) (sym (ok_is p q h))
connects_so (row ∷ all) p q h = go (after_row row p) refl h (λ r. connects_so all r q)
  where
    go : (r : Result Policy Fault) → after_row row p ≡ r → then_policy r (λ x. policy_after all x) ≡ Ok q
        → ((x : Policy) → policy_after all x ≡ Ok q → q.connects ≡ connects_after all x.connects)
        → q.connects ≡ connects_after all (connect_after row p.connects)
    go (Ok x) is h later = later x h ∙ ap (connects_after all) (one_connect row p x is)
    go (Err f) is h later = absurd (not_err f q h)

connects_steps : (one more : List Row) (connects : List Connect)
    → connects_after (one ++ more) connects ≡ connects_after more (connects_after one connects)
connects_steps [] more connects = refl
connects_steps (row ∷ one) more connects = connects_steps one more (connect_after row connects)

pub connects_more : (all : List Row) (i : ℕ) (row : Row) (start connects new : List Connect) → i < length all → row ≡ get_or all i row
    → connects ≡ connects_after (take i all) start → new ≡ connect_after row connects
    → new ≡ connects_after (take (i + 1) all) start
connects_more all i row start connects new low is was next =
    next
    ∙ ap (connect_after row) was
    ∙ sym (ap (λ xs. connects_after xs start) (take_more all i row low ∙ ap (λ x. take i all ++ x ∷ []) (sym is))
    ∙ connects_steps (take i all) (row ∷ []) start)

-- the users with their groups
pub members_so : (all : List Row) (p : Policy) (users : List User) (connects : List Connect) (members : List UserWithGroups)
    → policy_after all empty.policy ≡ Ok p → users ≡ users_after all [] → connects ≡ connects_after all []
    → members ≡ map (member_of connects) users → members ≡ members_of p
members_so all p users connects members taken are have is =
    is ∙ ap (λ cs. map (member_of cs) users) (have ∙ sym (connects_so all empty.policy p taken))
    ∙ ap (map (member_of p.connects)) (are ∙ sym (users_so all empty.policy p taken))

-- ---- the first policy of new tables

pub state_so : (all : List Row) (p : Policy) (b : BoardRows) → policy_after all empty.policy ≡ Ok p → b ≡ consoles_after all empty.board
    → bootstrapped all empty ≡ Ok (state_of p b)
state_so all p b taken is =
    ap (with_rows_of empty (consoles_after all empty.board)) taken ∙ ap (λ x. Ok (state_of p x)) (sym is)

pub refused_so : (all : List Row) (f : Fault) → policy_after all empty.policy ≡ Err f → bootstrapped all empty ≡ Err f
refused_so all f h = ap (with_rows_of empty (consoles_after all empty.board)) h
