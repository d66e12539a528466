-- What operations of administration and rows of an import make of the state.
use Rattle.std.proofs.Common.{
  ◌≡◌,
  ℕ,
  Bool,
  true,
  false,
  not,
  ◌&&◌,
  ◌==◌,
  if◌then◌else◌,
  is_some,
  List,
  [],
  ◌∷◌,
  Some,
  None,
  Result,
  Ok,
  Err,
  Contains,
  zero,
  suc,
  arith,
  refl,
  rules,
  sym,
  ap,
  ◌∙◌,
}
use Rattle.std.proofs.lemmas.Bool.Decides.{nat_tests}
use Rattle.opc_terms.specs.declared.fault.Fault.{Fault}
use Rattle.opc_terms.specs.declared.fault.Fault.TheVariants.{NotEmpty}
use Rattle.opc_policy_members.specs.declared.policy.Policy.{Policy}
use Rattle.opc_policy_members.specs.declared.row.Row.{Row}
use Rattle.opc_policy_members.specs.declared.row.Row.TheVariants as rows
use Rattle.opc_policy_members.specs.declared.user.User.{User}
use Rattle.opc_policy_members.specs.Profiles.{profile_of}
use Rattle.opc_policy_members.specs.Taken.{after_row, has_group, has_holder, has_user, needing, unless, policy_after, then_policy}
use Rattle.opc_board.specs.declared.board.BoardRows.{BoardRows}
use Rattle.opc_board.specs.Invariants.{has_master}
use Rattle.opc_state.specs.declared.change.Batch.{Batch}
use Rattle.opc_state.specs.Loads.{is_connected}
use Rattle.opc_state.specs.State.{State, is_some_user}
use Rattle.opc_machine.specs.declared.operation.Operation.{Operation}
use Rattle.opc_machine.specs.declared.operation.Operation.TheVariants as operation
use Rattle.opc_machine.specs.Administration.{board_changed, has_name, is_in_use, is_permitted, policy_changed, unless_in_use}
use Rattle.opc_machine.specs.Bootstrap.{console_after, consoles_after, loses_master, mastered, with_rows, with_rows_of}
use Rattle.opc_machine.specs.Imports.{batch_of}
use Rattle.opc_machine_laws.specs.TakingLaws.{
  AreDefined,
  AreTaken,
  AreTakenWhole,
  BatchesAreFoundByNumber,
  FirstPoliciesAreFirst,
  IsDoneTo,
  KeepsMaster,
  OperationsDoWhatTheySay,
  OperationsKeepAMaster,
  RowsAreTakenInTurn,
  with_console_of,
}

-- the state that is made of a policy and a board, if the last master is not lost
pub record IsMade (s : State) (board : BoardRows) (r : Result Policy Fault) (new : State) : Type 0 where
  pub policy : Policy
  pub makes : r ≡ Ok policy
  pub keeps : loses_master s.board board ≡ false
  pub becomes : new ≡ record s { policy = policy; board = board }

made_of : (s : State) (board : BoardRows) (r : Result Policy Fault) (new : State) → with_rows_of s board r ≡ Ok new → IsMade s board r new
made_of s board (Err f) new h = absurd (search (rules, h))
made_of s board (Ok p) new h = go (loses_master s.board board) refl h
  where
    go : (lost : Bool) → loses_master s.board board ≡ lost → mastered lost (record s { policy = p; board = board }) ≡ Ok new → IsMade s board (Ok p) new
    go true is k = absurd (search (rules, k))
    go false is k = record { policy = p; makes = refl; keeps = is; becomes = search (rules, k) }

pub kept_master : (old new : Bool) → (old && not new) ≡ false → old ≡ true → new ≡ true
kept_master true true h was = refl
kept_master true false h was = absurd (search (rules, h))
kept_master false new h was = absurd (search (rules, was))

keeps_master : (s : State) (board : BoardRows) (r : Result Policy Fault) (new : State) → IsMade s board r new → KeepsMaster s new
keeps_master s board r new made was =
    ap (λ (t : State). has_master t.board.consoles) made.becomes ∙ kept_master (has_master s.board.consoles) (has_master board.consoles) made.keeps was

-- operations

pub unless_ok : (b : Bool) (name : List ℕ) (made : Result Policy Fault) (p : Policy) → unless b name made ≡ Ok p → made ≡ Ok p
unless_ok true name made p h = absurd (search (rules, h))
unless_ok false name made p h = h

pub needing_ok : (b : Bool) (name : List ℕ) (made : Result Policy Fault) (p : Policy) → needing b name made ≡ Ok p → made ≡ Ok p
needing_ok true name made p h = h
needing_ok false name made p h = absurd (search (rules, h))

in_use_ok : (b : Bool) (id : List ℕ) (made : Result Policy Fault) (p : Policy) → unless_in_use b id made ≡ Ok p → made ≡ Ok p
in_use_ok true id made p h = absurd (search (rules, h))
in_use_ok false id made p h = h

same_policy : (p q : Policy) → ◌≡◌ {A = Result Policy Fault} (Ok p) (Ok q) → q ≡ p
same_policy p q h = sym (search (rules, h))

-- the state with the policy that is made
module _ (s new : State) (q : Policy) (becomes : new ≡ record s { policy = q }) where
  put : (p : Policy) → ◌≡◌ {A = Result Policy Fault} (Ok p) (Ok q) → new ≡ record s { policy = p }
  put p h = becomes ∙ ap (λ (x : Policy). record s { policy = x }) (same_policy p q h)

pub done_to : (s : State) (o : Operation) (new : State) (q : Policy) → policy_changed s.board o s.policy ≡ Ok q → new ≡ record s {
  policy = q;
  board = board_changed o s.board;
} → IsDoneTo s o new
done_to s (operation.AddUser id special auditor digest restricted) new q h is = put s new q is _ (unless_ok (has_name s.policy id) id _ q h)
done_to s (operation.AltUser id special auditor revoked digest restricted) new q h is = put s new q is _ (needing_ok (has_user s.policy id) id _ q h)
done_to s (operation.DelUser id) new q h is = put s new q is _ (in_use_ok (is_in_use s.policy s.board id) id _ q (needing_ok (has_user s.policy id) id _ q h))
done_to s (operation.AddGroup name) new q h is = put s new q is _ (unless_ok (has_name s.policy name) name _ q h)
done_to s (operation.Connect user group) new q h is =
    put s new q is _ (unless_ok (is_connected s.policy user group) group _ q
    (needing_ok (has_group s.policy group) group _ q (needing_ok (has_user s.policy user) user _ q h)))
done_to s (operation.Remove user group) new q h is =
    put s new q is _ (needing_ok (is_connected s.policy user group) group _ q
    (needing_ok (has_group s.policy group) group _ q (needing_ok (has_user s.policy user) user _ q h)))
done_to s (operation.RDefine class pattern owner uacc warning) new q h is =
    put s new q is _ (needing_ok (has_user s.policy owner) owner _ q (unless_ok (is_some (profile_of s.policy.profiles class pattern)) pattern _ q h))
done_to s (operation.RAlter class pattern owner uacc warning) new q h is =
    put s new q is _ (needing_ok (has_user s.policy owner) owner _ q (needing_ok (is_some (profile_of s.policy.profiles class pattern)) pattern _ q h))
done_to s (operation.RDelete class pattern) new q h is = put s new q is _ (needing_ok (is_some (profile_of s.policy.profiles class pattern)) pattern _ q h)
done_to s (operation.Permit class pattern id level when) new q h is =
    put s new q is _ (needing_ok (has_holder s.policy id) id _ q (needing_ok (is_some (profile_of s.policy.profiles class pattern)) pattern _ q h))
done_to s (operation.PermitDelete class pattern id when) new q h is =
    put s new q is _ (needing_ok (is_permitted s.policy class pattern id when) id _ q
    (needing_ok (is_some (profile_of s.policy.profiles class pattern)) pattern _ q h))
done_to s (operation.ClassActive class active) new q h is = put s new q is _ h
done_to s (operation.DefineConsole name auth mode) new q h is =
    is ∙ ap (λ (x : Policy). record s { policy = x; board = board_changed (operation.DefineConsole name auth mode) s.board }) (same_policy s.policy q h)

pub do_what_they_say : OperationsDoWhatTheySay
do_what_they_say s o new h =
    let made = made_of s (board_changed o s.board) (policy_changed s.board o s.policy) new h in
    done_to s o new made.policy made.makes made.becomes

pub operations_keep_a_master : OperationsKeepAMaster
operations_keep_a_master s o new h = keeps_master s (board_changed o s.board) (policy_changed s.board o s.policy) new
    (made_of s (board_changed o s.board) (policy_changed s.board o s.policy) new h)

-- rows

taken_so : (all : List Row) (old new : Policy) → policy_after all old ≡ Ok new → AreTaken all old new
taken_so [] old new h = same_policy old new h
taken_so (row ∷ more) old new h = go (after_row row old) refl h (λ q. taken_so more q new)
  where
    go : (r : Result Policy Fault) → after_row row old ≡ r → then_policy r (λ q. policy_after more q) ≡ Ok new
        → ((q : Policy) → policy_after more q ≡ Ok new → AreTaken more q new)
        → (next : Policy) × (after_row row old ≡ Ok next) × AreTaken more next new
    go (Ok q) is k later = (q, is, later q k)
    go (Err f) is k later = absurd (search (rules, k))

pub taken_back : (all : List Row) (old new : Policy) → AreTaken all old new → policy_after all old ≡ Ok new
taken_back [] old new is = ap Ok (sym is)
taken_back (row ∷ more) old new (next, takes, later) = ap (λ r. then_policy r (λ q. policy_after more q)) takes ∙ taken_back more next new later

console_is : (row : Row) (b : BoardRows) → console_after row b ≡ with_console_of row b
console_is (rows.Console name auth mode) b = refl
console_is other b = refl

defined_so : (all : List Row) (old new : BoardRows) → new ≡ consoles_after all old → AreDefined all old new
defined_so [] old new is = is
defined_so (row ∷ more) old new is = defined_so more (with_console_of row old) new (is ∙ ap (consoles_after more) (console_is row old))

pub defined_back : (all : List Row) (old new : BoardRows) → AreDefined all old new → new ≡ consoles_after all old
defined_back [] old new is = is
defined_back (row ∷ more) old new is = defined_back more (with_console_of row old) new is ∙ sym (ap (consoles_after more) (console_is row old))

no_master_lost : (old new : Bool) → (old ≡ true → new ≡ true) → (old && not new) ≡ false
no_master_lost true new kept = ap not (kept refl)
no_master_lost false new kept = refl

module _ (all : List Row) (s new : State) where
  taken_whole : IsMade s (consoles_after all s.board) (policy_after all s.policy) new → AreTakenWhole all s new
  taken_whole made = record {
    policy = taken_so all s.policy new.policy (made.makes ∙ ap Ok (sym (ap (λ (t : State). t.policy) made.becomes)));
    board = defined_so all s.board new.board (ap (λ (t : State). t.board) made.becomes);
    master = keeps_master s (consoles_after all s.board) (policy_after all s.policy) new made;
    account = ap (λ (t : State). t.account) made.becomes;
    batches = ap (λ (t : State). t.batches) made.becomes;
  }

  whole_back : AreTakenWhole all s new → with_rows_of s (consoles_after all s.board) (policy_after all s.policy) ≡ Ok new
  whole_back whole =
      let defined : new.board ≡ consoles_after all s.board = defined_back all s.board new.board whole.board in
      let keeps : loses_master s.board new.board ≡ false = no_master_lost (has_master s.board.consoles) (has_master new.board.consoles) whole.master in
      let same : ◌≡◌ {A = Result State Fault} (Ok (record s {
        policy = new.policy;
        board = new.board;
      })) (Ok new) = rw (← whole.account, ← whole.batches) refl in
      ap (λ b. with_rows_of s b (policy_after all s.policy)) (sym defined)
      ∙ ap (with_rows_of s new.board) (taken_back all s.policy new.policy whole.policy)
      ∙ ap (λ lost. mastered lost (record s { policy = new.policy; board = new.board })) keeps
      ∙ same

pub rows_in_turn : RowsAreTakenInTurn
rows_in_turn all s new = (λ h. taken_whole all s new (made_of s (consoles_after all s.board) (policy_after all s.policy) new h), whole_back all s new)

-- first policies

some_stored : (users : List User) (user : User) → Contains users user → is_some_user users ≡ true
some_stored [] user (k, low, is) = absurd (omega (arith, low))
some_stored (u ∷ users) user there = refl

pub first_policies : FirstPoliciesAreFirst
first_policies all s = record {
  stored = λ user there. ap (λ b. if b then Err NotEmpty else with_rows all s) (some_stored s.policy.users user there);
  empty = λ none. ap (λ b. if b then Err NotEmpty else with_rows all s) (ap is_some_user none);
}

-- batches

module _ (number : ℕ) where
  found_so : (batches : List Batch) (batch : Batch) → batch_of batches number ≡ Some batch → Contains batches batch × (batch.number ≡ number)
  found_so [] batch h = absurd (search (rules, h))
  found_so (b ∷ more) batch h = go (b.number == number) refl h (found_so more batch)
    where
      go : (t : Bool) → (b.number == number) ≡ t → (if t then Some b else batch_of more number) ≡ Some batch
          → (batch_of more number ≡ Some batch → Contains more batch × (batch.number ≡ number))
          → Contains (b ∷ more) batch × (batch.number ≡ number)
      go true is k later =
          let same : b ≡ batch = search (rules, k) in
          let at : b.number ≡ number = grind (arith, nat_tests) in
          ((0, omega arith, same), sym (ap (λ (x : Batch). x.number) same) ∙ at)
      go false is k later = let found = later k in ((suc found.0.0, omega (arith, found.0.1), found.0.2), found.1)

  none_so : (batches : List Batch) → batch_of batches number ≡ None → (batch : Batch) → Contains batches batch → batch.number ≡ number → ⊥
  none_so [] h batch (k, low, is) at = omega (arith, low)
  none_so (b ∷ more) h batch in_it at = go (b.number == number) refl h in_it (none_so more)
    where
      go : (t : Bool) → (b.number == number) ≡ t → (if t then Some b else batch_of more number) ≡ None
          → Contains (b ∷ more) batch → (batch_of more number ≡ None → (x : Batch) → Contains more x → x.number ≡ number
          → ⊥) → ⊥
      go true is none within later = search (rules, none)
      go false is none (zero, low, same) later = let here : b.number ≡ number = ap (λ (x : Batch). x.number) same ∙ at in grind (arith, nat_tests)
      go false is none (suc k, low, same) later = later none batch (k, omega (arith, low), same) at

pub by_number : BatchesAreFoundByNumber
by_number batches number = record { found = found_so number batches; none = none_so number batches }
