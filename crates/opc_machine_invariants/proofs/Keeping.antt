-- Each step of the machine keeps the invariants of a state.
use Rattle.std.proofs.Common.{
  ◌≡◌,
  inl,
  inr,
  ℕ,
  Bool,
  true,
  false,
  not,
  if◌then◌else◌,
  List,
  [],
  ◌∷◌,
  Option,
  Some,
  None,
  Result,
  Ok,
  Err,
  filter,
  map,
  refl,
  sym,
  subst,
  codes,
  rules,
}
use Rattle.std.specs.Option.{is_none, is_some, option_and_then}
use Rattle.opc_names.specs.declared.class.Class.{Class}
use Rattle.opc_terms.specs.declared.fault.Fault.{Fault}
use Rattle.opc_terms.specs.declared.fault.Fault.TheVariants as fault
use Rattle.opc_terms.specs.declared.need.Need.{Need}
use Rattle.opc_policy_members.specs.declared.policy.Policy.{Policy}
use Rattle.opc_policy_members.specs.declared.row.Row.{Row}
use Rattle.opc_policy_members.specs.declared.row.Row.TheVariants as rows
use Rattle.opc_terms.specs.declared.rule.Rule.{Rule}
use Rattle.opc_policy_members.specs.declared.user.User.{User}
use Rattle.opc_policy_members.specs.Profiles.{of_class}
use Rattle.opc_policy_members.specs.Members.{user_of}
use Rattle.opc_policy_members.specs.Taken.{has_user, policy_after}
use Rattle.opc_reader_commands.specs.declared.command.Command.{Command}
use Rattle.opc_reader_commands.specs.declared.command.Command.TheVariants as command
use Rattle.opc_board.specs.declared.board.BoardRows.{BoardRows}
use Rattle.opc_board.specs.declared.event.Event.{Event}
use Rattle.opc_board.specs.declared.line.Line.{Line}
use Rattle.opc_board.specs.declared.rows.ConsoleRow.{ConsoleRow}
use Rattle.opc_board.specs.Consoles.{logged_on, logged_off}
use Rattle.opc_board.specs.Effect.{effect, event_effect}
use Rattle.opc_board.specs.Outcome.{Done as BoardDone, BoardOutcome}
use Rattle.opc_state.specs.declared.change.Batch.{Batch}
use Rattle.opc_state.specs.Invariants.{IsPolicy}
use Rattle.opc_state.specs.Members.{with_batch}
use Rattle.opc_state.specs.State.{State, has_users}
use Rattle.opc_state.specs.Loads.{asked_for}
use Rattle.opc_machine.specs.Administration.{admin_outcome, board_changed, changed, policy_changed}
use Rattle.opc_machine.specs.Bootstrap.{console_after, consoles_after, with_rows_of, with_rows, loses_master, mastered}
use Rattle.opc_machine.specs.Commands.{
  acted,
  allowed,
  board_command,
  command_in,
  command_outcome,
  console_for,
  event_outcome,
  is_password,
  known_by,
  admit,
  logoff,
  logon,
  need_of,
  without_need,
  nobody_on,
  typed,
}
use Rattle.opc_machine.specs.Imports.{batch_line, batch_of, batch_outcome, import_outcome, same_rows}
use Rattle.opc_machine.specs.Inputs.{Input}
use Rattle.opc_machine.specs.Inputs as input
use Rattle.opc_machine_invariants.specs.KeptInvariants.{
  BootstrapsKeepInvariants,
  EmptyHasInvariants,
  InvariantsGiveKeys,
  HasInvariants,
  IsInKeyOrder,
  RunsKeepInvariants,
  StepsKeepInvariants,
}
use Rattle.opc_machine.specs.Listings.{account_line, account_outcome, profile_line, profiles_outcome}
use Rattle.opc_machine.specs.Machine.{account_row, accounted, after, is_warned, outcome}
use Rattle.opc_machine.specs.declared.operation.Operation.{Operation}
use Rattle.opc_machine.specs.declared.outcome.Refusal.{Refusal}
use Rattle.opc_machine.specs.Outcome.{StateOutcome, ◌>>=◌, does, found, or_refused, refuse_if, refused}
use Rattle.opc_machine.specs.Rights.{account_shown, console_asking, is_special, may_change, profile_shown, right_fault}
use Rattle.opc_machine.specs.Rulings.{acting, logon_ruling, ruling, shown}
use Rattle.opc_machine_invariants.proofs.Boards.{IfDone, IsKeptBoard, changed_kept, defined_kept, effect_kept, event_kept}
use Rattle.opc_machine.proofs.Inversion.{found_ok}
use Rattle.opc_machine_invariants.proofs.Orders.{policy_ordered, rows_ordered}
use Rattle.opc_machine_invariants.proofs.Policies.{IfMade}
use Rattle.opc_machine_invariants.proofs.PoliciesChanged.{policy_kept, rows_kept}
use Rattle.opc_machine_invariants.proofs.Extending.{Extends, board_on}

-- if something is done, the state meets the invariants
abbrev pub IfDoes : StateOutcome → Type 0
IfDoes (Ok effect) = HasInvariants effect.state
IfDoes (Err refusal) = Unit {0}

then_kept : {A : Type 0} (x : Result A Refusal) (f : A → StateOutcome) → ((y : A) → x ≡ Ok y → IfDoes (f y)) → IfDoes (x >>= f)
then_kept (Ok y) f h = h y refl
then_kept (Err d) f h = tt

with_board_kept : (s : State) (b : BoardRows) → HasInvariants s → IsKeptBoard s.policy b → HasInvariants (record s { board = b })
with_board_kept s b invariants kept = record { state = record { board = kept.0; policy = invariants.state.policy; logons = kept.1 }; order = invariants.order }

-- commands and events

acted_kept : (s : State) (why : Option Rule) (o : BoardOutcome) (lines : BoardDone → List Line) → HasInvariants s
    → IfDone s.policy o → IfDoes (acted why o >>= λ act. does (record s { board = act.board }) (lines act) why)
acted_kept s why (Ok d) lines invariants kept = with_board_kept s d.board invariants kept
acted_kept s why (Err f) lines invariants kept = tt

board_command_kept : (s : State) (c : ConsoleRow) (k : Command) (need : Need) → HasInvariants s → IfDoes (board_command s c k need)
board_command_kept s c k need invariants =
    then_kept (allowed (ruling s c need))
    (λ why. acted (Some why) (effect s.board k c.name) >>= λ act. does (record s { board = act.board })
    (filter (shown s c) act.lines) (Some why))
    (λ why is. acted_kept s (Some why) (effect s.board k c.name) (λ act. filter (shown s c) act.lines) invariants
    (effect_kept s.policy s.board k c.name (invariants.state.board, invariants.state.logons)))

-- the user of a logon is stored
known_stored : (s : State) (id password : List ℕ) (u : User) → known_by s id password ≡ Some u → has_user s.policy id ≡ true
known_stored s id password u h = go (user_of s.policy.users id) h
  where
    go : (o : Option User) → option_and_then (λ (v : User). if is_password password v.digest then Some v else None) o ≡ Some u → is_some o ≡ true
    go (Some v) k = refl
    go None k = absurd (search (rules, k))

logon_kept : (s : State) (c : ConsoleRow) (id password : List ℕ) → HasInvariants s → IfDoes (logon s c id password)
logon_kept s c id password invariants =
    then_kept (nobody_on c.user) (λ _. found fault.BadLogon (known_by s id password) >>= λ user. admit
    (logon_ruling s c user) >>= λ why. does (record s { board = logged_on c.name id s.board }) [] (Some why))
    (λ _ _. then_kept (found fault.BadLogon (known_by s id password))
    (λ user. admit (logon_ruling s c user) >>= λ why. does (record s { board = logged_on c.name id s.board }) []
    (Some why))
    (λ user is. then_kept (admit (logon_ruling s c user)) (λ why. does (record s { board = logged_on c.name id s.board }) [] (Some why))
    (λ why _. with_board_kept s (logged_on c.name id s.board) invariants
    (changed_kept s.policy c.name (λ (d : ConsoleRow). record d { user = Some id }) s.board (λ d. refl)
    (λ d was. known_stored s id password user (found_ok fault.BadLogon (known_by s id password) user is))
    (invariants.state.board, invariants.state.logons)))))

logoff_kept : (s : State) (c : ConsoleRow) → HasInvariants s → IfDoes (logoff s c)
logoff_kept s c invariants =
    then_kept (refuse_if fault.NotOn None (is_none c.user)) (λ _. does (record s { board = logged_off c.name s.board }) [] None)
    (λ _ _. with_board_kept s (logged_off c.name s.board) invariants
    (changed_kept s.policy c.name (λ (d : ConsoleRow). record d { user = None }) s.board (λ d. refl) (λ d was. tt)
    (invariants.state.board, invariants.state.logons)))

no_need_kept : (s : State) (c : ConsoleRow) (k : Command) → HasInvariants s → IfDoes (without_need s c k)
no_need_kept s c (command.Logon id password) invariants = logon_kept s c id.value password.value invariants
no_need_kept s c command.Logoff invariants = logoff_kept s c invariants
no_need_kept s c other invariants = invariants

typed_kept : (s : State) (c : ConsoleRow) (k : Command) (need : Option Need) → HasInvariants s → IfDoes (typed s c k need)
typed_kept s c k (Some need) invariants = board_command_kept s c k need invariants
typed_kept s c k None invariants = no_need_kept s c k invariants

command_kept : (s : State) (name text : List ℕ) → HasInvariants s → IfDoes (command_outcome s name text)
command_kept s name text invariants =
    then_kept (console_for s name) (λ c. command_in text >>= λ k. typed s c k (need_of s.board k))
    (λ c _. then_kept (command_in text) (λ k. typed s c k (need_of s.board k)) (λ k _. typed_kept s c k (need_of s.board k) invariants))

event_kept_in : (s : State) (e : Event) → HasInvariants s → IfDoes (event_outcome s e)
event_kept_in s e invariants = acted_kept s None (event_effect s.board e) (λ act. []) invariants
    (event_kept s.policy s.board e (invariants.state.board, invariants.state.logons))

-- administration and imports

abbrev IfTaken : Result State Fault → Type 0
IfTaken (Ok s) = HasInvariants s
IfTaken (Err f) = Unit {0}

with_rows_kept : (s : State) (b : BoardRows) (r : Result Policy Fault) → IfMade (λ q. IsPolicy q × IsKeptBoard q b) r
    → IfMade IsInKeyOrder r → IfTaken (with_rows_of s b r)
with_rows_kept s b (Ok p) kept order = go (loses_master s.board b)
  where
    go : (lost : Bool) → IfTaken (mastered lost (record s { policy = p; board = b }))
    go true = tt
    go false = record { state = record { board = kept.1.0; policy = kept.0; logons = kept.1.1 }; order = order }
with_rows_kept s b (Err f) kept order = tt

or_kept : (r : Result State Fault) (f : State → StateOutcome) → IfTaken r → ((t : State) → HasInvariants t → IfDoes (f t)) → IfDoes (or_refused r >>= f)
or_kept (Ok t) f kept h = h t kept
or_kept (Err fault) f kept h = tt

admin_kept : (s : State) (name : List ℕ) (o : Operation) → HasInvariants s → IfDoes (admin_outcome s name o)
admin_kept s name o invariants =
    then_kept (console_asking s name) (λ c. refuse_if (right_fault o) None (not (may_change s c o)) >>= λ _. or_refused
    (changed s o) >>= λ new. does new [] None)
    (λ c _. then_kept (refuse_if (right_fault o) None (not (may_change s c o))) (λ _. or_refused (changed s o) >>= λ new. does new [] None)
    (λ _ _. or_kept (changed s o) (λ new. does new [] None)
    (with_rows_kept s (board_changed o s.board) (policy_changed s.board o s.policy)
    (policy_kept s.board o s.policy invariants.state.policy (invariants.state.board, invariants.state.logons))
    (policy_ordered s.board o s.policy invariants.order)) (λ t kept. kept)))

consoles_kept : (p : Policy) (all : List Row) (b : BoardRows) → IsKeptBoard p b → IsKeptBoard p (consoles_after all b)
consoles_kept p [] b kept = kept
consoles_kept p (row ∷ more) b kept = consoles_kept p more (console_after row b) (one row)
  where
    one : (r : Row) → IsKeptBoard p (console_after r b)
    one (rows.Console name auth mode) = defined_kept p name auth mode b kept
    one other = kept

with_all_rows_kept : (all : List Row) (s : State) → HasInvariants s → IfTaken (with_rows all s)
with_all_rows_kept all s invariants = with_rows_kept s (consoles_after all s.board) (policy_after all s.policy)
    (go (policy_after all s.policy) (rows_kept all s.policy invariants.state.policy))
    (rows_ordered all s.policy invariants.order)
  where
    go : (r : Result Policy Fault) → IfMade (λ q. IsPolicy q × Extends s.policy q) r → IfMade (λ q. IsPolicy q × IsKeptBoard q (consoles_after all s.board)) r
    go (Ok q) h = (
      h.0,
      board_on s.policy q h.1 (consoles_after all s.board)
          (consoles_kept s.policy all s.board (invariants.state.board, invariants.state.logons)),
    )
    go (Err f) h = tt

batch_kept : (s : State) (number : ℕ) (all : List Row) (kept : Option Batch) → HasInvariants s → IfDoes (batch_outcome s number all kept)
batch_kept s number all None invariants =
    or_kept (with_rows all s) (λ new. does (record new {
      batches = with_batch (record {
        number = number;
        rows = all;
      }) new.batches;
    }) (batch_line number (codes "KEPT") ∷ []) None) (with_all_rows_kept all s invariants)
    (λ t held. record { state = record { board = held.state.board; policy = held.state.policy; logons = held.state.logons }; order = held.order })
batch_kept s number all (Some kept) invariants = go (same_rows kept.rows all)
  where
    go : (same : Bool) → IfDoes (if same then does s (batch_line number (codes "AGAIN") ∷ []) None else refused fault.BatchChanged None)
    go true = invariants
    go false = tt

import_kept : (s : State) (name : List ℕ) (number : ℕ) (all : List Row) → HasInvariants s → IfDoes (import_outcome s name number all)
import_kept s name number all invariants =
    then_kept (console_asking s name) (λ c. refuse_if fault.NotSpecial None (not (is_special (acting s c))) >>= λ _.
    batch_outcome s number all (batch_of s.batches number))
    (λ c _. then_kept (refuse_if fault.NotSpecial None (not (is_special (acting s c)))) (λ _. batch_outcome s number all (batch_of s.batches number))
    (λ _ _. batch_kept s number all (batch_of s.batches number) invariants))

-- listings

profiles_kept : (s : State) (name : List ℕ) (class : Class) → HasInvariants s → IfDoes (profiles_outcome s name class)
profiles_kept s name class invariants = then_kept (console_asking s name)
    (λ c. does s (map profile_line (filter (profile_shown s c) (of_class class s.policy.profiles))) None)
    (λ c _. invariants)

account_kept : (s : State) (name : List ℕ) (from count : ℕ) → HasInvariants s → IfDoes (account_outcome s name from count)
account_kept s name from count invariants =
    then_kept (console_asking s name) (λ c. refuse_if fault.NotSpecial None (not (account_shown s c)) >>= λ _. does s
    (map account_line (asked_for from count s.account)) None)
    (λ c _. then_kept (refuse_if fault.NotSpecial None (not (account_shown s c)))
    (λ _. does s (map account_line (asked_for from count s.account)) None) (λ _ _. invariants))

outcome_kept : (s : State) (r : Input) → HasInvariants s → IfDoes (outcome s r)
outcome_kept s (input.Command name text) invariants = command_kept s name text invariants
outcome_kept s (input.Admin name o) invariants = admin_kept s name o invariants
outcome_kept s (input.ListProfiles name class) invariants = profiles_kept s name class invariants
outcome_kept s (input.ListAccount name from count) invariants = account_kept s name from count invariants
outcome_kept s (input.Import name batch all) invariants = import_kept s name batch all invariants
outcome_kept s (input.Event e) invariants = event_kept_in s e invariants

after_kept : (s : State) (moment : ℕ) (r : Input) (o : StateOutcome) → HasInvariants s → IfDoes o → HasInvariants (after s moment r o)
after_kept s moment r (Ok effect) invariants kept = go (is_warned effect.rule)
  where
    go : (b : Bool) → HasInvariants (if b then accounted (account_row s moment r (codes "WARN") effect.rule) effect.state else effect.state)
    go true = record { state = record { board = kept.state.board; policy = kept.state.policy; logons = kept.state.logons }; order = kept.order }
    go false = kept
after_kept s moment r (Err refusal) invariants kept = record {
  state = record { board = invariants.state.board; policy = invariants.state.policy; logons = invariants.state.logons };
  order = invariants.order;
}

pub steps_keep : StepsKeepInvariants
steps_keep s moment r answer new invariants (inl left) = subst HasInvariants (sym left.same) invariants
steps_keep s moment r answer new invariants (inr (inl full)) = subst HasInvariants (sym full.same) invariants
steps_keep s moment r answer new invariants (inr (inr done)) =
    subst HasInvariants (sym done.becomes)
    (after_kept s moment r (outcome s r) invariants (outcome_kept s r invariants))

pub runs_keep : RunsKeepInvariants
runs_keep s [] [] new invariants same = subst HasInvariants (sym same) invariants
runs_keep s [] (answer ∷ answers) new invariants runs = absurd runs
runs_keep s (r ∷ requests) [] new invariants runs = absurd runs
runs_keep s (r ∷ requests) (answer ∷ answers) new invariants runs =
    runs_keep runs.0 requests answers new (steps_keep s r.0 r.1 answer runs.0 invariants runs.1) runs.2

ok_state : (s t : State) → (let r : Result State Fault = Ok s in r) ≡ Ok t → s ≡ t
ok_state s t h = search (rules, h)

reached : (new : State) (r : Result State Fault) → IfTaken r → r ≡ Ok new → HasInvariants new
reached new (Ok t) kept is = subst HasInvariants (ok_state t new is) kept
reached new (Err f) kept is = absurd (search (rules, is))

pub bootstraps_keep : BootstrapsKeepInvariants
bootstraps_keep more s new invariants made = go (has_users s.policy) (with_rows more s) (with_all_rows_kept more s invariants) made
  where
    go : (b : Bool) (r : Result State Fault) → IfTaken r → (if b then Err fault.NotEmpty else r) ≡ Ok new → HasInvariants new
    go true r kept is = absurd (search (rules, is))
    go false r kept is = reached new r kept is

pub empty_has : EmptyHasInvariants
empty_has = record {
  state = record {
    board = record { units_rise = tt; devices_rise = tt; consoles_rise = tt; replies_rise = tt; held = tt };
    policy = record { apart = tt; connects = tt; profiles = tt };
    logons = tt;
  };
  order = record { users = tt; groups = tt; connects = tt; profiles = tt; entries = tt };
}

pub give_keys : InvariantsGiveKeys
give_keys s invariants = record {
  board = record {
    units = invariants.state.board.units_rise;
    devices = invariants.state.board.devices_rise;
    consoles = invariants.state.board.consoles_rise;
    replies = invariants.state.board.replies_rise;
  };
  users = invariants.order.users;
  profiles = invariants.order.profiles;
  entries = invariants.order.entries;
}
