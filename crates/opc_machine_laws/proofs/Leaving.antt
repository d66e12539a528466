-- What a request leaves as it is.
use Rattle.std.proofs.Common.{
  ◌≡◌,
  inl,
  inr,
  ℕ,
  Bool,
  true,
  false,
  not,
  if◌then◌else◌,
  List,
  [],
  ◌∷◌,
  ◌++◌,
  Option,
  Some,
  None,
  Result,
  Ok,
  Err,
  filter,
  map,
  refl,
  rules,
  sym,
  ap,
  subst,
  ◌∙◌,
  codes,
}
use Rattle.std.specs.Option.{is_none}
use Rattle.std.proofs.lemmas.Bool.{false≢true}
use Rattle.opc_names.specs.declared.class.Class.{Class}
use Rattle.opc_terms.specs.declared.fault.Fault.{Fault}
use Rattle.opc_terms.specs.declared.fault.Fault.TheVariants as fault
use Rattle.opc_terms.specs.declared.need.Need.{Need}
use Rattle.opc_policy_members.specs.declared.policy.Policy.{Policy}
use Rattle.opc_policy_members.specs.declared.row.Row.{Row}
use Rattle.opc_terms.specs.declared.rule.Rule.{Rule}
use Rattle.opc_terms.specs.declared.rule.Rule.TheVariants as rule
use Rattle.opc_policy_members.specs.Profiles.{of_class}
use Rattle.opc_reader_commands.specs.declared.command.Command.{Command}
use Rattle.opc_reader_commands.specs.declared.command.Command.TheVariants as command
use Rattle.opc_board.specs.declared.board.BoardRows.{BoardRows}
use Rattle.opc_board.specs.declared.event.Event.{Event}
use Rattle.opc_board.specs.declared.line.Line.{Line}
use Rattle.opc_board.specs.declared.rows.ConsoleRow.{ConsoleRow}
use Rattle.opc_board.specs.Consoles.{logged_off, logged_on}
use Rattle.opc_board.specs.Effect.{effect, event_effect}
use Rattle.opc_board.specs.Outcome.{Done as BoardDone, BoardOutcome}
use Rattle.opc_state.specs.declared.change.Batch.{Batch}
use Rattle.opc_state.specs.Loads.{asked_for}
use Rattle.opc_state.specs.Members.{with_batch}
use Rattle.opc_state.specs.State.{State}
use Rattle.opc_machine.specs.declared.operation.Operation.{Operation}
use Rattle.opc_machine.specs.declared.request.Request.TheVariants as request
use Rattle.opc_machine.specs.Administration.{admin_outcome, board_changed, changed, policy_changed}
use Rattle.opc_policy_members.specs.Taken.{policy_after}
use Rattle.opc_machine.specs.Bootstrap.{consoles_after, loses_master, mastered, with_rows, with_rows_of}
use Rattle.opc_machine.specs.Commands.{
  acted,
  allowed,
  board_command,
  command_in,
  command_outcome,
  console_for,
  event_outcome,
  known_by,
  admit,
  logoff,
  logon,
  need_of,
  nobody_on,
  typed,
  without_need,
}
use Rattle.opc_machine.specs.Faults.{board_fault}
use Rattle.opc_machine.specs.Imports.{batch_line, batch_of, batch_outcome, import_outcome, same_rows}
use Rattle.opc_machine.specs.Inputs.{Input}
use Rattle.opc_machine.specs.Inputs as input
use Rattle.opc_machine.specs.Listings.{account_line, account_outcome, profile_line, profiles_outcome}
use Rattle.opc_machine.specs.Machine.{account_row, accounted, after, answer_of, is_warned, outcome}
use Rattle.opc_machine.specs.declared.outcome.Refusal.{Refusal}
use Rattle.opc_machine.specs.Outcome.{StateOutcome, ◌>>=◌, does, found, or_refused, refuse_if, refused}
use Rattle.opc_machine.specs.Rights.{account_shown, console_asking, is_special, may_change, profile_shown, right_fault}
use Rattle.opc_machine.specs.Rulings.{acting, logon_ruling, ruling, shown}
use Rattle.opc_machine.proofs.Inversion.{bind_ok, acted_ok, done_is, not_aborted}
use Rattle.opc_machine_laws.specs.LeavingLaws.{
  AccountRowsSay,
  AreBatchesLeft,
  EventFaultsAreAnswered,
  EventsHappenWhereverPossible,
  EventsOnlyDoTheirEffect,
  IsBatchKept,
  IsWarned,
  LeavesRest,
  RequestsAreAsked,
  RequestsNameTheirConsole,
  WhatIsDoneLeavesRest,
}

-- if something is done, its state is of this kind
abbrev pub IfDoes : (State → Type 0) → StateOutcome → Type 0
IfDoes P (Ok effect) = P effect.state
IfDoes P (Err refusal) = Unit {0}

then_left : {A : Type 0} (P : State → Type 0) (x : Result A Refusal) (f : A → StateOutcome) → ((y : A) → x ≡ Ok y → IfDoes P (f y)) → IfDoes P (x >>= f)
then_left P (Ok y) f h = h y refl
then_left P (Err d) f h = tt

-- account and batches are as they were
abbrev pub IsRestLeft : State → State → Type 0
IsRestLeft s t = (t.account ≡ s.account) × (t.batches ≡ s.batches)

-- commands and events

acted_left : (s : State) (why : Option Rule) (r : BoardOutcome) (lines : BoardDone → List Line)
    → IfDoes (IsRestLeft s) (acted why r >>= λ act. does (record s { board = act.board }) (lines act) why)
acted_left s why (Ok d) lines = (refl, refl)
acted_left s why (Err f) lines = tt

board_left : (s : State) (c : ConsoleRow) (k : Command) (need : Need) → IfDoes (IsRestLeft s) (board_command s c k need)
board_left s c k need =
    then_left (IsRestLeft s) (allowed (ruling s c need))
    (λ why. acted (Some why) (effect s.board k c.name) >>= λ act. does (record s { board = act.board })
    (filter (shown s c) act.lines) (Some why))
    (λ why is. acted_left s (Some why) (effect s.board k c.name) (λ act. filter (shown s c) act.lines))

logon_left : (s : State) (c : ConsoleRow) (id password : List ℕ) → IfDoes (IsRestLeft s) (logon s c id password)
logon_left s c id password =
    then_left (IsRestLeft s) (nobody_on c.user)
    (λ _. found fault.BadLogon (known_by s id password) >>= λ user. admit (logon_ruling s c user) >>= λ why. does
    (record s { board = logged_on c.name id s.board }) [] (Some why))
    (λ _ _. then_left (IsRestLeft s) (found fault.BadLogon (known_by s id password))
    (λ user. admit (logon_ruling s c user) >>= λ why. does (record s { board = logged_on c.name id s.board }) []
    (Some why))
    (λ user _. then_left (IsRestLeft s) (admit (logon_ruling s c user))
    (λ why. does (record s { board = logged_on c.name id s.board }) [] (Some why)) (λ why _. (refl, refl))))

logoff_left : (s : State) (c : ConsoleRow) → IfDoes (IsRestLeft s) (logoff s c)
logoff_left s c = then_left (IsRestLeft s) (refuse_if fault.NotOn None (is_none c.user))
    (λ _. does (record s { board = logged_off c.name s.board }) [] None) (λ _ _. (refl, refl))

no_need_left : (s : State) (c : ConsoleRow) (k : Command) → IfDoes (IsRestLeft s) (without_need s c k)
no_need_left s c (command.Logon id password) = logon_left s c id.value password.value
no_need_left s c command.Logoff = logoff_left s c
no_need_left s c other = (refl, refl)

typed_left : (s : State) (c : ConsoleRow) (k : Command) (need : Option Need) → IfDoes (IsRestLeft s) (typed s c k need)
typed_left s c k (Some need) = board_left s c k need
typed_left s c k None = no_need_left s c k

command_left : (s : State) (name text : List ℕ) → IfDoes (IsRestLeft s) (command_outcome s name text)
command_left s name text =
    then_left (IsRestLeft s) (console_for s name) (λ c. command_in text >>= λ k. typed s c k (need_of s.board k))
    (λ c _. then_left (IsRestLeft s) (command_in text) (λ k. typed s c k (need_of s.board k)) (λ k _. typed_left s c k (need_of s.board k)))

event_left : (s : State) (e : Event) → IfDoes (IsRestLeft s) (event_outcome s e)
event_left s e = acted_left s None (event_effect s.board e) (λ act. [])

-- administration and imports

abbrev pub IfTaken : (State → Type 0) → Result State Fault → Type 0
IfTaken P (Ok s) = P s
IfTaken P (Err f) = Unit {0}

rows_left : (s : State) (b : BoardRows) (r : Result Policy Fault) → IfTaken (IsRestLeft s) (with_rows_of s b r)
rows_left s b (Ok p) = go (loses_master s.board b)
  where
    go : (lost : Bool) → IfTaken (IsRestLeft s) (mastered lost (record s { policy = p; board = b }))
    go true = tt
    go false = (refl, refl)
rows_left s b (Err f) = tt

or_left : (P : State → Type 0) (Q : State → Type 0) (r : Result State Fault) (f : State → StateOutcome) → IfTaken P r
    → ((t : State) → P t → IfDoes Q (f t)) → IfDoes Q (or_refused r >>= f)
or_left P Q (Ok t) f left h = h t left
or_left P Q (Err fault) f left h = tt

admin_left : (s : State) (name : List ℕ) (o : Operation) → IfDoes (IsRestLeft s) (admin_outcome s name o)
admin_left s name o =
    then_left (IsRestLeft s) (console_asking s name)
    (λ c. refuse_if (right_fault o) None (not (may_change s c o)) >>= λ _. or_refused (changed s o) >>= λ new. does
    new [] None)
    (λ c _. then_left (IsRestLeft s) (refuse_if (right_fault o) None (not (may_change s c o))) (λ _. or_refused (changed s o) >>= λ new. does new [] None)
    (λ _ _. or_left (IsRestLeft s) (IsRestLeft s) (changed s o) (λ new. does new [] None)
    (rows_left s (board_changed o s.board) (policy_changed s.board o s.policy)) (λ t left. left)))

-- the account is as it was, and the batches as an import leaves them
abbrev pub IsImported : State → ℕ → List Row → State → Type 0
IsImported s number all t = (t.account ≡ s.account) × IsBatchKept s number (record { number = number; rows = all }) t

batch_left : (s : State) (number : ℕ) (all : List Row) (kept : Option Batch) → batch_of s.batches number ≡ kept
    → IfDoes (IsImported s number all) (batch_outcome s number all kept)
batch_left s number all None is =
    or_left (IsRestLeft s) (IsImported s number all) (with_rows all s) (λ new. does (record new {
      batches = with_batch (record {
        number = number;
        rows = all;
      }) new.batches;
    }) (batch_line number (codes "KEPT") ∷ []) None)
    (rows_left s (consoles_after all s.board) (policy_after all s.policy))
    (λ t left. (
      left.0,
      record {
        fresh = λ _. ap (with_batch (record { number = number; rows = all })) left.1;
        known = λ kept at. absurd (search (rules, sym is ∙ at));
      },
    ))
batch_left s number all (Some kept) is = go (same_rows kept.rows all)
  where
    go : (same : Bool) → IfDoes (IsImported s number all)
        (if same then does s (batch_line number (codes "AGAIN") ∷ []) None else refused fault.BatchChanged None)
    go true = (refl, record { fresh = λ at. absurd (search (rules, sym is ∙ at)); known = λ _ _. refl })
    go false = tt

import_left : (s : State) (name : List ℕ) (number : ℕ) (all : List Row) → IfDoes (IsImported s number all) (import_outcome s name number all)
import_left s name number all =
    then_left (IsImported s number all) (console_asking s name)
    (λ c. refuse_if fault.NotSpecial None (not (is_special (acting s c))) >>= λ _. batch_outcome s number all
    (batch_of s.batches number))
    (λ c _. then_left (IsImported s number all) (refuse_if fault.NotSpecial None (not (is_special (acting s c))))
    (λ _. batch_outcome s number all (batch_of s.batches number))
    (λ _ _. batch_left s number all (batch_of s.batches number) refl))

-- listings

profiles_left : (s : State) (name : List ℕ) (class : Class) → IfDoes (IsRestLeft s) (profiles_outcome s name class)
profiles_left s name class = then_left (IsRestLeft s) (console_asking s name)
    (λ c. does s (map profile_line (filter (profile_shown s c) (of_class class s.policy.profiles))) None)
    (λ c _. (refl, refl))

account_left : (s : State) (name : List ℕ) (from count : ℕ) → IfDoes (IsRestLeft s) (account_outcome s name from count)
account_left s name from count =
    then_left (IsRestLeft s) (console_asking s name)
    (λ c. refuse_if fault.NotSpecial None (not (account_shown s c)) >>= λ _. does s
    (map account_line (asked_for from count s.account)) None)
    (λ c _. then_left (IsRestLeft s) (refuse_if fault.NotSpecial None (not (account_shown s c)))
    (λ _. does s (map account_line (asked_for from count s.account)) None) (λ _ _. (refl, refl)))

abbrev pub IsLeftBy : State → Input → State → Type 0
IsLeftBy s r t = (t.account ≡ s.account) × AreBatchesLeft s r t

outcome_left : (s : State) (r : Input) → IfDoes (IsLeftBy s r) (outcome s r)
outcome_left s (input.Command name text) = command_left s name text
outcome_left s (input.Admin name o) = admin_left s name o
outcome_left s (input.ListProfiles name class) = profiles_left s name class
outcome_left s (input.ListAccount name from count) = account_left s name from count
outcome_left s (input.Import name batch all) = import_left s name batch all
outcome_left s (input.Event e) = event_left s e

-- the row of a warning

reported_warned : (why : Option Rule) → is_warned why ≡ true → IsWarned why
reported_warned (Some (rule.Profile class pattern held needed warned)) h = h
reported_warned (Some rule.NoProfile) h = search (rules, h)
reported_warned (Some (rule.ConsoleGroup group auth)) h = search (rules, h)
reported_warned (Some rule.LogonRequired) h = search (rules, h)
reported_warned (Some rule.Revoked) h = search (rules, h)
reported_warned None h = search (rules, h)

not_warned : (why : Option Rule) → is_warned why ≡ false → IsWarned why → ⊥
not_warned (Some (rule.Profile class pattern held needed warned)) h is = false≢true (sym h ∙ is)
not_warned (Some rule.NoProfile) h is = is
not_warned (Some (rule.ConsoleGroup group auth)) h is = is
not_warned (Some rule.LogonRequired) h is = is
not_warned (Some rule.Revoked) h is = is
not_warned None h is = is

batches_in : (s : State) (r : Input) (t u : State) → u.batches ≡ t.batches → AreBatchesLeft s r t → AreBatchesLeft s r u
batches_in s (input.Import name number rows) t u same left = record { fresh = λ none. same ∙ left.fresh none; known = λ kept at. same ∙ left.known kept at }
batches_in s (input.Command name text) t u same left = same ∙ left
batches_in s (input.Admin name o) t u same left = same ∙ left
batches_in s (input.ListProfiles name class) t u same left = same ∙ left
batches_in s (input.ListAccount name from count) t u same left = same ∙ left
batches_in s (input.Event e) t u same left = same ∙ left

module _ (s : State) (moment : ℕ) (r : Input) (t : State) (why : Option Rule) (left : IsLeftBy s r t) where
  row_added : (b : Bool) → is_warned why ≡ b → LeavesRest s moment r why (if b then accounted (account_row s moment r (codes "WARN") why) t else t)
  row_added true warned = record {
    account = inl (reported_warned why warned, ap (λ rows. rows ++ account_row s moment r (codes "WARN") why ∷ []) left.0);
    batches = batches_in s r t (accounted (account_row s moment r (codes "WARN") why) t) refl left.1;
  }
  row_added false silent = record { account = inr (not_warned why silent, left.0); batches = left.1 }

pub leaves_rest : WhatIsDoneLeavesRest
leaves_rest s moment r lines why new (inl left) = absurd (not_aborted lines why left.aborts)
leaves_rest s moment r lines why new (inr (inl full)) = absurd (not_aborted lines why (inr full.answers))
leaves_rest s moment r lines why new (inr (inr done)) =
    let d = done_is (outcome s r) lines why done.answers in
    let left : IsLeftBy s r d.0.state = subst (IfDoes (IsLeftBy s r)) d.1 (outcome_left s r) in
    let ends : new ≡ after s moment r (Ok d.0) = done.becomes ∙ ap (after s moment r) d.1 in
    subst (LeavesRest s moment r why) (sym ends)
    (subst (λ w. LeavesRest s moment r w (after s moment r (Ok d.0))) (sym d.3)
    (row_added s moment r d.0.state d.0.rule left (is_warned d.0.rule) refl))

pub asked : RequestsAreAsked
asked (request.Command console text) = refl
asked (request.Admin console op) = refl
asked (request.ListProfiles console class) = refl
asked (request.ListAccount console from count) = refl
asked (request.Import console batch rows) = refl
asked (request.Event e) = refl

pub console_named : RequestsNameTheirConsole
console_named (input.Command name text) = refl
console_named (input.Admin name o) = refl
console_named (input.ListProfiles name class) = refl
console_named (input.ListAccount name from count) = refl
console_named (input.Import name number rows) = refl
console_named (input.Event e) = refl

pub rows_report : AccountRowsSay
rows_report s moment r code why = record { moment = refl; console = refl; code = refl; rule = refl }

-- events

pub events_only : EventsOnlyDoTheirEffect
events_only s moment e lines why new (inl left) = absurd (not_aborted lines why left.aborts)
events_only s moment e lines why new (inr (inl full)) = absurd (not_aborted lines why (inr full.answers))
events_only s moment e lines why new (inr (inr done)) =
    let d = done_is (event_outcome s e) lines why done.answers in
    let m = bind_ok (acted None (event_effect s.board e)) (λ act. does (record s { board = act.board }) [] None) d.0 d.1 in
    let comes : event_outcome s e ≡ does (record s { board = m.0.board }) [] None = d.1 ∙ sym m.2 in (
      m.0,
      record {
        makes = acted_ok None (event_effect s.board e) m.0 m.1;
        answered = done.answers ∙ ap answer_of comes;
        becomes = done.becomes ∙ ap (after s moment (input.Event e)) comes;
      },
    )

pub events_wherever : EventsHappenWhereverPossible
events_wherever s moment e act answer new makes (inl left) = inl left.aborts
events_wherever s moment e act answer new makes (inr (inl full)) = inl (inr full.answers)
events_wherever s moment e act answer new makes (inr (inr done)) =
    let comes : event_outcome s e ≡ does (record s { board = act.board }) [] None =
    ap (λ x. acted None x >>= λ a. does (record s { board = a.board }) [] None) makes in
    inr (record { makes = makes; answered = done.answers ∙ ap answer_of comes; becomes = done.becomes ∙ ap (after s moment (input.Event e)) comes })

pub event_faults : EventFaultsAreAnswered
event_faults s moment e f answer new refuses (inl left) = inl left.aborts
event_faults s moment e f answer new refuses (inr (inl full)) = inl (inr full.answers)
event_faults s moment e f answer new refuses (inr (inr done)) =
    let comes : event_outcome s e ≡ refused (board_fault f) None = ap (λ x. acted None x >>= λ a. does (record s { board = a.board }) [] None) refuses in
    inr (done.answers ∙ ap answer_of comes)
