-- The rule of a refusal, whatever the request.
use Rattle.std.proofs.Common.{
  ◌≡◌,
  inl,
  inr,
  ℕ,
  Bool,
  true,
  false,
  not,
  if◌then◌else◌,
  List,
  [],
  ◌∷◌,
  Option,
  Some,
  None,
  Result,
  Ok,
  Err,
  filter,
  map,
  refl,
  rules,
  subst,
  codes,
}
use Rattle.opc_names.specs.declared.class.Class.{Class}
use Rattle.opc_terms.specs.declared.fault.Fault.{Fault}
use Rattle.opc_terms.specs.declared.fault.Fault.TheVariants as fault
use Rattle.opc_policy_members.specs.declared.row.Row.{Row}
use Rattle.opc_policy_members.specs.declared.row.Row.TheVariants as rows
use Rattle.opc_terms.specs.declared.rule.Rule.{Rule}
use Rattle.opc_terms.specs.declared.rule.Rule.TheVariants as rule
use Rattle.opc_policy_members.specs.Profiles.{of_class}
use Rattle.opc_board.specs.declared.event.Event.{Event}
use Rattle.opc_board.specs.declared.rows.ConsoleRow.{ConsoleRow}
use Rattle.opc_board.specs.Effect.{event_effect}
use Rattle.opc_board.specs.Invariants.{console_at}
use Rattle.opc_board.specs.Outcome.{BoardOutcome}
use Rattle.opc_state.specs.declared.change.Batch.{Batch}
use Rattle.opc_state.specs.Members.{with_batch}
use Rattle.opc_state.specs.State.{State}
use Rattle.opc_state.specs.Loads.{asked_for}
use Rattle.opc_machine.specs.Administration.{admin_outcome, changed, policy_changed, board_changed}
use Rattle.opc_policy_members.specs.Taken.{policy_after}
use Rattle.opc_machine.specs.Bootstrap.{with_rows, consoles_after}
use Rattle.opc_machine.specs.Commands.{acted, console_for, event_outcome}
use Rattle.opc_machine.specs.Imports.{batch_line, batch_of, batch_outcome, import_outcome, same_rows}
use Rattle.opc_machine.specs.Inputs.{Input}
use Rattle.opc_machine.specs.Inputs as input
use Rattle.opc_machine_laws.specs.Laws.{
  AbortsChangeNothing,
  IsDeniedBy,
  IsNamedBy,
  IsOfAuthority,
  IsRefusedByBoard,
  IsShutOut,
  RefusalsNameNoOtherRule,
  RefusalsOfAuthorityNameTheirRule,
}
use Rattle.opc_machine.specs.Listings.{account_line, account_outcome, profile_line, profiles_outcome}
use Rattle.opc_machine.specs.declared.request.Answer.TheVariants.{Refused}
use Rattle.opc_machine.specs.Machine.{IsAborted, answer_of, outcome}
use Rattle.opc_machine.specs.declared.operation.Operation.{Operation}
use Rattle.opc_machine.specs.declared.operation.Operation.TheVariants as operation
use Rattle.opc_machine.specs.declared.outcome.Refusal.{Refusal}
use Rattle.opc_machine.specs.Outcome.{StateOutcome, ◌>>=◌, does, or_refused, refuse_if, refused}
use Rattle.opc_machine.specs.Rights.{
  account_shown,
  console_asking,
  is_special,
  may_change,
  profile_shown,
  right_fault,
  unless_denied,
}
use Rattle.opc_machine.specs.Rulings.{acting, logon_denial}
use Rattle.opc_machine.proofs.Inversion.{console_is, refused_is}
use Rattle.opc_machine_laws.proofs.Plain.{IsPlain, IsPlainIfFault, event_plain, none_of_authority, not_aborted}
use Rattle.opc_machine_laws.proofs.Naming.{
  IfRefused,
  IsReported,
  IsReportedBy,
  then_reported,
  console_reported,
  command_reported,
  board_has_none,
  aborted_has_none,
}
use Rattle.opc_machine_laws.proofs.Denying.{
  IfInTheWay,
  policy_none,
  rows_none,
  with_rows_none,
  right_plain,
  IsLogonRule,
  logon_rule,
}

module _ (s : State) (r : Input) where
  refuse_reported : (f : Fault) (b : Bool) → IsPlain f → IfRefused (IsReported s r) (refuse_if f None b)
  refuse_reported f true none = none
  refuse_reported f false none = tt

  or_reported : {A : Type 0} (x : Result A Fault) → IfInTheWay x → IfRefused (IsReported s r) (or_refused x)
  or_reported (Ok x) none = tt
  or_reported (Err f) none = none

  acted_reported : (a : BoardOutcome) → IsPlainIfFault a → IfRefused (IsReported s r) (acted None a)
  acted_reported (Ok d) plain = tt
  acted_reported (Err f) plain = plain

  module _ (name : List ℕ) (shut_out : (why : Rule) → IsShutOut s name why → IsDeniedBy s r why) where
    asking_reported : IfRefused (IsReported s r) (console_asking s name)
    asking_reported = then_reported (IsReported s r) (console_for s name) (λ c. unless_denied (logon_denial s c) >>= λ _. Ok c) (console_reported s r name)
        (λ c is. then_reported (IsReported s r) (unless_denied (logon_denial s c)) (λ _. Ok c)
        (at_logon c (console_is s name c is) (logon_denial s c) refl (logon_rule s c)) (λ _ _. tt))
      where
        at_logon : (c : ConsoleRow) → (console_at s.board name ≡ Some c) × (c.online ≡ true) → (o : Option Rule)
            → logon_denial s c ≡ o → IsLogonRule o → IfRefused (IsReported s r) (unless_denied o)
        at_logon c at None is proper = tt
        at_logon c at (Some why) is proper = inl (proper, shut_out why (record { console = c; there = at.0; online = at.1; denied = is }))

admin_reported : (s : State) (name : List ℕ) (o : Operation) → IfRefused (IsReported s (input.Admin name o)) (admin_outcome s name o)
admin_reported s name o =
    then_reported P (console_asking s name) (λ c. refuse_if (right_fault o) None (not (may_change s c o)) >>= λ _.
    or_refused (changed s o) >>= λ new. does new [] None)
    (asking_reported s r name (λ why returned. returned))
    (λ c _. then_reported P (refuse_if (right_fault o) None (not (may_change s c o))) (λ _. or_refused (changed s o) >>= λ new. does new [] None)
    (refuse_reported s r (right_fault o) (not (may_change s c o)) (right_plain o))
    (λ _ _. then_reported P (or_refused (changed s o)) (λ new. does new [] None)
    (or_reported s r (changed s o) (with_rows_none s (board_changed o s.board) (policy_changed s.board o s.policy)
    (policy_none s.board o s.policy))) (λ _ _. tt)))
  where
    r : Input
    r = input.Admin name o

    P : Refusal → Type 0
    P = IsReported s r

profiles_reported : (s : State) (name : List ℕ) (class : Class) → IfRefused (IsReported s (input.ListProfiles name class)) (profiles_outcome s name class)
profiles_reported s name class =
    then_reported (IsReported s (input.ListProfiles name class)) (console_asking s name)
    (λ c. does s (map profile_line (filter (profile_shown s c) (of_class class s.policy.profiles))) None)
    (asking_reported s (input.ListProfiles name class) name (λ why returned. returned)) (λ _ _. tt)

account_reported : (s : State) (name : List ℕ) (from count : ℕ)
    → IfRefused (IsReported s (input.ListAccount name from count)) (account_outcome s name from count)
account_reported s name from count =
    then_reported (IsReported s r) (console_asking s name)
    (λ c. refuse_if fault.NotSpecial None (not (account_shown s c)) >>= λ _. does s
    (map account_line (asked_for from count s.account)) None)
    (asking_reported s r name (λ why returned. returned))
    (λ c _. then_reported (IsReported s r) (refuse_if fault.NotSpecial None (not (account_shown s c)))
    (λ _. does s (map account_line (asked_for from count s.account)) None)
    (refuse_reported s r fault.NotSpecial (not (account_shown s c)) tt) (λ _ _. tt))
  where
    r : Input
    r = input.ListAccount name from count

import_reported : (s : State) (name : List ℕ) (number : ℕ) (all : List Row)
    → IfRefused (IsReported s (input.Import name number all)) (import_outcome s name number all)
import_reported s name number all =
    then_reported (IsReported s r) (console_asking s name)
    (λ c. refuse_if fault.NotSpecial None (not (is_special (acting s c))) >>= λ _. batch_outcome s number all
    (batch_of s.batches number))
    (asking_reported s r name (λ why returned. returned))
    (λ c _. then_reported (IsReported s r) (refuse_if fault.NotSpecial None (not (is_special (acting s c))))
    (λ _. batch_outcome s number all (batch_of s.batches number))
    (refuse_reported s r fault.NotSpecial (not (is_special (acting s c))) tt) (λ _ _. batch_reported (batch_of s.batches number)))
  where
    r : Input
    r = input.Import name number all

    again : (same : Bool) → IfRefused (IsReported s r) (if same then does s (batch_line number (codes "AGAIN") ∷ []) None else refused fault.BatchChanged None)
    again true = tt
    again false = tt

    batch_reported : (kept : Option Batch) → IfRefused (IsReported s r) (batch_outcome s number all kept)
    batch_reported None = then_reported (IsReported s r) (or_refused (with_rows all s)) (λ new. does (record new {
      batches = with_batch (record {
        number = number;
        rows = all;
      }) new.batches;
    }) (batch_line number (codes "KEPT") ∷ []) None)
        (or_reported s r (with_rows all s) (with_rows_none s (consoles_after all s.board) (policy_after all s.policy) (rows_none all s.policy))) (λ _ _. tt)
    batch_reported (Some kept) = again (same_rows kept.rows all)

event_reported : (s : State) (e : Event) → IfRefused (IsReported s (input.Event e)) (event_outcome s e)
event_reported s e = then_reported (IsReported s (input.Event e)) (acted None (event_effect s.board e))
    (λ act. does (record s { board = act.board }) [] None)
    (acted_reported s (input.Event e) (event_effect s.board e) (event_plain s.board e)) (λ _ _. tt)

outcome_reported : (s : State) (r : Input) → IfRefused (IsReported s r) (outcome s r)
outcome_reported s (input.Command name text) = command_reported s name text
outcome_reported s (input.Admin name o) = admin_reported s name o
outcome_reported s (input.ListProfiles name class) = profiles_reported s name class
outcome_reported s (input.ListAccount name from count) = account_reported s name from count
outcome_reported s (input.Import name batch all) = import_reported s name batch all
outcome_reported s (input.Event e) = event_reported s e

-- and the same for what is refused in the end
pub reported_of : (s : State) (r : Input) (f : Fault) (why : Option Rule) → Refused f why ≡ answer_of (outcome s r) → IsReportedBy s r f why
reported_of s r f why answers = let P : StateOutcome → Type 0 = IfRefused (IsReported s r)
    in subst P (refused_is (outcome s r) f why answers) (outcome_reported s r)

-- what the board refuses is not a refusal for lack of authority
by_board : (s : State) (r : Input) (f : Fault) (why : Rule) → IsRefusedByBoard s r f why → IsOfAuthority f → ⊥
by_board s (input.Command name text) f why way authority = board_has_none way.refused (subst IsOfAuthority way.returned authority)
by_board s (input.Admin name operation) f why way authority = way
by_board s (input.ListProfiles name class) f why way authority = way
by_board s (input.ListAccount name from count) f why way authority = way
by_board s (input.Import name batch all) f why way authority = way
by_board s (input.Event e) f why way authority = way

pub rules_named : RefusalsOfAuthorityNameTheirRule
rules_named s moment r f why new authority (inl left) = absurd (aborted_has_none f why left.aborts authority)
rules_named s moment r f why new authority (inr (inl full)) = absurd (aborted_has_none f why (inr full.answers) authority)
rules_named s moment r f why new authority (inr (inr done)) = go why (reported_of s r f why done.answers)
  where
    go : (o : Option Rule) → IsReportedBy s r f o → (because : Rule) × (o ≡ Some because) × IsNamedBy f because × IsDeniedBy s r because
    go None plain = absurd (none_of_authority f plain authority)
    go (Some because) (inl returned) = (because, refl, returned.0, returned.1)
    go (Some because) (inr way) = absurd (by_board s r f because way authority)

-- what is aborted names no rule
named_none : (f : Fault) (why : Rule) → IsAborted (Refused f (Some why)) → ⊥
named_none f why (inl h) = search (rules, h)
named_none f why (inr h) = search (rules, h)

pub no_other_named : RefusalsNameNoOtherRule
no_other_named s moment r f why new (inl left) = absurd (named_none f why left.aborts)
no_other_named s moment r f why new (inr (inl full)) = absurd (named_none f why (inr full.answers))
no_other_named s moment r f why new (inr (inr done)) = reported_of s r f (Some why) done.answers

pub aborted_left : AbortsChangeNothing
aborted_left s moment r f why new given (inl left) = left.same
aborted_left s moment r f why new given (inr (inl full)) = full.same
aborted_left s moment r f why new given (inr (inr done)) = absurd (go why (reported_of s r f why done.answers) given)
  where
    go : (o : Option Rule) → IsReportedBy s r f o → IsAborted (Refused f o) → ⊥
    go None plain aborts = not_aborted f plain aborts
    go (Some because) returned aborts = named_none f because aborts
