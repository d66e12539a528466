-- Which fault is answered.
use Rattle.std.proofs.Common.{
  ◌≡◌,
  inl,
  inr,
  ℕ,
  Bool,
  true,
  false,
  not,
  if◌then◌else◌,
  List,
  [],
  ◌∷◌,
  Some,
  None,
  Ok,
  Err,
  filter,
  map,
  refl,
  rules,
  sym,
  ap,
  ◌∙◌,
  codes,
}
use Rattle.std.specs.Option.{is_none}
use Rattle.opc_terms.specs.declared.fault.Fault.{Fault}
use Rattle.opc_terms.specs.declared.fault.Fault.TheVariants as fault
use Rattle.opc_policy_members.specs.Profiles.{of_class}
use Rattle.opc_reader_commands.specs.declared.command.Command.TheVariants as command
use Rattle.opc_reader.proofs.Exact.{fault_so}
use Rattle.opc_board.specs.Consoles.{logged_off, logged_on}
use Rattle.opc_board.specs.Invariants.{console_at}
use Rattle.opc_state.specs.Loads.{asked_for}
use Rattle.opc_state.specs.Members.{with_batch}
use Rattle.opc_state.specs.State.{State}
use Rattle.opc_machine.specs.declared.operation.Operation.{Operation}
use Rattle.opc_machine.specs.declared.operation.Operation.TheVariants as operation
use Rattle.opc_machine.specs.Administration.{admin_outcome, changed}
use Rattle.opc_machine.specs.Commands.{command_in, command_or, console_for, known_by, admit, need_of, nobody_on, typed}
use Rattle.opc_machine.specs.Faults.{line_fault}
use Rattle.opc_machine.specs.Imports.{batch_line, batch_of, batch_outcome, import_outcome, same_rows}
use Rattle.opc_machine.specs.Inputs.{Input, console_of}
use Rattle.opc_machine.specs.Inputs as input
use Rattle.opc_machine.specs.Listings.{account_line, account_outcome, profile_line}
use Rattle.opc_machine.specs.Machine.{answer_of, outcome}
use Rattle.opc_machine.specs.declared.outcome.Refusal.{Refusal}
use Rattle.opc_machine.specs.Outcome.{StateOutcome, ◌>>=◌, does, found, or_refused, refuse_if, refused}
use Rattle.opc_machine.specs.Rights.{account_shown, console_asking, is_special, may_change, profile_shown, right_fault, unless_denied}
use Rattle.opc_machine.specs.Rulings.{acting, logon_denial, logon_ruling}
use Rattle.opc_machine_laws.specs.FaultLaws.{
  AdministrationFaultsAreAnswered,
  BadLinesAreAnswered,
  ChangedBatchesAreAnswered,
  ImportFaultsAreAnswered,
  IsRefusedBy,
  LogonFaultsAreAnswered,
  MissingConsolesAreAnswered,
  MissingRightsAreAnswered,
  OfflineConsolesAreAnswered,
  missing_right,
}
use Rattle.opc_machine_laws.specs.RightLaws.{changed_profile}
use Rattle.opc_machine_laws.proofs.Acting.{console_back}
use Rattle.opc_machine_laws.proofs.Answering.{heard_so}
use Rattle.opc_machine_laws.proofs.Changing.{asking_back, import_right}
use Rattle.opc_machine_laws.proofs.Knowing.{unknown}
use Rattle.opc_machine.proofs.SameBatches.{same_are_equal}

-- what ends in a refusal is answered by it
abbrev refusal : Fault → StateOutcome
refusal f = refused f None

answered : (s : State) (r : Input) (f : Fault) → outcome s r ≡ refusal f → IsRefusedBy s r f
answered s r f comes moment answer new (inl left) = inl left.aborts
answered s r f comes moment answer new (inr (inl full)) = inl (inr full.answers)
answered s r f comes moment answer new (inr (inr done)) = inr (done.answers ∙ ap answer_of comes)

-- consoles

asking_refused : (s : State) (name : List ℕ) (d : Refusal) → console_for s name ≡ Err d → console_asking s name ≡ Err d
asking_refused s name d h = ap (λ x. x >>= λ c. unless_denied (logon_denial s c) >>= λ _. Ok c) h

-- whatever the request at a console that is not there
first_refused : (s : State) (r : Input) (name : List ℕ) (d : Refusal) → console_of r ≡ Some name → console_for s name ≡ Err d → outcome s r ≡ Err d
first_refused s (input.Command n text) name d names h =
    let at : n ≡ name = search (rules, names) in
    ap (λ x. x >>= λ c. command_in text >>= λ k. typed s c k (need_of s.board k)) (ap (console_for s) at ∙ h)
first_refused s (input.Admin n o) name d names h =
    let at : n ≡ name = search (rules, names) in
    ap (λ x. x >>= λ c. refuse_if (right_fault o) None (not (may_change s c o)) >>= λ _. or_refused (changed s o) >>=
    λ t. does t [] None) (asking_refused s n d (ap (console_for s) at ∙ h))
first_refused s (input.ListProfiles n class) name d names h =
    let at : n ≡ name = search (rules, names) in
    ap (λ x. x >>= λ c. does s (map profile_line (filter (profile_shown s c) (of_class class s.policy.profiles))) None)
    (asking_refused s n d (ap (console_for s) at ∙ h))
first_refused s (input.ListAccount n from count) name d names h =
    let at : n ≡ name = search (rules, names) in
    ap (λ x. x >>= λ c. refuse_if fault.NotSpecial None (not (account_shown s c)) >>= λ _. does s
    (map account_line (asked_for from count s.account)) None) (asking_refused s n d (ap (console_for s) at ∙ h))
first_refused s (input.Import n number all) name d names h =
    let at : n ≡ name = search (rules, names) in
    ap (λ x. x >>= λ c. refuse_if fault.NotSpecial None (not (is_special (acting s c))) >>= λ _. batch_outcome s number
    all (batch_of s.batches number)) (asking_refused s n d (ap (console_for s) at ∙ h))
first_refused s (input.Event e) name d names h = absurd (search (rules, names))

pub missing_console : MissingConsolesAreAnswered
missing_console s r name names none =
    answered s r fault.NoConsole (first_refused s r name (record { fault = fault.NoConsole; rule = None }) names
    (ap (λ o. found fault.NoConsole o >>= λ c. refuse_if fault.ConsoleOffline None (not c.online) >>= λ _. Ok c) none))

pub offline_console : OfflineConsolesAreAnswered
offline_console s r name c names there off =
    answered s r fault.ConsoleOffline (first_refused s r name (record { fault = fault.ConsoleOffline; rule = None }) names
    (ap (λ o. found fault.NoConsole o >>= λ d. refuse_if fault.ConsoleOffline None (not d.online) >>= λ _. Ok d) there
    ∙ ap (λ b. refuse_if fault.ConsoleOffline None (not b) >>= λ _. Ok c) off))

-- lines

pub bad_line : BadLinesAreAnswered
bad_line s name text c bad there online is =
    answered s (input.Command name text) (line_fault bad)
    (ap (λ x. x >>= λ d. command_in text >>= λ k. typed s d k (need_of s.board k)) (console_back (console_at s.board name) c there online)
    ∙ ap (λ x. command_or x >>= λ k. typed s c k (need_of s.board k)) (fault_so text bad is))

pub logon_faults : LogonFaultsAreAnswered
logon_faults s name text c (fault.AlreadyOn user) (id, password, heard, on) =
    answered s (input.Command name text) (fault.AlreadyOn user)
    (heard_so s name text c (command.Logon id password) heard
    ∙ ap (λ x. nobody_on x >>= λ _. found fault.BadLogon (known_by s id.value password.value) >>= λ u. admit
    (logon_ruling s c u) >>= λ w. does (record s { board = logged_on c.name id.value s.board }) [] (Some w)) on)
logon_faults s name text c fault.BadLogon (id, password, heard, nobody, none) =
    answered s (input.Command name text) fault.BadLogon
    (heard_so s name text c (command.Logon id password) heard
    ∙ ap (λ x. nobody_on x >>= λ _. found fault.BadLogon (known_by s id.value password.value) >>= λ u. admit
    (logon_ruling s c u) >>= λ w. does (record s { board = logged_on c.name id.value s.board }) [] (Some w)) nobody
    ∙ ap (λ x. found fault.BadLogon x >>= λ u. admit (logon_ruling s c u) >>= λ w. does
    (record s { board = logged_on c.name id.value s.board }) [] (Some w)) (unknown s id.value password.value none))
logon_faults s name text c fault.NotOn (heard, nobody) =
    answered s (input.Command name text) fault.NotOn
    (heard_so s name text c command.Logoff heard
    ∙ ap (λ u. refuse_if fault.NotOn None (is_none u) >>= λ _. does (record s { board = logged_off c.name s.board }) [] None) nobody)
logon_faults s name text c other none = absurd none

-- rights

right_reported : (o : Operation) → right_fault o ≡ missing_right (changed_profile o)
right_reported (operation.RAlter class pattern owner uacc warning) = refl
right_reported (operation.RDelete class pattern) = refl
right_reported (operation.Permit class pattern id level when) = refl
right_reported (operation.PermitDelete class pattern id when) = refl
right_reported o = refl

pub missing_rights : MissingRightsAreAnswered
missing_rights s (input.Admin name o) c returned (asks, lacks, is) =
    let comes : admin_outcome s name o ≡ refusal (right_fault o) =
    ap (λ x. x >>= λ d. refuse_if (right_fault o) None (not (may_change s d o)) >>= λ _. or_refused (changed s o) >>=
    λ t. does t [] None) (asking_back s name c asks)
    ∙ ap (λ b. refuse_if (right_fault o) None (not b) >>= λ _. or_refused (changed s o) >>= λ t. does t [] None) lacks in
    answered s (input.Admin name o) returned (comes ∙ ap refusal (right_reported o ∙ sym is))
missing_rights s (input.ListAccount name from count) c returned (asks, lacks, is) =
    let comes : account_outcome s name from count ≡ refusal fault.NotSpecial =
    ap (λ x. x >>= λ d. refuse_if fault.NotSpecial None (not (account_shown s d)) >>= λ _. does s
    (map account_line (asked_for from count s.account)) None) (asking_back s name c asks)
    ∙ ap (λ b. refuse_if fault.NotSpecial None (not b) >>= λ _. does s (map account_line (asked_for from count s.account)) None) lacks in
    answered s (input.ListAccount name from count) returned (comes ∙ ap refusal (sym is))
missing_rights s (input.Import name number all) c returned (asks, lacks, is) =
    let comes : import_outcome s name number all ≡ refusal fault.NotSpecial =
    ap (λ x. x >>= λ d. refuse_if fault.NotSpecial None (not (is_special (acting s d))) >>= λ _. batch_outcome s number
    all (batch_of s.batches number)) (asking_back s name c asks)
    ∙ ap (λ b. refuse_if fault.NotSpecial None (not b) >>= λ _. batch_outcome s number all (batch_of s.batches number)) lacks in
    answered s (input.Import name number all) returned (comes ∙ ap refusal (sym is))
missing_rights s other c returned none = absurd none

-- what is in the way

pub administration_faults : AdministrationFaultsAreAnswered
administration_faults s name o c f asks may is =
    answered s (input.Admin name o) f
    (ap (λ x. x >>= λ d. refuse_if (right_fault o) None (not (may_change s d o)) >>= λ _. or_refused (changed s o) >>=
    λ t. does t [] None) (asking_back s name c asks)
    ∙ ap (λ b. refuse_if (right_fault o) None (not b) >>= λ _. or_refused (changed s o) >>= λ t. does t [] None) may
    ∙ ap (λ x. or_refused x >>= λ t. does t [] None) is)

pub import_faults : ImportFaultsAreAnswered
import_faults s name number all c f asks may new is =
    answered s (input.Import name number all) f
    (import_right s name number all c asks may
    ∙ ap (batch_outcome s number all) new
    ∙ ap (λ x. or_refused x >>= λ t. does (record t {
      batches = with_batch (record {
        number = number;
        rows = all;
      }) t.batches;
    }) (batch_line number (codes "KEPT") ∷ []) None) is)

pub changed_batches : ChangedBatchesAreAnswered
changed_batches s name number all c kept asks may is others =
    answered s (input.Import name number all) fault.BatchChanged
    (import_right s name number all c asks may
    ∙ ap (batch_outcome s number all) is
    ∙ ap (λ b. if b then does s (batch_line number (codes "AGAIN") ∷ []) None else refused fault.BatchChanged None) (go (same_rows kept.rows all) refl))
  where
    go : (b : Bool) → same_rows kept.rows all ≡ b → same_rows kept.rows all ≡ false
    go true h = absurd (others ((same_are_equal kept.rows all).0 h))
    go false h = h
