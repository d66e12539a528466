-- What requests leave of a policy file that may not change it.
use Rattle.std.proofs.Common.{◌≡◌, ◌∙◌, ◌++◌, ℕ, Bool, true, false, [], List, Option, Some, None, Ok, Err, ap, inl, inr, not, refl, sym}
use Rattle.std.specs.Prelude.{Result, codes, filter, if◌then◌else◌, map}
use Rattle.std.specs.List.{flat_map}
use Rattle.std.specs.Option.{is_none}
use Rattle.opc_names.specs.declared.class.Class.{Class}
use Rattle.opc_terms.specs.declared.fault.Fault.TheVariants as fault
use Rattle.opc_terms.specs.declared.need.Need.{Need}
use Rattle.opc_terms.specs.declared.rule.Rule.{Rule}
use Rattle.opc_policy_members.specs.Profiles.{of_class}
use Rattle.opc_reader_commands.specs.declared.command.Command.{Command}
use Rattle.opc_reader_commands.specs.declared.command.Command.TheVariants as command
use Rattle.opc_reader.specs.Reading.{reading}
use Rattle.opc_reader.specs.declared.line.ReadFault.{ReadFault}
use Rattle.opc_board.specs.declared.event.Event.{Event}
use Rattle.opc_board.specs.declared.line.Line.{Line}
use Rattle.opc_board.specs.declared.rows.ConsoleRow.{ConsoleRow}
use Rattle.opc_board.specs.Consoles.{logged_off, logged_on}
use Rattle.opc_board.specs.Effect.{effect, event_effect}
use Rattle.opc_board.specs.Invariants.{is}
use Rattle.opc_board.specs.Outcome.{BoardOutcome, Done as BoardDone}
use Rattle.opc_state.specs.Loads.{asked_for}
use Rattle.opc_state.specs.PolicyFile.{rows_of, row_of_connect, row_of_group, row_of_profile, row_of_user, rows_of_classes, permits_of}
use Rattle.opc_state.specs.State.{State}
use Rattle.opc_machine.specs.Commands.{
  acted,
  admit,
  allowed,
  board_command,
  command_in,
  command_or,
  command_outcome,
  console_for,
  event_outcome,
  known_by,
  logoff,
  logon,
  need_of,
  nobody_on,
  typed,
  without_need,
}
use Rattle.opc_machine.specs.Inputs.{input_of}
use Rattle.opc_machine.specs.Listings.{account_line, account_outcome, profile_line, profiles_outcome}
use Rattle.opc_machine.specs.Machine.{account_row, accounted, after, answer_of, is_warned, outcome}
use Rattle.opc_machine.specs.Outcome.{StateOutcome, ◌>>=◌, does, found, refuse_if}
use Rattle.opc_machine.specs.Rights.{account_shown, console_asking, profile_shown}
use Rattle.opc_machine.specs.Rulings.{logon_ruling, ruling, shown}
use Rattle.opc_machine.specs.declared.outcome.Refusal.{Refusal}
use Rattle.opc_machine.specs.declared.request.Answer.{Answer}
use Rattle.opc_machine.specs.declared.request.Request.{Request}
use Rattle.opc_machine.specs.declared.request.Request.TheVariants as request
use Rattle.opc_policy_changes.specs.Changing.{gives_authority, may_change, may_edit}
use Rattle.opc_policy_changes.specs.Laws.{OthersLeaveThePolicyFile, rows_in}
use Rattle.opc_policy_changes.proofs.Boards.{IfLeft, changed_leaves, effect_leaves, event_leaves, seen}

module _ (s : State) where
  abbrev IfDoes : StateOutcome → Type 0
  IfDoes (Ok effect) = rows_in effect.state ≡ rows_in s
  IfDoes (Err refusal) = Unit {0}

  -- the rows of a policy file depend on those of the consoles
  with_rows : (b : List ConsoleRow) → seen b ≡ seen s.board.consoles → rows_of s.policy b ≡ rows_of s.policy s.board.consoles
  with_rows b same = ap (λ consoles. rows_of_classes s.policy.active
      ++ map row_of_group s.policy.groups
      ++ map row_of_user s.policy.users
      ++ map row_of_connect s.policy.connects
      ++ consoles
      ++ map row_of_profile s.policy.profiles
      ++ flat_map permits_of s.policy.profiles) same

  then_left : {A : Type 0} (x : Result A Refusal) (f : A → StateOutcome) → ((y : A) → x ≡ Ok y → IfDoes (f y)) → IfDoes (x >>= f)
  then_left (Ok y) f h = h y refl
  then_left (Err d) f h = tt

  acted_left : (why : Option Rule) (o : BoardOutcome) (lines : BoardDone → List Line) → IfLeft s.board o
      → IfDoes (acted why o >>= λ act. does (record s { board = act.board }) (lines act) why)
  acted_left why (Ok d) lines left = with_rows d.board.consoles left
  acted_left why (Err f) lines left = tt

  board_command_left : (c : ConsoleRow) (k : Command) (need : Need) → gives_authority (Ok k) ≡ false → IfDoes (board_command s c k need)
  board_command_left c k need other =
      then_left (allowed (ruling s c need))
      (λ why. acted (Some why) (effect s.board k c.name) >>= λ act. does (record s { board = act.board })
      (filter (shown s c) act.lines) (Some why))
      (λ why is. acted_left (Some why) (effect s.board k c.name) (λ act. filter (shown s c) act.lines)
      (effect_leaves s.board k c.name other))

  logon_left : (c : ConsoleRow) (id password : List ℕ) → IfDoes (logon s c id password)
  logon_left c id password =
      then_left (nobody_on c.user) (λ _. found fault.BadLogon (known_by s id password) >>= λ user. admit
      (logon_ruling s c user) >>= λ why. does (record s { board = logged_on c.name id s.board }) [] (Some why))
      (λ _ _. then_left (found fault.BadLogon (known_by s id password))
      (λ user. admit (logon_ruling s c user) >>= λ why. does (record s { board = logged_on c.name id s.board }) []
      (Some why))
      (λ user at. then_left (admit (logon_ruling s c user)) (λ why. does (record s { board = logged_on c.name id s.board }) [] (Some why))
      (λ why _. with_rows _ (changed_leaves (λ d. is d.name c.name) (λ d. record d { user = Some id }) s.board.consoles (λ d. refl)))))

  logoff_left : (c : ConsoleRow) → IfDoes (logoff s c)
  logoff_left c =
      then_left (refuse_if fault.NotOn None (is_none c.user)) (λ _. does (record s { board = logged_off c.name s.board }) [] None)
      (λ _ _. with_rows _ (changed_leaves (λ d. is d.name c.name) (λ d. record d { user = None }) s.board.consoles (λ d. refl)))

  no_need_left : (c : ConsoleRow) (k : Command) → IfDoes (without_need s c k)
  no_need_left c (command.Logon id password) = logon_left c id.value password.value
  no_need_left c command.Logoff = logoff_left c
  no_need_left c other = refl

  typed_left : (c : ConsoleRow) (k : Command) (need : Option Need) → gives_authority (Ok k) ≡ false → IfDoes (typed s c k need)
  typed_left c k (Some need) other = board_command_left c k need other
  typed_left c k None other = no_need_left c k

  read_left : (c : ConsoleRow) (r : Result Command ReadFault) → gives_authority r ≡ false
      → IfDoes (command_or r >>= λ k. typed s c k (need_of s.board k))
  read_left c (Ok k) other = typed_left c k (need_of s.board k) other
  read_left c (Err f) other = tt

  command_left : (name text : List ℕ) → gives_authority (reading text) ≡ false → IfDoes (command_outcome s name text)
  command_left name text other =
      then_left (console_for s name) (λ c. command_in text >>= λ k. typed s c k (need_of s.board k))
      (λ c _. read_left c (reading text) other)

  event_left : (e : Event) → IfDoes (event_outcome s e)
  event_left e = acted_left None (event_effect s.board e) (λ act. []) (event_leaves s.board e)

  profiles_left : (name : List ℕ) (class : Class) → IfDoes (profiles_outcome s name class)
  profiles_left name class = then_left (console_asking s name)
      (λ c. does s (map profile_line (filter (profile_shown s c) (of_class class s.policy.profiles))) None) (λ c _. refl)

  account_left : (name : List ℕ) (from count : ℕ) → IfDoes (account_outcome s name from count)
  account_left name from count =
      then_left (console_asking s name) (λ c. refuse_if fault.NotSpecial None (not (account_shown s c)) >>= λ _. does s
      (map account_line (asked_for from count s.account)) None)
      (λ c _. then_left (refuse_if fault.NotSpecial None (not (account_shown s c)))
      (λ _. does s (map account_line (asked_for from count s.account)) None) (λ _ _. refl))

  outcome_left : (r : Request) → may_edit r ≡ false → IfDoes (outcome s (input_of r))
  outcome_left (request.Command name text) other = command_left name text other
  outcome_left (request.Admin name operation) other = absurd (cc)
  outcome_left (request.ListProfiles name class) other = profiles_left name class
  outcome_left (request.ListAccount name from count) other = account_left name from count
  outcome_left (request.Import name batch rows) other = absurd (cc)
  outcome_left (request.Event e) other = event_left e

  after_left : (moment : ℕ) (r : Request) (o : StateOutcome) (answer : Answer) → answer ≡ answer_of o → may_change r answer ≡ false
      → (may_edit r ≡ false → IfDoes o) → rows_in (after s moment (input_of r) o) ≡ rows_in s
  after_left moment r (Ok effect) answer answers other left = go (is_warned effect.rule)
    where
      go : (b : Bool) → rows_in (if b then accounted (account_row s moment (input_of r) (codes "WARN") effect.rule) effect.state else effect.state)
          ≡ rows_in s
      go true = left (sym (ap (may_change r) answers) ∙ other)
      go false = left (sym (ap (may_change r) answers) ∙ other)
  after_left moment r (Err refusal) answer answers other left = refl

pub others_leave : OthersLeaveThePolicyFile
others_leave s new moment r answer (inl left) other = ap rows_in left.same
others_leave s new moment r answer (inr (inl full)) other = ap rows_in full.same
others_leave s new moment r answer (inr (inr done)) other =
    ap rows_in done.becomes ∙ after_left s moment r (outcome s (input_of r)) answer done.answers other (outcome_left s r)
