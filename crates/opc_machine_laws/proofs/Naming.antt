-- Refusals for lack of authority name their rule.
use Rattle.std.proofs.Common.{
  ◌≡◌,
  ◌⊎◌,
  inl,
  inr,
  ℕ,
  Bool,
  true,
  false,
  not,
  ◌||◌,
  ◌&&◌,
  if◌then◌else◌,
  List,
  [],
  Option,
  Some,
  None,
  IfSome,
  Result,
  Ok,
  Err,
  filter,
  refl,
  subst,
  rules,
}
use Rattle.std.specs.Option.{is_none}
use Rattle.opc_names.specs.Authority.{includes, enters}
use Rattle.opc_names.specs.declared.auth.Auth.{Auth}
use Rattle.opc_names.specs.declared.class.Class.TheVariants.{Opercmds, Console}
use Rattle.opc_names.specs.declared.level.Level.{Level}
use Rattle.opc_names.specs.declared.level.Level.TheVariants.{Read}
use Rattle.opc_terms.specs.declared.fault.Fault.{Fault}
use Rattle.opc_terms.specs.declared.fault.Fault.TheVariants as fault
use Rattle.opc_terms.specs.declared.need.Need.{Need}
use Rattle.opc_policy_members.specs.declared.profile.Profile.{Profile}
use Rattle.opc_terms.specs.declared.rule.Rule.{Rule}
use Rattle.opc_terms.specs.declared.rule.Rule.TheVariants as rule
use Rattle.opc_policy.specs.declared.ruling.Ruling.{Ruling}
use Rattle.opc_policy.specs.declared.ruling.Ruling.TheVariants.{Allowed, Denied}
use Rattle.opc_policy_members.specs.declared.user.User.{User}
use Rattle.opc_policy.specs.declared.verdict.Verdict.TheVariants as verdicts
use Rattle.opc_policy_members.specs.Held.{held}
use Rattle.opc_policy_members.specs.Members.{groups_of}
use Rattle.opc_policy.specs.Rulings.{verdict, verdict_rule, profile_rule, by_verdict, console_ruling, ruling as policy_ruling}
use Rattle.opc_policy_members.specs.Taken.{is_active}
use Rattle.opc_reader_commands.specs.declared.command.Command.{Command}
use Rattle.opc_reader_commands.specs.declared.command.Command.TheVariants as command
use Rattle.opc_reader_commands.specs.declared.command.Operand.{Operand}
use Rattle.opc_reader.specs.declared.line.ReadFault.{ReadFault}
use Rattle.opc_reader.specs.declared.line.ReadFault.TheVariants as line
use Rattle.opc_reader.specs.Reading.{reading}
use Rattle.opc_reader.proofs.Exact.{so_reads}
use Rattle.opc_board.specs.declared.fault.BoardFault.{BoardFault}
use Rattle.opc_board.specs.declared.fault.BoardFault.TheVariants as board
use Rattle.opc_board.specs.declared.rows.ConsoleRow.{ConsoleRow}
use Rattle.opc_board.specs.Consoles.{logged_on, logged_off}
use Rattle.opc_board.specs.Effect.{effect}
use Rattle.opc_board.specs.Invariants.{console_at}
use Rattle.opc_board.specs.Outcome.{BoardOutcome}
use Rattle.opc_state.specs.State.{State, deciding_in}
use Rattle.opc_machine.specs.declared.request.Answer.TheVariants.{Refused}
use Rattle.opc_machine.specs.Faults.{line_fault, board_fault}
use Rattle.opc_machine.specs.declared.outcome.Refusal.{Refusal}
use Rattle.opc_machine.specs.Outcome.{◌>>=◌, does, found, refuse_if}
use Rattle.opc_machine.specs.Rulings.{acting, groups_acting, is_required, is_revoked, access_ruling, denied_or, ruling, console_access, logon_ruling, shown}
use Rattle.opc_machine.specs.Commands.{
  console_for,
  command_or,
  command_in,
  need_of,
  denial_fault,
  allowed,
  acted,
  board_command,
  nobody_on,
  known_by,
  logon_fault,
  admit,
  logon,
  logoff,
  without_need,
  typed,
  command_outcome,
}
use Rattle.opc_machine.specs.Machine.{IsAborted}
use Rattle.opc_machine.specs.Inputs.{Input}
use Rattle.opc_machine.specs.Inputs as input
use Rattle.opc_machine_laws.specs.Laws.{IsAllowed, IsHeard, IsOfAuthority, IsNamedBy, IsDeniedBy, IsRefusedByBoard}
use Rattle.opc_machine_laws.proofs.Knowing.{known_is}
use Rattle.opc_machine_laws.proofs.Logging.{nobody_ok}
use Rattle.opc_machine_laws.proofs.Plain.{IsPlain}
use Rattle.opc_machine_laws.proofs.Reasons.{decides_in_class}
use Rattle.opc_machine.proofs.Inversion.{allowed_ok, console_is, command_is, found_ok}

-- A rule that a refusal names denies, or allowed what the board refused; one that names none is neither about authority
-- nor aborted.
abbrev pub IsReportedBy : State → Input → Fault → Option Rule → Type 0
IsReportedBy s r f None = IsPlain f
IsReportedBy s r f (Some why) = (IsNamedBy f why × IsDeniedBy s r why) ⊎ IsRefusedByBoard s r f why

abbrev pub IsReported : State → Input → Refusal → Type 0
IsReported s r d = IsReportedBy s r d.fault d.rule

abbrev pub IfRefused : {A : Type 0} → (Refusal → Type 0) → Result A Refusal → Type 0
IfRefused P (Ok x) = Unit {0}
IfRefused P (Err d) = P d

pub then_reported : {A B : Type 0} (P : Refusal → Type 0) (x : Result A Refusal) (f : A → Result B Refusal) → IfRefused P x
    → ((y : A) → x ≡ Ok y → IfRefused P (f y)) → IfRefused P (x >>= f)
then_reported P (Ok y) f h g = g y refl
then_reported P (Err d) f h g = h

line_plain : (f : ReadFault) → IsPlain (line_fault f)
line_plain line.Empty = tt
line_plain line.TooLong = tt
line_plain (line.BadCharacter at) = tt
line_plain (line.UnknownVerb span) = tt
line_plain (line.BadOperand span) = tt
line_plain (line.OpenQuote at) = tt

pub board_has_none : (f : BoardFault) → IsOfAuthority (board_fault f) → ⊥
board_has_none board.NoUnit h = h
board_has_none board.NonCancelable h = h
board_has_none board.Cancelable h = h
board_has_none board.UnitExists h = h
board_has_none board.NoDevice h = h
board_has_none board.DeviceState h = h
board_has_none board.DeviceInUse h = h
board_has_none board.NoVolume h = h
board_has_none board.NoReply h = h
board_has_none board.NoTarget h = h
board_has_none board.Halted h = h
board_has_none board.LastMaster h = h
board_has_none board.WrongKind h = h
board_has_none board.ReplyExists h = h
board_has_none board.NoMemory h = h

-- a ruling that denies names a rule of the kind that its fault requires
abbrev pub IsProper : (Rule → Fault) → Ruling → Type 0
IsProper fault_of (Allowed rule) = Unit {0}
IsProper fault_of (Denied rule) = IsNamedBy (fault_of rule) rule

by_console_proper : (auth : Auth) (need : Need) → IsProper denial_fault (console_ruling auth need)
by_console_proper auth need = go (enters auth need.group)
  where
    go : (b : Bool) → IsProper denial_fault (if b then Allowed (rule.ConsoleGroup need.group auth) else Denied (rule.ConsoleGroup need.group auth))
    go true = tt
    go false = tt

by_policy_proper : (active : Bool) (decided : Option Profile) → IfSome decided (λ p. p.class ≡ Opercmds)
    → (user : Option User) (console : Option (List ℕ)) (groups : List (List ℕ)) (auth : Auth) (need : Need)
    → IsProper denial_fault (policy_ruling active decided user console groups auth need)
by_policy_proper active decided of None console groups auth need = by_console_proper auth need
by_policy_proper false decided of (Some user) console groups auth need = by_console_proper auth need
by_policy_proper true None of (Some user) console groups auth need = by_console_proper auth need
by_policy_proper true (Some p) of (Some user) console groups auth need = go (includes (held p user console groups) need.level || p.warning)
  where
    go : (b : Bool) → IsProper denial_fault
        (by_verdict (if b then verdicts.Allowed else verdicts.Denied) (profile_rule p user console groups need.level)
        (console_ruling auth need))
    go true = tt
    go false = of

pub ruling_proper : (s : State) (c : ConsoleRow) (need : Need) → IsProper denial_fault (ruling s c need)
ruling_proper s c need = go (is_required c.mode) (is_none c.user) (is_revoked (acting s c))
  where
    other : IsProper denial_fault (access_ruling s c (acting s c) need)
    other = by_policy_proper (is_active s.policy.active Opercmds) (deciding_in s.policy Opercmds need.resource)
        (decides_in_class s.policy.profiles Opercmds need.resource) (acting s c) (Some c.name)
        (groups_acting s (acting s c)) c.auth need

    go : (required nobody revoked : Bool)
        → IsProper denial_fault (denied_or
        (if required && nobody then Some rule.LogonRequired else (if revoked then Some rule.Revoked else None))
        (access_ruling s c (acting s c) need))
    go true true revoked = refl
    go true false true = refl
    go true false false = other
    go false nobody true = refl
    go false nobody false = other

console_access_proper : (active : Bool) (decided : Option Profile) → IfSome decided (λ p. p.class ≡ Console)
    → (user : User) (console : Option (List ℕ)) (groups : List (List ℕ)) (needed : Level)
    → IsProper logon_fault (by_verdict (verdict active decided user console groups needed)
    (verdict_rule active decided user console groups needed) (Allowed rule.NoProfile))
console_access_proper false decided of user console groups needed = tt
console_access_proper true None of user console groups needed = tt
console_access_proper true (Some p) of user console groups needed = go (includes (held p user console groups) needed || p.warning)
  where
    go : (b : Bool) → IsProper logon_fault
        (by_verdict (if b then verdicts.Allowed else verdicts.Denied) (profile_rule p user console groups needed)
        (Allowed rule.NoProfile))
    go true = tt
    go false = of

pub logon_proper : (s : State) (c : ConsoleRow) (user : User) → IsProper logon_fault (logon_ruling s c user)
logon_proper s c user = go user.revoked
  where
    go : (b : Bool) → IsProper logon_fault (if b then Denied rule.Revoked else console_access s c user)
    go true = refl
    go false = console_access_proper (is_active s.policy.active Console) (deciding_in s.policy Console c.name)
        (decides_in_class s.policy.profiles Console c.name) user (Some c.name) (groups_of s.policy.connects user.id)
        Read

pub console_reported : (s : State) (r : Input) (name : List ℕ) → IfRefused (IsReported s r) (console_for s name)
console_reported s r name = then_reported (IsReported s r) (found fault.NoConsole (console_at s.board name))
    (λ c. refuse_if fault.ConsoleOffline None (not c.online) >>= λ _. Ok c) (there (console_at s.board name))
    (λ c _. then_reported (IsReported s r) (refuse_if fault.ConsoleOffline None (not c.online)) (λ _. Ok c) (online (not c.online)) (λ _ _. tt))
  where
    there : (o : Option ConsoleRow) → IfRefused (IsReported s r) (found fault.NoConsole o)
    there (Some c) = tt
    there None = tt

    online : (b : Bool) → IfRefused (IsReported s r) (refuse_if fault.ConsoleOffline None b)
    online true = tt
    online false = tt

module _ (s : State) (name text : List ℕ) where
  line_reported : (r : Result Command ReadFault) → IfRefused (IsReported s (input.Command name text)) (command_or r)
  line_reported (Ok c) = tt
  line_reported (Err f) = line_plain f

  acted_reported : (c : ConsoleRow) (command : Command) (why : Rule) → IsAllowed s name text c command why
      → (r : BoardOutcome) → effect s.board command c.name ≡ r
      → IfRefused (IsReported s (input.Command name text)) (acted (Some why) r)
  acted_reported c command why allows (Ok d) is = tt
  acted_reported c command why allows (Err f) is = inr (record { console = c; command = command; allowed = allows; refused = f; refuses = is; returned = refl })

  ruling_reported : (c : ConsoleRow) (command : Command) → IsHeard s name text c command → (need : Need) → need_of s.board command ≡ Some need
      → (r : Ruling) → ruling s c need ≡ r → IsProper denial_fault r → IfRefused (IsReported s (input.Command name text)) (allowed r)
  ruling_reported c command heard need needs (Allowed why) is proper = tt
  ruling_reported c command heard need needs (Denied why) is proper =
      inl (proper, inl (record { console = c; command = command; heard = heard; need = need; needs = needs; denied = is }))

  board_reported : (c : ConsoleRow) (command : Command) → IsHeard s name text c command → (need : Need)
      → need_of s.board command ≡ Some need
      → IfRefused (IsReported s (input.Command name text)) (board_command s c command need)
  board_reported c command heard need needs =
      then_reported (IsReported s (input.Command name text)) (allowed (ruling s c need))
      (λ why. acted (Some why) (effect s.board command c.name) >>= λ act. does (record s { board = act.board })
      (filter (shown s c) act.lines) (Some why))
      (ruling_reported c command heard need needs (ruling s c need) refl (ruling_proper s c need))
      (λ why is. then_reported (IsReported s (input.Command name text)) (acted (Some why) (effect s.board command c.name))
      (λ act. does (record s { board = act.board }) (filter (shown s c) act.lines) (Some why))
      (acted_reported c command why (record {
        heard = heard;
        need = need;
        needs = needs;
        allowed = allowed_ok (ruling s c need) why is;
      }) (effect s.board command c.name) refl) (λ act _. tt))

  kept_off : (c : ConsoleRow) (id password : Operand (List ℕ)) → IsHeard s name text c (command.Logon id password)
      → c.user ≡ None → (user : User) → known_by s id.value password.value ≡ Some user
      → (r : Ruling) → logon_ruling s c user ≡ r → IsProper logon_fault r → IfRefused (IsReported s (input.Command name text)) (admit r)
  kept_off c id password heard nobody user known (Allowed why) is proper = tt
  kept_off c id password heard nobody user known (Denied why) is proper =
      inl (
        proper,
        inr (record {
          console = c;
          id = id;
          password = password;
          heard = heard;
          nobody = nobody;
          user = user;
          known = known_is s id.value password.value user known;
          denied = is;
        }),
      )

  logon_reported : (c : ConsoleRow) (id password : Operand (List ℕ)) → IsHeard s name text c (command.Logon id password)
      → IfRefused (IsReported s (input.Command name text)) (logon s c id.value password.value)
  logon_reported c id password heard =
      then_reported (IsReported s (input.Command name text)) (nobody_on c.user)
      (λ _. found fault.BadLogon (known_by s id.value password.value) >>= λ user. admit (logon_ruling s c user) >>=
      λ why. does (record s { board = logged_on c.name id.value s.board }) [] (Some why))
      (nobody c.user)
      (λ on is_on. then_reported (IsReported s (input.Command name text))
      (found fault.BadLogon (known_by s id.value password.value))
      (λ user. admit (logon_ruling s c user) >>= λ why. does
      (record s { board = logged_on c.name id.value s.board }) [] (Some why))
      (stored (known_by s id.value password.value))
      (λ user is. then_reported (IsReported s (input.Command name text)) (admit (logon_ruling s c user))
      (λ why. does (record s { board = logged_on c.name id.value s.board }) [] (Some why))
      (kept_off c id password heard (nobody_ok c.user on is_on) user
      (found_ok fault.BadLogon (known_by s id.value password.value) user is) (logon_ruling s c user) refl
      (logon_proper s c user)) (λ why _. tt)))
    where
      nobody : (o : Option (List ℕ)) → IfRefused (IsReported s (input.Command name text)) (nobody_on o)
      nobody None = tt
      nobody (Some user) = tt

      stored : (o : Option User) → IfRefused (IsReported s (input.Command name text)) (found fault.BadLogon o)
      stored (Some user) = tt
      stored None = tt

  logoff_reported : (c : ConsoleRow) → IfRefused (IsReported s (input.Command name text)) (logoff s c)
  logoff_reported c = then_reported (IsReported s (input.Command name text)) (refuse_if fault.NotOn None (is_none c.user))
      (λ _. does (record s { board = logged_off c.name s.board }) [] None) (on (is_none c.user)) (λ _ _. tt)
    where
      on : (b : Bool) → IfRefused (IsReported s (input.Command name text)) (refuse_if fault.NotOn None b)
      on true = tt
      on false = tt

  no_need_reported : (c : ConsoleRow) (k : Command) → IsHeard s name text c k → IfRefused (IsReported s (input.Command name text)) (without_need s c k)
  no_need_reported c (command.Logon id password) heard = logon_reported c id password heard
  no_need_reported c command.Logoff heard = logoff_reported c
  no_need_reported c other heard = tt

  typed_reported : (c : ConsoleRow) (k : Command) → IsHeard s name text c k → (need : Option Need)
      → need_of s.board k ≡ need → IfRefused (IsReported s (input.Command name text)) (typed s c k need)
  typed_reported c k heard (Some need) is = board_reported c k heard need is
  typed_reported c k heard None is = no_need_reported c k heard

  pub command_reported : IfRefused (IsReported s (input.Command name text)) (command_outcome s name text)
  command_reported = then_reported (IsReported s (input.Command name text)) (console_for s name)
      (λ c. command_in text >>= λ k. typed s c k (need_of s.board k)) (console_reported s (input.Command name text) name)
      (λ c there. then_reported (IsReported s (input.Command name text)) (command_in text) (λ k. typed s c k (need_of s.board k)) (line_reported (reading text))
      (λ k reads. typed_reported c k (heard c there k reads) (need_of s.board k) refl))
    where
      heard : (c : ConsoleRow) → console_for s name ≡ Ok c → (k : Command) → command_in text ≡ Ok k → IsHeard s name text c k
      heard c there k reads =
          let at = console_is s name c there in
          record { there = at.0; online = at.1; reads = so_reads text k (command_is (reading text) k reads) }

pub aborted_has_none : (f : Fault) (why : Option Rule) → IsAborted (Refused f why) → IsOfAuthority f → ⊥
aborted_has_none f why (inl h) authority = let at : f ≡ fault.NoMemory = search (rules, h) in subst IsOfAuthority at authority
aborted_has_none f why (inr h) authority = let at : f ≡ fault.Store = search (rules, h) in subst IsOfAuthority at authority
