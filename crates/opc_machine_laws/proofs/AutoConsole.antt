-- Worked cases of an AUTO console, computed: what its own user may do there, and who comes first.
use Rattle.std.proofs.Common.{◌≡◌, ℕ, Bool, true, false, List, [], ◌∷◌, Option, Some, None, Ok, Err, map, refl, codes}
use Rattle.opc_names.specs.declared.auth.Auth.{Auth}
use Rattle.opc_names.specs.declared.auth.Auth.TheVariants as auth
use Rattle.opc_names.specs.declared.class.Class.TheVariants.{Opercmds}
use Rattle.opc_names.specs.declared.level.Level.{Level}
use Rattle.opc_names.specs.declared.level.Level.TheVariants as level
use Rattle.opc_policy_members.specs.declared.entry.Entry.{Entry}
use Rattle.opc_terms.specs.declared.fault.Fault.TheVariants as fault
use Rattle.opc_terms.specs.declared.mode.Mode.TheVariants.{Auto}
use Rattle.opc_policy_members.specs.declared.policy.Policy.{Policy}
use Rattle.opc_policy_members.specs.declared.profile.Profile.{Profile}
use Rattle.opc_terms.specs.declared.rule.Rule.{Rule}
use Rattle.opc_terms.specs.declared.rule.Rule.TheVariants as rule
use Rattle.opc_policy_members.specs.declared.user.User.{User}
use Rattle.opc_policy_members.specs.Held.{held}
use Rattle.opc_reader_commands.specs.declared.command.Command.{Command}
use Rattle.opc_reader_commands.specs.declared.command.Command.TheVariants as command
use Rattle.opc_reader_commands.specs.declared.piece.Piece.{Piece}
use Rattle.opc_board.specs.declared.line.Line.{Line}
use Rattle.opc_board.specs.declared.rows.ConsoleRow.{ConsoleRow}
use Rattle.opc_board.specs.declared.rows.UnitKind.TheVariants.{Job}
use Rattle.opc_board.specs.declared.rows.UnitRow.{UnitRow}
use Rattle.opc_state.specs.State.{State, empty}
use Rattle.opc_machine.specs.Commands.{need_of, typed}
use Rattle.opc_machine.specs.Inputs.{Input}
use Rattle.opc_machine.specs.Inputs as input
use Rattle.opc_machine.specs.Machine.{refusal_in, first_refusal, user_acting}
use Rattle.opc_machine.specs.declared.operation.Operation.TheVariants as operation
use Rattle.opc_machine.specs.Outcome.{StateOutcome}
use Rattle.opc_machine_laws.proofs.Worked.{base, console as worked_console}

-- C4 is connected to OPS, and CARL to nothing
abbrev user : List ℕ → Bool → User
user id revoked = record { id = id; special = false; auditor = false; revoked = revoked; digest = None; restricted = false }

abbrev profile : List ℕ → Level → List Entry → Profile
profile pattern uacc entries = record { class = Opercmds; pattern = pattern; owner = codes "CARL"; uacc = uacc; warning = false; entries = entries }

abbrev policy : Bool → Policy
policy revoked = record {
  users = user (codes "C4") revoked ∷ user (codes "CARL") false ∷ [];
  groups = codes "OPS" ∷ [];
  connects = record { user = codes "C4"; group = codes "OPS" } ∷ [];
  profiles = profile (codes "MVS.CANCEL.JOB.PAY*") level.None []
      ∷ profile (codes "MVS.CANCEL.JOB.*") level.None (record { id = codes "OPS"; when = None; level = level.Update } ∷ [])
      ∷ profile (codes "MVS.DISPLAY.**") level.Read [] ∷ [];
  active = record { console = true; opercmds = true };
}

abbrev job : List ℕ → UnitRow
job name = record { name = name; kind = Job; cancelable = true; stopping = false; last_text = None }

abbrev console : Option (List ℕ) → ConsoleRow
console on = record { name = codes "C4"; auth = auth.Info; mode = Auto; online = true; user = on; monitor = false }

abbrev with_on : Bool → Option (List ℕ) → State
with_on revoked on = record empty {
  policy = policy revoked;
  board = record empty.board { units = job (codes "BACKUP") ∷ job (codes "PAYROLL") ∷ []; consoles = console on ∷ [] };
}

abbrev nobody_on : State
nobody_on = with_on false None

abbrev carl_on : State
carl_on = with_on false (Some (codes "CARL"))

-- the outcome of a command there, once it is read
abbrev comes_to : State → Option (List ℕ) → Command → StateOutcome
comes_to s on command = typed s (console on) command (need_of s.board command)

abbrev cancel : List ℕ → Piece → Command
cancel name piece = command.Cancel (record { value = name; typed = piece })

abbrev asked : Input
asked = input.Command (codes "C4") []

abbrev held_of : List ℕ → Level → Level → Rule
held_of pattern held needed = rule.Profile Opercmds pattern held needed false

abbrev rule_in : StateOutcome → Option Rule
rule_in (Ok effect) = effect.rule
rule_in (Err refusal) = None

abbrev texts_in : StateOutcome → List (List ℕ)
texts_in (Ok effect) = map (λ (l : Line). l.text) effect.lines
texts_in (Err refusal) = []

abbrev consoles_in : StateOutcome → List ConsoleRow
consoles_in (Ok effect) = effect.state.board.consoles
consoles_in (Err refusal) = []

-- its own user is denied, and that is accounted to the user
own_user_is_denied : (piece : Piece) → refusal_in (comes_to nobody_on None (cancel (codes "PAYROLL") piece)) ≡ Some (record {
  fault = fault.DeniedProfile;
  rule = Some (held_of (codes "MVS.CANCEL.JOB.PAY*") level.None level.Update);
})
unfolding held
own_user_is_denied piece = refl

own_user_is_accounted : user_acting nobody_on asked ≡ Some (codes "C4")
own_user_is_accounted = refl

-- nobody is logged on who could log off
nobody_logs_off : refusal_in (comes_to nobody_on None command.Logoff) ≡ Some (record { fault = fault.NotOn; rule = None })
nobody_logs_off = refl

-- once CARL is logged on, CARL acts
carl_is_denied : (piece : Piece) → refusal_in (comes_to carl_on (Some (codes "CARL")) (cancel (codes "BACKUP") piece)) ≡ Some (record {
  fault = fault.DeniedProfile;
  rule = Some (held_of (codes "MVS.CANCEL.JOB.*") level.None level.Update);
})
unfolding held
carl_is_denied piece = refl

carl_is_accounted : user_acting carl_on asked ≡ Some (codes "CARL")
carl_is_accounted = refl

carl_logs_off : consoles_in (comes_to carl_on (Some (codes "CARL")) command.Logoff) ≡ console None ∷ []
carl_logs_off = refl

-- then the console acts for its own user again
own_user_cancels : (piece : Piece) → rule_in (comes_to nobody_on None (cancel (codes "BACKUP") piece)) ≡ Some
    (held_of (codes "MVS.CANCEL.JOB.*") level.Update level.Update)
unfolding held
own_user_cancels piece = refl

-- who is not logged on
nobody_is_shown : texts_in (comes_to nobody_on None command.DisplayConsoles) ≡ codes "C4       ONLINE  -- INFO -" ∷ []
unfolding held
nobody_is_shown = refl

own_user_is_revoked : refusal_in (comes_to (with_on true None) None command.DisplayDevices) ≡ Some (record { fault = fault.Revoked; rule = Some rule.Revoked })
own_user_is_revoked = refl

-- a console's own user has the rights of any other

abbrev own : List ℕ → Auth → Option (List ℕ) → ConsoleRow
own name auth on = worked_console name auth Auto true on

abbrev with_auto : State
with_auto = record base {
  board = record empty.board {
    consoles = own (codes "FRED") auth.Info (Some (codes "ANNA"))
        ∷ own (codes "NOUSER") auth.Info None ∷ own (codes "OLD") auth.Master None ∷ own (codes "SECADM") auth.Info None
        ∷ [];
  };
}

who_is_on_comes_first : user_acting with_auto (input.Command (codes "FRED") []) ≡ Some (codes "ANNA")
who_is_on_comes_first = refl

nobody_is_stored : user_acting with_auto (input.Command (codes "NOUSER") []) ≡ None
nobody_is_stored = refl

revoked_changes_nothing : first_refusal with_auto (input.Admin (codes "OLD") (operation.AddGroup (codes "DAY"))) ≡ Some (record {
  fault = fault.Revoked;
  rule = Some rule.Revoked;
})
revoked_changes_nothing = refl

special_administers : first_refusal with_auto (input.Admin (codes "SECADM") (operation.AddGroup (codes "DAY"))) ≡ None
special_administers = refl

-- its user is in use like any other: not by the console
own_user_is_not_in_use : first_refusal (record with_auto {
  board = record with_auto.board {
    consoles = own (codes "GUS") auth.Info None ∷ own (codes "SECADM") auth.Info None
        ∷ [];
  };
}) (input.Admin (codes "SECADM") (operation.DelUser (codes "GUS"))) ≡ None
own_user_is_not_in_use = refl
