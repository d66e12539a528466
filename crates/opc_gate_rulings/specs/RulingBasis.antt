-- How needs are ruled on at a console, before the need is known.
use Rattle.std.specs.Prelude.{◌≡◌, ◌⊎◌, true, false, Some, None}
use Rattle.opc_names.specs.declared.class.Class.TheVariants.{Opercmds}
use Rattle.opc_policy_members.specs.Taken.{is_active}
use Rattle.opc_board.specs.declared.rows.ConsoleRow.{ConsoleRow}
use Rattle.opc_state.specs.State.{State}
use Rattle.opc_machine.specs.Rulings.{acting, logon_denial}
use Rattle.opc_gate_rulings.specs.declared.ruling.RulingBasis.{RulingBasis}
use Rattle.opc_gate_rulings.specs.declared.ruling.RulingBasis.TheVariants.{Denied, User, Console}

-- The logon rule denies; or profiles decide for the user who acts; or nobody acts or the class is inactive, so that the
-- authority of the console decides.
abbrev pub IsRulingBasis : State → ConsoleRow → RulingBasis → Type 0
IsRulingBasis s c (Denied rule) = logon_denial s c ≡ Some rule
IsRulingBasis s c (User user) = (logon_denial s c ≡ None) × (acting s c ≡ Some user)
    × (is_active s.policy.active Opercmds ≡ true)
IsRulingBasis s c Console = (logon_denial s c ≡ None)
    × ((acting s c ≡ None) ⊎ (is_active s.policy.active Opercmds ≡ false))
