-- A command that needs something is no command of a session.
use Rattle.std.proofs.Common.{◌≡◌, Some, false, refl, rules}
use Rattle.opc_terms.specs.declared.need.Need.{Need}
use Rattle.opc_terms.specs.declared.unit_kind.UnitKindAt.{UnitKindAt}
use Rattle.opc_reader_commands.specs.declared.command.Command.{Command}
use Rattle.opc_reader_commands.specs.declared.command.Command.TheVariants as command
use Rattle.opc_table.specs.Table.{need}
use Rattle.opc_board.specs.Effect.{is_session_command}

pub needs_no_session : (c : Command) (kind : UnitKindAt) (n : Need) → need c kind ≡ Some n → is_session_command c ≡ false
needs_no_session (command.Logon user password) kind n h = absurd (search (rules, h))
needs_no_session command.Logoff kind n h = absurd (search (rules, h))
needs_no_session other kind n h = refl
