use Rattle.std.proofs.Common.{◌≡◌, None, Some}
use Rattle.std.specs.Str.{chars}
use Rattle.opc_cli_commands.proofs.form.CommandForm.kind.Goals as goal

pub unreachable-requires : goal.unreachable-requires
unfolding chars
unreachable-requires c = let wrong : None ≡ Some c.in-Err.field-0 = c.in-Err.ensures in absurd (cc)
