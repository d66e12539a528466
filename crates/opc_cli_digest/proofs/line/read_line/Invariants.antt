use Rattle.std.proofs.Common.{◌≡◌, ◌<◌, length, true}
use Rattle.std.specs.Io.KnownBytes.{Consumes}
use Rattle.opc_cli_digest.specs.Passwords.{most}
use Rattle.opc_cli_digest.proofs.Lines.{is_plain}
use Rattle.opc_cli_digest.proofs.line.read_line.Given as goal

abbrev pub invariant-loop : goal.invariant-loop
invariant-loop g l =
    Consumes (g.R.Read.remaining l.fn.input) (g.R.Read.remaining l.input) l.typed.items × (is_plain l.typed.items ≡ true)
    × (length l.typed.items < most)
