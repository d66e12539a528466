use Rattle.std.proofs.lemmas.Str.{IsUtf8-from_ascii}
use Rattle.opc_cli_digest.proofs.password.password_in.Goals as goal

pub unreachable-requires : goal.unreachable-requires
unreachable-requires c = c.in-Err.ensures.cases.0 (IsUtf8-from_ascii c.args.line.now c.if-not-is_ascii.ensures.cases)
