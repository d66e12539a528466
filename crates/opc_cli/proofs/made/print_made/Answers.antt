use Rattle.std.proofs.Common.{subst}
use Rattle.std.specs.Io.KnownBytes.{Appends}
use Rattle.opc_cli.proofs.Pieces.{three_appended}
use Rattle.opc_cli.proofs.made.print_made.Goals as goal

pub returns-clause-text : goal.returns-clause-text
returns-clause-text g c =
    let path = subst (Appends _ _) c.as_bytes.ensures.value c.in_ok-write_whole-2.ensures.ok in
    three_appended c.write_whole-3.result _ _ _ _ _ c.args.path.now _ c.in_ok-write_whole.ensures.ok path c.write_whole-3.ensures.ok
