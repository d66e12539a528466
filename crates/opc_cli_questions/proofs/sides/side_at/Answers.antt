use Rattle.std.proofs.Common.{rules}
use Rattle.opc_cli_questions.proofs.Files.{not_made}
use Rattle.opc_cli_questions.proofs.sides.side_at.Goals as goal

pub returns : goal.returns
returns g c = not_made (g.F.Openings.holds c.args.files.now c.args.path.now) c.in_ok-bytes.field-0.rows.items c.refused.result.fault
    c.in_ok-bytes.ensures.rows (search (rules, c.in-Err.ensures.fault, c.refused.ensures.fault))
