use Rattle.std.proofs.Common.{◌∙◌, sym}
use Rattle.opc_cli_log.proofs.Added.{whole_added}
use Rattle.opc_cli_log.proofs.log.RunLog.add.Goals as goal

pub returns-in_default : goal.returns-in_default
returns-in_default g c =
    let fine = sym c.is_some.ensures ∙ c.if-is_some.false in
    whole_added g.W.Write.contents _ c.args.self.now _ fine fine c.in_default.ensures
