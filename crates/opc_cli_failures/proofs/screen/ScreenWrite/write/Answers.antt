use Rattle.std.proofs.Common.{◌≡◌, false, rules, subst, sym, IsUtf8}
use Rattle.std.specs.Io.KnownBytes.{Appends}
use Rattle.opc_cli_failures.specs.Shown.{has_hidden}
use Rattle.opc_cli_failures.proofs.Showing.{shown_as_it_is}
use Rattle.opc_cli_failures.proofs.screen.ScreenWrite.write.Goals as goal

pub returns-then-not-has_hidden-clause-shown : goal.returns-then-not-has_hidden-clause-shown
returns-then-not-has_hidden-clause-shown g c terminal =
    let utf8 : IsUtf8 c.args.bytes.now = search rules in
    let plain : has_hidden c.args.bytes.now ≡ false = search rules in
    subst (Appends (g.W.Write.contents c.args.self.now.inner) (g.W.Write.contents c.write_all.new.self))
    (sym (shown_as_it_is c.args.bytes.now utf8 plain)) c.in_ok-write_all.ensures.bytes
