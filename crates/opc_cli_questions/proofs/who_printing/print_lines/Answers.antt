use Rattle.std.proofs.KnownBytes.{Appends-trans}
use Rattle.opc_cli_questions.proofs.who_printing.print_lines.Goals as goal

pub returns-clause-text : goal.returns-clause-text
returns-clause-text g c =
    Appends-trans _ _ _ _ _ (Appends-trans _ _ _ _ _ c.in_ok-users.ensures.text c.in_ok-raised.ensures.text)
    c.in_ok-consoles.ensures.text
