use Rattle.std.proofs.Common.{subst}
use Rattle.std.specs.Io.KnownBytes.{Appends}
use Rattle.std.proofs.KnownBytes.{Appends-trans}
use Rattle.opc_cli_questions.proofs.Parts.{on_ok, whole}
use Rattle.opc_cli_questions.proofs.who_printing.print_who.Goals as goal

pub returns-clause-text : goal.returns-clause-text
returns-clause-text g c =
    on_ok c.print_ending.result
    (λ ended. subst (Appends (g.W.Write.contents c.args.output.now) (g.W.Write.contents c.print_ending.new.output))
    (whole c.args.form c.args.allowed c.args.who.now)
    (Appends-trans _ _ _ _ _ (Appends-trans _ _ _ _ _ c.in_ok-print_beginning.ensures.text c.in_ok-counts.ensures.text)
    (rw c.in_ok-counts.ensures.counts at ended)))
    c.print_ending.ensures.text
