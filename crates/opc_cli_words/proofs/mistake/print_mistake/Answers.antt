use Rattle.std.proofs.Common.{◌++◌, ap, codes, sym}
use Rattle.opc_io.proofs.Writing.{appends-more}
use Rattle.opc_cli_words.specs.Mistakes.{mistake_text}
use Rattle.opc_cli_words.proofs.Printed.{last_piece}
use Rattle.opc_cli_words.proofs.mistake.print_mistake.Goals as goal

pub returns-clause-text : goal.returns-clause-text
returns-clause-text g c =
    let mistake = appends-more _ _ _ _ _ c.in_ok-write_whole.ensures.ok c.in_ok-write_mistake.ensures.text in
    let help = appends-more _ _ _ _ _ mistake c.in_ok-write_whole-2.ensures.ok in
    let command = appends-more _ _ _ _ _ help c.in_ok-write_whole-3.ensures.ok in
    let error = codes "error: " ++ mistake_text c.args.command.now c.args.mistake in
    last_piece c.write_whole-4.result _ _ _ _ _ _
    (ap (λ name. error ++ codes "; see opcmds " ++ name ++ codes " --help\n") (sym c.as_bytes.ensures.value)) command
    c.write_whole-4.ensures.ok
