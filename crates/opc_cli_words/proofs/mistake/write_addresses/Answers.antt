use Rattle.std.proofs.Common.{◌++◌, ap, codes, sym}
use Rattle.opc_cli_words.proofs.Printed.{last_piece}
use Rattle.opc_cli_words.proofs.mistake.write_addresses.Goals as goal

pub returns-clause-text : goal.returns-clause-text
returns-clause-text g c =
    last_piece c.write_whole-2.result _ _ _ _ _ _
    (ap (λ name. name ++ codes " needs exactly one of --port and --socket") (sym c.as_bytes.ensures.value))
    c.in_ok-write_whole.ensures.ok c.write_whole-2.ensures.ok
