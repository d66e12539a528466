use Rattle.std.proofs.Common.{◌≡◌, IfOk, None, map, string_bytes, subst, sym}
use Rattle.std.specs.Option.{option_copied}
use Rattle.opc_answers_sheet.specs.Cells.{users_at}
use Rattle.opc_answers_sheet.specs.Commands.{said_everywhere}
use Rattle.opc_answers_sheet.proofs.everywhere.text_of_callers.Goals as goal

pub returns : goal.returns
returns c =
    subst (λ decided. IfOk c.text_of_named.result (λ text. string_bytes text
    ≡ users_at None 0 (map (said_everywhere (option_copied decided) c.args.level) c.args.callers.now))) (sym c.in-Some.is)
    c.text_of_named.ensures
