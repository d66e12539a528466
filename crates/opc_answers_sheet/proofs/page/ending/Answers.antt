use Rattle.opc_answers_sheet.proofs.page.ending.Goals as goal

pub returns : goal.returns
returns c =
    rw (c.as_str-changes.ensures.value, c.as_str-account.ensures.value, c.in_ok-changes.ensures, c.in_ok-account.ensures)
    at c.format.ensures.ok
