use Rattle.std.proofs.Common.{◌≡◌, length, take}
use Rattle.opc_account.specs.Filters.{met}
use Rattle.opc_account.specs.Lines.{AreLines}
use Rattle.opc_account.proofs.page.page_of.Given as goal

abbrev pub invariant-loop-number : goal.invariant-loop-number
invariant-loop-number l =
    AreLines l.query.json (take l.most (met l.query.filter (take l.number-index l.rows))) l.text.items
    × (l.count ≡ length (take l.most (met l.query.filter (take l.number-index l.rows))))
