use Rattle.std.proofs.Common.{◌≡◌, ◌-◌, List, take, drop, length, ap, ap₂, ◌∙◌, arith, length-drop}
use Rattle.std.proofs.lemmas.List.{take_all}
use Rattle.sqlite.specs.Order.{Row}
use Rattle.std.specs.List.{take_while}
use Rattle.opc_store_profiles.specs.Lists.{is_of}
use Rattle.opc_store_profiles.proofs.ByPattern.{split, rows_at}
use Rattle.opc_store_profiles.proofs.lists.rows_of.Goals as goal

pub returns : goal.returns
returns c = λ up.
    let rows = c.args.rows.now in
    let at = rows_at c.args.pattern.now rows c.first_of.result up c.first_of.ensures.bound (c.first_of.ensures.split (split c.args.pattern.now rows up)) in
    let later : take (length rows - c.first_of.result) (drop c.first_of.result rows) ≡ drop c.first_of.result rows =
    take_all _ _ (omega (arith, length-drop c.first_of.result rows)) in
    ap₂ take c.count_of.ensures.count later
    ∙ (ap (λ (l : List Row). take (length (take_while (is_of c.args.pattern.now) l)) (drop c.first_of.result rows))
    later ∙ at)
