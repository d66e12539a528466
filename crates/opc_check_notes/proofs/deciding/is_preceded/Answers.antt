use Rattle.std.proofs.Common.{arith, ap, sym, ◌∙◌}
use Rattle.std.proofs.lemmas.Bool.Decides.{nat_tests}
use Rattle.std.proofs.lemmas.Result.{IfOk-weaker}
use Rattle.opc_check_reach.specs.Forms.{decides}
use Rattle.opc_check_notes.proofs.Before.{preceded_by_none, preceded_not, preceded_so}
use Rattle.opc_check_notes.proofs.Listing.{no_items}
use Rattle.opc_check_notes.proofs.deciding.is_preceded.Goals as goal

pub returns-then-is_empty : goal.returns-then-is_empty
returns-then-is_empty c =
    preceded_by_none c.args.known.now c.args.pattern.now c.in_ok-before.before.items
    (no_items c.in_ok-before.before.items (grind (arith, nat_tests, c.is_empty.ensures, c.if-is_empty.true))) c.in_ok-before.ensures

pub returns-then-decides_some : goal.returns-then-decides_some
returns-then-decides_some c =
    preceded_not c.args.known.now c.args.pattern.now c.in_ok-before.before.items
    (sym (c.in_ok-decides_some.ensures ∙ ap (decides c.args.pattern.now) c.as_slice.ensures.value) ∙ c.if-decides_some.true) c.in_ok-before.ensures

pub returns : goal.returns
returns c =
    IfOk-weaker c.is_met.result _ _
    (λ b is. is ∙ preceded_so c.args.known.now c.args.pattern.now c.in_ok-before.before.items
    (sym (c.in_ok-decides_some.ensures ∙ ap (decides c.args.pattern.now) c.as_slice.ensures.value) ∙ c.if-decides_some.false) c.in_ok-before.ensures)
    c.is_met.ensures
