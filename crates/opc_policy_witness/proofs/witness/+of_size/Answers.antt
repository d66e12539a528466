use Rattle.std.proofs.Common.{◌≤◌, ◌∙◌, IfOk, IfSome, Ok, ap, arith, refl, rules, subst, sym}
use Rattle.std.proofs.lemmas.Grind.{common_steps}
use Rattle.std.proofs.lemmas.List.{take_rest}
use Rattle.opc_policy_witness.specs.Witness.{IsPlaced, NonePlaced, room}
use Rattle.opc_policy_witness.proofs.Placing.{
  below_least,
  below_next,
  from_max,
  have_text,
  next,
  no_form,
  placed_more,
  rest_size,
}
use Rattle.opc_policy_witness.proofs.Starting.{none_begin}
use Rattle.opc_policy_witness.proofs.witness.+of_size.Goals as goal

pub returns-then-not-all_may_begin-clause-none : goal.returns-then-not-all_may_begin-clause-none
returns-then-not-all_may_begin-clause-none t c = λ e.
    none_begin c.args.pieces.now c.args.form.now c.args.include.now c.args.exclude.now c.args.size
    (sym c.all_may_begin.ensures ∙ c.if-not-all_may_begin.true)

pub at_end-requires : goal.at_end-requires
at_end-requires t c =
    have_text c.args.pieces.now c.args.form.now c.in_default.len_below c.requires.fine c.requires.room c.requires.some

pub returns-in_default-clause-found : goal.returns-in_default-clause-found
returns-in_default-clause-found t c =
    subst (λ form. IfOk c.at_end.result (λ found. IfSome found (IsPlaced c.args.pieces.now form c.args.include.now c.args.exclude.now c.args.size)))
    (no_form c.args.form.now c.in_default.len_below) c.at_end.ensures.found

pub returns-in_default-clause-none : goal.returns-in_default-clause-none
returns-in_default-clause-none t c = λ e.
    subst (λ form. NonePlaced c.args.pieces.now form c.args.include.now c.args.exclude.now c.args.size)
    (no_form c.args.form.now c.in_default.len_below) (c.at_end.ensures.none e)

pub least_of-least-requires : goal.least_of-least-requires
least_of-least-requires t c = rw take_rest (rest_size c.args.form.now (room c.args.pieces.now) c.requires.room)

pub loop-width-init : goal.loop-width-init
loop-width-init t c =
    below_least c.args.pieces.now c.args.include.now c.args.exclude.now c.args.form.now c.args.size c.least_of-least.result _ _ _
    c.in-len1-up.len_at_least refl refl (rw take_rest at c.least_of-least.ensures)

pub of_size-requires : goal.of_size-requires
of_size-requires t c =
    let few : c.loop-width.width ≤ c.most_width.result =
    grind (arith, common_steps, c.loop-width-test.true, c.min-width-end.ensures) in
    let n = next c.args.pieces.now c.args.include.now c.args.exclude.now c.args.form.now c.loop-width.width _ c.as_slice.result.now
    _ _ c.most_width.result c.in-len1-up.len_at_least refl c.most_width.ensures
    (from_max _ _ _ _ c.least_of-least.ensures c.loop-width.auto.width) few refl (c.as_slice.ensures.value ∙ c.in_ok-longer.ensures) c.requires.fine
    c.requires.form c.requires.room in
    rw take_rest (search rules, (n.fine, (n.all, (n.short, n.some))))

pub returns-in-Some-clause-found : goal.returns-in-Some-clause-found
returns-in-Some-clause-found t c =
    let few : c.loop-width.width ≤ c.most_width.result =
    grind (arith, common_steps, c.loop-width-test.true, c.min-width-end.ensures) in
    let less : c.loop-width.width ≤ c.args.size =
    grind (arith, common_steps, c.loop-width-test.true, c.min-width-end.ensures) in
    placed_more c.args.pieces.now c.args.include.now c.args.exclude.now c.args.form.now c.args.size c.loop-width.width _
    c.as_slice.result.now c.in-Some.found c.in-len1-up.len_at_least (from_max _ _ _ _ c.least_of-least.ensures c.loop-width.auto.width)
    (omega (arith, few, c.most_width.ensures)) less (c.as_slice.ensures.value ∙ c.in_ok-longer.ensures)
    (rw take_rest at (rw c.in-Some.is at c.in_ok-found.ensures.found))

pub loop-width-preserved : goal.loop-width-preserved
loop-width-preserved t c =
    below_next c.args.pieces.now c.args.include.now c.args.exclude.now c.args.form.now c.args.size c.loop-width.width _
    c.as_slice.result.now c.in-len1-up.len_at_least (c.as_slice.ensures.value ∙ c.in_ok-longer.ensures) c.loop-width.invariant
    (rw take_rest at (c.of_size.ensures.none (c.in_ok-found.was ∙ ap Ok c.in_default-2.is)))
