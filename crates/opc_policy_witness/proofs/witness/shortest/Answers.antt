use Rattle.std.proofs.Common.{◌≡◌, length, Ok, ap, arith, rules, subst, sym, ◌∙◌}
use Rattle.std.specs.List.{AllByRecursion}
use Rattle.opc_policy_witness.specs.Forms.{IsFine, first_words, most_of_all, most_size}
use Rattle.opc_policy_witness.specs.Witness.{IsFinePiece, room}
use Rattle.opc_policy_witness.proofs.Leading.{
  behind_fine,
  first_fine,
  led_room,
  led_size,
  led_some,
  none_at_all,
  none_first,
  placed_first,
}
use Rattle.opc_policy_witness.proofs.Placing.{none_smaller, placed_shortest, placed_witness, smaller_next}
use Rattle.opc_policy_witness.proofs.Sizes.{most_sizes}
use Rattle.opc_policy_witness.proofs.Starting.{none_begin}
use Rattle.opc_policy_witness.proofs.witness.shortest.Goals as goal

pub most_size-size-end-requires : goal.most_size-size-end-requires
most_size-size-end-requires c =
    let e = most_sizes c.args.form.now in
    let s : most_size c.in_ok-names.names.now ≡ most_size c.args.form.now = ap most_size c.in_ok-names.ensures.rest ∙ led_size c.args.form.now in
    omega (arith, e, s, c.requires.room)

pub overflow_add-size-end : goal.overflow_add-size-end
overflow_add-size-end c =
    let e = most_sizes c.args.form.now in
    let s : most_size c.in_ok-names.names.now ≡ most_size c.args.form.now = ap most_size c.in_ok-names.ensures.rest ∙ led_size c.args.form.now in
    omega (arith, e, s, c.requires.room, c.most_size-size-end.ensures)

pub of_size-requires-clause-fine : goal.of_size-requires-clause-fine
of_size-requires-clause-fine c =
    let words : c.as_slice-in-loop-size.result.now ≡ first_words c.args.form.now = search rules in
    subst (λ ps. AllByRecursion IsFinePiece ps) (sym words) (first_fine c.args.form.now c.requires.fine)

pub of_size-requires-clause-form : goal.of_size-requires-clause-form
of_size-requires-clause-form c =
    subst (λ form. AllByRecursion IsFine form) (sym c.in_ok-names.ensures.rest) (behind_fine c.args.form.now c.requires.fine)

pub of_size-requires-clause-room : goal.of_size-requires-clause-room
of_size-requires-clause-room c =
    let words : c.as_slice-in-loop-size.result.now ≡ first_words c.args.form.now = search rules in
    let e = led_room c.args.form.now in
    let w = ap room words in
    let r = ap most_of_all c.in_ok-names.ensures.rest in
    omega (arith, e, w, r, c.requires.room)

pub of_size-requires-clause-some : goal.of_size-requires-clause-some
of_size-requires-clause-some c =
    let words : c.as_slice-in-loop-size.result.now ≡ first_words c.args.form.now = search rules in
    let e = led_some c.args.form.now c.requires.some in
    let w = ap length words in
    let r = ap length c.in_ok-names.ensures.rest in
    omega (arith, e, w, r)

pub returns-then-not-all_may_begin-clause-none : goal.returns-then-not-all_may_begin-clause-none
returns-then-not-all_may_begin-clause-none c = λ e.
    let words : c.as_slice.result.now ≡ first_words c.args.form.now = search rules in
    let include = c.args.include.now in
    let exclude = c.args.exclude.now in
    none_at_all c.args.form.now include exclude (λ n. none_first c.args.form.now c.in_ok-names.names.now c.as_slice.result.now include exclude n words
    c.in_ok-names.ensures.rest (none_begin c.as_slice.result.now c.in_ok-names.names.now include exclude n
    (sym c.all_may_begin.ensures ∙ c.if-not-all_may_begin.true)))

pub returns-in-Some-clause-found : goal.returns-in-Some-clause-found
returns-in-Some-clause-found c =
    let words : c.as_slice-in-loop-size.result.now ≡ first_words c.args.form.now = search rules in
    placed_witness c.args.form.now c.args.include.now c.args.exclude.now c.loop-size.size c.in-Some.found c.requires
    (placed_first c.args.form.now c.in_ok-names.names.now c.as_slice-in-loop-size.result.now c.args.include.now c.args.exclude.now c.loop-size.size words
    c.in_ok-names.ensures.rest c.in-Some.found (rw c.in-Some.is at c.in_ok-found.ensures.found))

pub returns-in-Some-clause-shortest : goal.returns-in-Some-clause-shortest
returns-in-Some-clause-shortest c =
    let words : c.as_slice-in-loop-size.result.now ≡ first_words c.args.form.now = search rules in
    placed_shortest c.args.form.now c.args.include.now c.args.exclude.now c.loop-size.size c.in-Some.found c.requires
    (placed_first c.args.form.now c.in_ok-names.names.now c.as_slice-in-loop-size.result.now c.args.include.now c.args.exclude.now c.loop-size.size words
    c.in_ok-names.ensures.rest c.in-Some.found (rw c.in-Some.is at c.in_ok-found.ensures.found)) c.loop-size.invariant

pub loop-size-preserved : goal.loop-size-preserved
loop-size-preserved c =
    let words : c.as_slice-in-loop-size.result.now ≡ first_words c.args.form.now = search rules in
    smaller_next c.args.form.now c.args.include.now c.args.exclude.now c.loop-size.size c.loop-size.invariant
    (none_first c.args.form.now c.in_ok-names.names.now c.as_slice-in-loop-size.result.now c.args.include.now c.args.exclude.now c.loop-size.size words
    c.in_ok-names.ensures.rest (c.of_size.ensures.none (c.in_ok-found.was ∙ ap Ok c.in_default.is)))

pub returns-clause-none : goal.returns-clause-none
returns-clause-none c = λ e.
    let s : most_size c.in_ok-names.names.now ≡ most_size c.args.form.now = ap most_size c.in_ok-names.ensures.rest ∙ led_size c.args.form.now in
    none_smaller c.args.form.now c.args.include.now c.args.exclude.now c.loop-size.size
    (omega (arith, s, c.loop-size-test.false, c.most_size-size-end.ensures)) c.loop-size.invariant
