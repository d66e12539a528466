use Rattle.std.proofs.Common.{◌≡◌, ◌∙◌, ◌<◌, ap, arith, false, map, get_or, length, Ok, sym, below_more, true}
use Rattle.std.proofs.lemmas.List.{take_rest}
use Rattle.opc_policy_witness.proofs.Between.{both, first_written, goes_nowhere, none_behind, none_tried, some_behind}
use Rattle.opc_policy_witness.proofs.search.+find.Goals.{
  then-may_go_on+in_ok-left+in_ok-find+else-branch,
  else-may_go_on,
}
use Rattle.opc_policy_witness.proofs.search.+find.Goals as goal

pub returns-then-branch-clause-found : goal.returns-then-branch-clause-found
returns-then-branch-clause-found t c = λ e.
    let masks = map (λ mask. mask.now) c.args.exclude.now in
    let character = get_or c.tried-character-items.result.now c.loop-character.character-index 0 in
    let was : c.find.result ≡ Ok true = c.in_ok-find.was ∙ ap Ok c.if-branch.true in
    let rest = c.find.ensures.found was in
    let some : 0 < length c.loop-character.name = omega (arith, c.loop-character.auto.name, c.requires, c.in-len1-up.len_at_least) in
    rw (first_written c.loop-character.name c.find.new.name character some)
    (some_behind c.args.places.now c.args.include.now masks _ character c.find.new.name _ _ c.in-len1-up.len_at_least
    c.in-len1-up-include.len_at_least (both _ _ (sym c.if-may_go_on.ensures)).0
    (ap (map (λ mask. mask.now)) c.as_slice.ensures.value ∙ c.in_ok-left.ensures) (rw (take_rest, take_rest) at rest))

pub loop-character-preserved : goal.loop-character-preserved
loop-character-preserved t c =
    let places = c.args.places.now in
    let include = c.args.include.now in
    let masks = map (λ mask. mask.now) c.args.exclude.now in
    let character = get_or c.tried-character-items.result.now c.loop-character.character-index 0 in
    let some = c.in-len1-up.len_at_least in
    let more = c.in-len1-up-include.len_at_least in
    below_more _ _ c.loop-character.invariant (λ s.
    elim c.if-may_go_on.branch [
      | then-may_go_on+in_ok-left+in_ok-find+else-branch w ↦
          let was : w.find.result ≡ Ok false = w.in_ok-find.was ∙ ap Ok w.if-branch.false in
          let rest = w.find.ensures.none was s in
          none_behind places include masks _ character s some more
          (ap (map (λ mask. mask.now)) w.as_slice.ensures.value ∙ w.in_ok-left.ensures) (rw (take_rest, take_rest) at rest)
      | else-may_go_on w ↦ goes_nowhere places include _ masks character s _ _ some more (take_rest include 1) (sym w.if-may_go_on.ensures)
    ])

pub returns-clause-none : goal.returns-clause-none
returns-clause-none t c = λ e.
    none_tried c.args.places.now c.args.include.now _ (map (λ mask. mask.now) c.args.exclude.now)
    c.tried-character-items.result.now _ _ c.in-len1-up.len_at_least c.in-len1-up-include.len_at_least
    (take_rest c.args.include.now 1) c.tried-character-items.ensures
    (λ k h. c.loop-character.invariant k (omega (arith, h, c.loop-character-test.false)))
