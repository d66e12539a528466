use Rattle.std.proofs.Common.{◌≡◌, ◌∙◌, ◌-◌, ◌++◌, List, ℕ, ap, arith, drop, length, take}
use Rattle.std.proofs.lemmas.List.{length-drop, take_all}
use Rattle.csv.specs.declared.parser.State.TheVariants as st
use Rattle.opc_import.proofs.CutRows.{Begins, begins_marked, begins_unmarked}
use Rattle.opc_check.specs.Excess.{kept}
use Rattle.opc_check.proofs.Alike.{few_left, marked, told_alike}
use Rattle.opc_check.proofs.excess.without_excess.Goals.{then-starts_with, else-starts_with}
use Rattle.opc_check.proofs.excess.without_excess.Goals as goal

rest_whole : (xs : List ℕ) (n : ℕ) → take (length xs - n) (drop n xs) ≡ drop n xs
rest_whole xs n = take_all (length xs - n) (drop n xs) (omega (arith, length-drop n xs))

pub returns-clause-alike : goal.returns-clause-alike
returns-clause-alike c =
    let text = c.args.text.now in
    let start = c.if-starts_with.start in
    let begins : Begins text start = elim c.if-starts_with.branch [
      | then-starts_with w ↦ begins_marked text _ _ w.start-is c.starts_with.ensures.value w.if-starts_with.true
      | else-starts_with w ↦ begins_unmarked text _ _ w.start-is c.starts_with.ensures.value w.if-starts_with.false
    ] in
    told_alike text c.keep.new.bytes.items start begins
    (c.in_ok-keep.ensures
    ∙ ap (λ (m : List ℕ). m ++ kept st.StartRecord 0 (take (length text - start) (drop start text))) c.in_ok-bytes.ensures.items
    ∙ ap (λ ys. marked (kept st.StartRecord 0 ys)) (rest_whole text start))

pub returns-clause-few : goal.returns-clause-few
returns-clause-few c =
    let text = c.args.text.now in
    let start = c.if-starts_with.start in
    let begins : Begins text start = elim c.if-starts_with.branch [
      | then-starts_with w ↦ begins_marked text _ _ w.start-is c.starts_with.ensures.value w.if-starts_with.true
      | else-starts_with w ↦ begins_unmarked text _ _ w.start-is c.starts_with.ensures.value w.if-starts_with.false
    ] in
    few_left text c.keep.new.bytes.items start begins
    (c.in_ok-keep.ensures
    ∙ ap (λ (m : List ℕ). m ++ kept st.StartRecord 0 (take (length text - start) (drop start text))) c.in_ok-bytes.ensures.items
    ∙ ap (λ ys. marked (kept st.StartRecord 0 ys)) (rest_whole text start))
