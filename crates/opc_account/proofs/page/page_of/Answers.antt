use Rattle.std.proofs.Common.{◌≡◌, ◌≤◌, ◌<◌, ◌+◌, ◌∙◌, ◌++◌, ap, arith, false, get_or, length, rules, subst, sym, take, true}
use Rattle.std.proofs.lemmas.Bool.Decides.{nat_tests}
use Rattle.opc_account.specs.Filters.{meets, met}
use Rattle.opc_account.specs.Lines.{AreLines}
use Rattle.opc_account.proofs.Paged.{count_added, line_added, none_more, not_shown}
use Rattle.opc_account.proofs.page.page_of.Goals.{
  else-count-most,
  else-count-most-via-else-count-most,
  else-count-most-via-then-count-most+else-meets,
  then-count-most+then-meets+in_ok-push_row,
}
use Rattle.opc_account.proofs.page.page_of.Goals as goal

pub loop-number-preserved : goal.loop-number-preserved
loop-number-preserved c =
    let json = c.args.query.now.json in
    let f = c.args.query.now.filter in
    let rows = c.args.rows.now in
    let most = c.args.most in
    let i = c.loop-number.number-index in
    let item = c.loop-number-item.result in
    let text = c.loop-number.text.items in
    let inv = c.loop-number.invariant in
    let within : i < length rows = search (rules, arith) in
    let at : get_or rows i item ≡ item = sym c.loop-number-item.is in
    elim c.if-count-most.branch [
      | then-count-most+then-meets+in_ok-push_row w ↦
          let row = w.in_ok-push_row.ensures in
          let passes : meets f item.1 ≡ true = sym w.meets.ensures ∙ w.if-meets.true in
          let few : length (take most (met f (take i rows))) < most = grind (arith, nat_tests, inv.1, w.if-count-most.true) in
          let longer : c.if-count-most.text.items ≡ text ++ row.0 = rw w.text-is row.2 in (
            rw longer (line_added json f rows most i item text within at inv.0 row.0 passes few row.1),
            w.count-is ∙ ap (λ n. n + 1) inv.1 ∙ sym (count_added json f rows most i item text within at inv.0 passes few),
          )
      | else-count-most w ↦ elim w.else-count-most.branch [
        | else-count-most-via-then-count-most+else-meets v ↦
            let fails : meets f item.1 ≡ false = sym v.meets.ensures ∙ v.if-meets.false in
            let same = not_shown json f rows most i item text within at inv.0 fails in
            (rw w.text-is (subst (λ r. AreLines json r text) (sym same) inv.0), w.count-is ∙ inv.1 ∙ ap length (sym same))
        | else-count-most-via-else-count-most v ↦
            let full : most ≤ length (take most (met f (take i rows))) = grind (arith, nat_tests, inv.1, v.if-count-most.false) in
            let same = none_more json f rows most i item text within at inv.0 full in
            (rw w.text-is (subst (λ r. AreLines json r text) (sym same) inv.0), w.count-is ∙ inv.1 ∙ ap length (sym same))
      ]
    ]
