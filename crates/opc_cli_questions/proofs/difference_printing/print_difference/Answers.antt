use Rattle.std.proofs.Common.{◌∙◌, ◌++◌, ap, length, subst}
use Rattle.std.proofs.KnownBytes.{Appends-trans}
use Rattle.opc_answers_diff.specs.RowChanges.{row_changes}
use Rattle.opc_cli_questions.specs.Differences.{AreSections, rows_shown, status_of}
use Rattle.opc_cli_questions.proofs.difference_printing.print_difference.Goals as goal

pub returns : goal.returns
returns g c =
    let rest = c.in_ok-print_sections.ensures.text in
    let form = c.args.form in
    let both = c.in-Ok-of.compared in
    let rows = c.as_slice-rows.result.now in
    let all = c.as_slice-rows.ensures.value ∙ c.in-Ok.ensures ∙ ap (λ l. row_changes l c.as_slice-2.result.now) c.as_slice.ensures.value
    ∙ ap (row_changes c.args.old.rows.items) c.as_slice-2.ensures.value in (
      rows_shown form rows ++ rest.0,
      (
        record {
          both = both;
          before = c.in-Ok-of.ensures.before;
          after = c.in-Ok-of.ensures.after;
          compared = c.in-Ok-of.ensures.compared;
          sections = rest.0;
          are = subst (λ n. AreSections form both n rest.0) (ap length all) rest.1;
          is = ap (λ l. rows_shown form l ++ rest.0) all;
        },
        c.status_of.ensures ∙ ap status_of all,
      ),
      Appends-trans _ _ _ _ _ c.in_ok-print_rows.ensures.text rest.2,
    )
