use Rattle.std.proofs.Common.{◌≡◌, ◌∙◌, ◌+◌, [], drop, get_or, length, take, sym, arith}
use Rattle.std.proofs.lemmas.List.{append-nil, length-take}
use Rattle.csv.specs.declared.parser.State.TheVariants as st
use Rattle.opc_import.specs.CsvBytes.{state_of}
use Rattle.opc_import.proofs.Cutting.{after_field, after_nothing, after_record, after_tenth, all_bytes, byte_more, cut}
use Rattle.opc_import.proofs.CutRows.{few_fields, read_alike}
use Rattle.opc_import.proofs.extent.length_read.Goals.{in-Nothing, in-Record, in-Field+else-ended-eq10}
use Rattle.opc_import.proofs.extent.length_read.Goals as goal

pub returns-then-ended-eq10-clause-alike : goal.returns-then-ended-eq10-clause-alike
returns-then-ended-eq10-clause-alike c =
    let text = c.args.text.now in
    let at = c.loop-at.at in
    let tenth = after_tenth (state_of c.loop-at.place) c.loop-at.ended (get_or text at 0) (drop (at + 1) text)
    (sym c.step-next.ensures.end ∙ c.in-Field.is) c.if-ended-eq10.true in
    let is : cut st.StartRecord 0 text ≡ take (at + 1) text =
    byte_more text _ _ at c.loop-at.invariant.0 [] c.loop-at-test.true tenth ∙ append-nil (take (at + 1) text) in
    read_alike text (take (at + 1) text) is (omega (arith, length-take (at + 1) text))

pub returns-then-ended-eq10-clause-few : goal.returns-then-ended-eq10-clause-few
returns-then-ended-eq10-clause-few c =
    let text = c.args.text.now in
    let at = c.loop-at.at in
    let tenth = after_tenth (state_of c.loop-at.place) c.loop-at.ended (get_or text at 0) (drop (at + 1) text)
    (sym c.step-next.ensures.end ∙ c.in-Field.is) c.if-ended-eq10.true in
    let is : cut st.StartRecord 0 text ≡ take (at + 1) text =
    byte_more text _ _ at c.loop-at.invariant.0 [] c.loop-at-test.true tenth ∙ append-nil (take (at + 1) text) in
    few_fields text (take (at + 1) text) is

pub loop-at-preserved : goal.loop-at-preserved
loop-at-preserved c =
    let text = c.args.text.now in
    let at = c.loop-at.at in
    let s = state_of c.loop-at.place in
    let byte = get_or text at 0 in
    let so_far = c.loop-at.invariant.0 in
    elim c.match-next.branch [
      | in-Nothing w ↦ rw (w.ended-is, c.step-next.ensures.place) (
        byte_more text _ _ at so_far _ c.loop-at-test.true
            (after_nothing s c.loop-at.ended byte (drop (at + 1) text) (sym c.step-next.ensures.end ∙ w.in-Nothing.is)),
        c.loop-at.invariant.1,
      )
      | in-Record w ↦ rw (w.ended-is, c.step-next.ensures.place) (
        byte_more text _ _ at so_far _ c.loop-at-test.true
            (after_record s c.loop-at.ended byte (drop (at + 1) text) (sym c.step-next.ensures.end ∙ w.in-Record.is)),
        omega arith,
      )
      | in-Field+else-ended-eq10 w ↦ rw (w.ended-is, c.step-next.ensures.place) (
        byte_more text _ _ at so_far _ c.loop-at-test.true
            (after_field s c.loop-at.ended byte (drop (at + 1) text) (sym c.step-next.ensures.end ∙ w.in-Field.is) w.if-ended-eq10.false),
        omega (arith, c.loop-at.invariant.1, w.if-ended-eq10.false),
      )
    ]

pub returns-clause-few : goal.returns-clause-few
returns-clause-few c =
    let text = c.args.text.now in
    few_fields text (take (length text) text) (all_bytes text _ _ c.loop-at.at c.loop-at.invariant.0 c.loop-at-test.false)
