use Rattle.std.proofs.Common.{◌≡◌, ◌≤◌, ◌<◌, ◌+◌, ◌∙◌, ap, arith, get_or, length, refl, sym, take}
use Rattle.std.specs.Prelude.{if◌then◌else◌, ◌==◌}
use Rattle.std.proofs.lemmas.List.{length_push}
use Rattle.csv.specs.Machine.{line_feed}
use Rattle.opc_import.specs.CsvBytes.{state_of}
use Rattle.opc_check.specs.RowLines.{line_after}
use Rattle.opc_check.proofs.RowLineSteps.{all_numbered, begun, line_past_byte, no_more, not_begun}
use Rattle.opc_check.proofs.row_lines.record_lines.Goals.{then-begins+else-len-eq-MOST_NUMBERED+in_ok-push, else-begins}
use Rattle.opc_check.proofs.row_lines.record_lines.Goals as goal

pub returns-then-len-eq-MOST_NUMBERED : goal.returns-then-len-eq-MOST_NUMBERED
returns-then-len-eq-MOST_NUMBERED c =
    let full : length c.loop-byte.lines.items ≡ 10002 = omega (arith, c.if-len-eq-MOST_NUMBERED.true, c.len.ensures, c.loop-byte.lines.ok.0) in
    all_numbered _ _ _ 10002 c.loop-byte.invariant.so_far full

pub loop-byte-preserved : goal.loop-byte-preserved
loop-byte-preserved c =
    let held = c.loop-byte.invariant in
    let text = c.args.text.now in
    let at = c.loop-byte.byte-index in
    let byte = get_or text at 0 in
    let low : at < length text = omega arith in
    let line : c.line_past-line.result ≡ line_after (take (at + 1) text) =
    c.line_past-line.ensures
    ∙ ap (λ n. if byte == line_feed then n + 1 else n) held.line
    ∙ line_past_byte text at byte low refl in
    let past : c.line_past-line.result ≤ at + 1 + 1 = grind (arith, c.line_past-line.ensures, held.low) in
    elim c.if-begins.branch [
      | then-begins+else-len-eq-MOST_NUMBERED+in_ok-push w ↦ record {
        so_far = rw (c.step-place.ensures.place, w.lines-is, w.in_ok-push.ensures.items, held.line)
            (begun text at byte low refl _ _ (state_of c.loop-byte.place) held.so_far (sym c.begins.ensures ∙ w.if-begins.true));
        line = line;
        low = past;
        few = rw (w.lines-is, w.in_ok-push.ensures.items)
            (omega (arith, length_push c.loop-byte.lines.items c.loop-byte.line, held.few, w.if-len-eq-MOST_NUMBERED.false, w.len.ensures, c.loop-byte.lines.ok.0));
      }
      | else-begins w ↦ record {
        so_far = rw (c.step-place.ensures.place, w.lines-is)
            (not_begun text at byte low refl _ _ (state_of c.loop-byte.place) held.so_far (sym c.begins.ensures ∙ w.if-begins.false));
        line = line;
        low = past;
        few = rw w.lines-is held.few;
      }
    ]

pub returns : goal.returns
returns c =
    let held = c.loop-byte.invariant in
    no_more _ _ c.args.text.now (state_of c.loop-byte.place) c.loop-byte.byte-index 10002 (omega arith) held.few held.so_far
