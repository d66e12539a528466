use Rattle.std.proofs.Common.{◌≡◌, drop, map}
use Rattle.opc_policy_members.specs.declared.entry.Entry.{Entry}
use Rattle.opc_answers_sheet.specs.Marks.{marked, marks_in}
use Rattle.opc_answers_sheet.proofs.marks.marks_in.Given as goal

abbrev pub invariant-loop-entry : goal.invariant-loop-entry
invariant-loop-entry l = marked l.marks (map (λ (e : Entry). e.id) (drop l.entry-index l.entries)) ≡ marks_in l.entries
