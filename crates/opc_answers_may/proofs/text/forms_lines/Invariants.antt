use Rattle.std.proofs.Common.{◌≡◌, take}
use Rattle.std.specs.Prelude.{string_bytes}
use Rattle.std.specs.List.{flat_map}
use Rattle.opc_answers_may.specs.MayTexts.{forms_line}
use Rattle.opc_answers_may.proofs.text.forms_lines.Given as goal

abbrev pub invariant-loop-line : goal.invariant-loop-line
invariant-loop-line l = string_bytes l.text ≡ flat_map (forms_line l.allowed l.found) (take l.line-index l.lines)
