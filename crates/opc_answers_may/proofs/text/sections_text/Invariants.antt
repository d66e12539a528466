use Rattle.std.proofs.Common.{◌≡◌, take}
use Rattle.std.specs.Prelude.{string_bytes}
use Rattle.std.specs.List.{flat_map}
use Rattle.opc_answers_may.specs.MayTexts.{section_text}
use Rattle.opc_answers_may.proofs.text.sections_text.Given as goal

abbrev pub invariant-loop-section : goal.invariant-loop-section
invariant-loop-section l = string_bytes l.text ≡ flat_map (section_text l.allowed l.found) (take l.section-index l.sections)
