use Rattle.std.proofs.Common.{◌≡◌, take}
use Rattle.std.specs.Prelude.{string_bytes}
use Rattle.std.specs.List.{flat_map}
use Rattle.opc_answers_may.specs.MayJson.{section_json}
use Rattle.opc_answers_may.proofs.json.sections_json.Given as goal

abbrev pub invariant-loop-section : goal.invariant-loop-section
invariant-loop-section l = string_bytes l.text ≡ flat_map (section_json l.allowed l.found) (take l.section-index l.sections)
