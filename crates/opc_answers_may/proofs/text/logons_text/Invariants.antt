use Rattle.std.proofs.Common.{◌≡◌, take}
use Rattle.std.specs.Prelude.{string_bytes}
use Rattle.std.specs.List.{flat_map}
use Rattle.opc_answers_may.specs.MayTexts.{basis_text}
use Rattle.opc_answers_may.proofs.text.logons_text.Given as goal

abbrev pub invariant-loop-basis : goal.invariant-loop-basis
invariant-loop-basis l = string_bytes l.text ≡ flat_map (basis_text l.allowed l.logons.items) (take l.basis-index l.basis-items)
