use Rattle.std.proofs.Common.{◌≡◌, ◌∷◌, [], map, take}
use Rattle.std.specs.Prelude.{string_bytes}
use Rattle.opc_embedded.proofs.words.arguments_in.Given as goal

abbrev pub invariant-loop-part : goal.invariant-loop-part
invariant-loop-part l = map string_bytes l.words.items ≡ [] ∷ map (λ p. p.now) (take l.part-index l.part-items)
