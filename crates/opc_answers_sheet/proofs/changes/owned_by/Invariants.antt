use Rattle.std.proofs.Common.{◌≡◌, map}
use Rattle.std.specs.Map.Iter.{deref}
use Rattle.std.specs.Prelude.{string_bytes}
use Rattle.opc_answers_sheet.specs.Changes.{owned_by}
use Rattle.opc_answers_sheet.proofs.changes.owned_by.Given as goal

abbrev pub invariant-loop-profile : goal.invariant-loop-profile
invariant-loop-profile l = map string_bytes l.owned.items ≡ owned_by l.id (map deref l.yielded)
