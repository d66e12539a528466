use Rattle.std.proofs.Common.{◌≡◌, map, take}
use Rattle.opc_answers_sheet.specs.Examples.{name_in}
use Rattle.opc_answers_sheet.proofs.examples.names_in.Given as goal

abbrev pub invariant-loop-form : goal.invariant-loop-form
invariant-loop-form l = map (λ name. name.now) l.names.items ≡ map name_in (take l.form-index l.forms)
