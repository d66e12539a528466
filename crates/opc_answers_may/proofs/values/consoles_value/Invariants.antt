use Rattle.std.proofs.Common.{◌≡◌, map, take}
use Rattle.serde_json.specs.Data.{string}
use Rattle.serde_json.specs.View.{view}
use Rattle.opc_answers_may.specs.MayTexts.{console_of}
use Rattle.opc_answers_may.proofs.values.consoles_value.Given as goal

abbrev pub invariant-loop-logon : goal.invariant-loop-logon
invariant-loop-logon l = map view l.items.items ≡ map string (map console_of (take l.logon-index l.logons))
