use Rattle.std.proofs.Common.{ap, ◌∙◌}
use Rattle.serde_json.specs.Written.{has_float}
use Rattle.opc_answers_may.proofs.NoFloats.{forms_so}
use Rattle.opc_answers_may.proofs.json.forms_json.Goals as goal

pub json_line-requires : goal.json_line-requires
json_line-requires c = ap has_float c.in_ok-value.ensures ∙ forms_so c.args.head.now c.args.line.now c.args.found.now
