use Rattle.std.proofs.Common.{◌∙◌, ap}
use Rattle.std.specs.Option.{option_copied}
use Rattle.serde_json.specs.Written.{has_float}
use Rattle.opc_answers_diff.proofs.Sectioned.{section_so}
use Rattle.opc_answers_diff.proofs.sections.section_line.Goals as goal

pub json_line-requires : goal.json_line-requires
json_line-requires c =
    ap has_float c.in_ok-value.ensures
    ∙ section_so c.args.kind.now c.args.found.now (option_copied c.args.one) (option_copied c.args.other)
