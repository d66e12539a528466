use Rattle.std.proofs.Common.{◌∙◌, ap, map}
use Rattle.std.proofs.lemmas.Result.{IfOk-weaker}
use Rattle.opc_answers_sheet.specs.Examples.{name_in}
use Rattle.opc_answers_sheet.proofs.Found.{names_so}
use Rattle.opc_answers_sheet.proofs.examples.names_of.Goals as goal

pub returns : goal.returns
returns c =
    IfOk-weaker c.names_in.result _ _
    (λ names is. is ∙ (ap (map name_in) c.as_slice.ensures.value ∙ names_so _ _ c.in_ok-forms.ensures)) c.names_in.ensures
