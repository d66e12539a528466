use Rattle.opc_answers_sheet.proofs.Plain.{no_markup}
use Rattle.opc_answers_sheet.proofs.laws.texts_have_no_markup.Goals as goal

pub returns : goal.returns
returns c = no_markup
