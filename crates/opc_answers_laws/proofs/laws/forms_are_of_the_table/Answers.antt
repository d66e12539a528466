use Rattle.opc_answers_laws.proofs.Formed.{console_lines, forms_are_asked_about, needs_have_forms, unit_lines}
use Rattle.opc_answers_laws.proofs.laws.forms_are_of_the_table.Goals as goal

pub returns : goal.returns
returns c = record { needs = needs_have_forms; units = unit_lines; consoles = console_lines; asked = forms_are_asked_about }
