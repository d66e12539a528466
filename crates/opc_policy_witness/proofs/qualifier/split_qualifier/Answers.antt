use Rattle.std.proofs.Common.{sym}
use Rattle.std.proofs.lemmas.List.{take_rest}
use Rattle.opc_names.proofs.Parts.{qualifiers_found, qualifiers_one}
use Rattle.opc_policy_witness.proofs.qualifier.split_qualifier.Goals as goal

pub returns-in-Some-clause-parts : goal.returns-in-Some-clause-parts
returns-in-Some-clause-parts c = rw take_rest (qualifiers_found _ _ (sym c.in-Some.ensures))

pub returns-in-None-clause-parts : goal.returns-in-None-clause-parts
returns-in-None-clause-parts c = qualifiers_one _ (sym c.in-None.ensures)
