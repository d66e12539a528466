use Rattle.opc_answers_may.proofs.Changing.{both_see_the_account, owners_permit, special_changes}
use Rattle.opc_answers_may.proofs.laws.says_what_the_gate_lets_change.Goals as goal

pub returns : goal.returns
returns c = record { special = special_changes; owner = owners_permit; account = both_see_the_account }
