use Rattle.opc_answers_diff.proofs.Differing.{lists_who_differs}
use Rattle.opc_answers_diff.proofs.Elsewhere.{differs_as_at_none, raises_where_named}
use Rattle.opc_answers_diff.proofs.laws.lists_exactly_who_differs.Goals as goal

pub returns : goal.returns
returns c = record { names = lists_who_differs; elsewhere = differs_as_at_none; named = raises_where_named }
