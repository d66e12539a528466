use Rattle.std.proofs.Common.{◌∙◌}
use Rattle.std.proofs.lemmas.Result.{err_from_is_err_and}
use Rattle.opc_answers.proofs.Making.{members_so, refused_so, state_so}
use Rattle.opc_answers.proofs.room.Room.of_rows.Goals as goal

pub returns-clause-state : goal.returns-clause-state
returns-clause-state c =
    state_so c.args.rows.now c.in_ok-policy.policy c.in_ok-board.board c.in_ok-policy.ensures.ok c.in_ok-board.ensures

pub returns-clause-members : goal.returns-clause-members
returns-clause-members c = members_so c.args.rows.now c.in_ok-policy.policy _ _ _ c.in_ok-policy.ensures.ok
    (c.as_slice.ensures.value ∙ c.in_ok-users.ensures) (c.as_slice-2.ensures.value ∙ c.in_ok-connects.ensures.connects)
    c.in_ok-members.ensures

pub returns-in_err-policy-clause-fault : goal.returns-in_err-policy-clause-fault
returns-in_err-policy-clause-fault c =
    let err = err_from_is_err_and c.from_residual.result c.from_residual.ensures.1 in
    rw (err.1, err.2) (λ other. refused_so c.args.rows.now _ (c.in_err-policy.ensures.fault other))
