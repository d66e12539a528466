use Rattle.std.proofs.Common.{subst, sym}
use Rattle.std.proofs.lemmas.Result.{err_from_is_err_and}
use Rattle.opc_cli_questions.specs.PolicyFiles.{AreReadFrom}
use Rattle.opc_cli_questions.proofs.Files.{AreFirst, are_read, are_read_from, unread}
use Rattle.opc_cli_questions.proofs.policy_file.read_rows.Goals as goal

pub returns-clause-rows : goal.returns-clause-rows
returns-clause-rows g c =
    let left = g.R.Read.remaining c.args.input.now in
    let first = subst (AreFirst left) (sym c.deref.ensures.value) c.in-Ok.ensures.bytes in
    are_read left c.deref.result.now _ first c.in_ok-rows.ensures.rows

pub returns-clause-bytes : goal.returns-clause-bytes
returns-clause-bytes g c =
    let left = g.R.Read.remaining c.args.input.now in
    let first = subst (AreFirst left) (sym c.deref.ensures.value) c.in-Ok.ensures.bytes in
    subst (λ b. AreReadFrom left b c.in_ok-rows.rows.items) c.deref.ensures.value (are_read_from left c.deref.result.now _ first c.in_ok-rows.ensures.rows)

pub returns-in_err-rows-clause-fault : goal.returns-in_err-rows-clause-fault
returns-in_err-rows-clause-fault g c =
    let left = g.R.Read.remaining c.args.input.now in
    let first = subst (AreFirst left) (sym c.deref.ensures.value) c.in-Ok.ensures.bytes in
    let err = err_from_is_err_and c.from_residual.result c.from_residual.ensures.1 in
    rw (err.1, err.2) (unread left c.deref.result.now _ first c.in_err-rows.ensures.fault)
