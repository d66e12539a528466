use Rattle.std.proofs.Common.{subst}
use Rattle.std.proofs.lemmas.Result.{IfOk-weaker}
use Rattle.opc_check_notes.specs.Digests.{HasDigests}
use Rattle.opc_check_notes.proofs.OfKind.{digests_of}
use Rattle.opc_check_notes.proofs.digests.digests.Goals as goal

pub returns : goal.returns
returns c =
    IfOk-weaker c.digests_among.result _ _
    (λ digests has. digests_of c.args.rows.now digests (subst (λ l. HasDigests l digests) c.of.ensures has)) c.digests_among.ensures
