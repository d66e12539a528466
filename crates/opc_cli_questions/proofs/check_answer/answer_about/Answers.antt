use Rattle.std.proofs.Common.{◌∙◌, ap, arith, inl}
use Rattle.std.proofs.lemmas.Bool.Decides.{nat_tests}
use Rattle.std.proofs.lemmas.Result.{IfOk-weaker}
use Rattle.opc_cli_questions.specs.Checks.{whole}
use Rattle.opc_cli_questions.proofs.check_answer.answer_about.Goals as goal

pub returns-then-bytes : goal.returns-then-bytes
returns-then-bytes c =
    IfOk-weaker c.whole.result _ _
    (λ answer is. inl (omega (arith, nat_tests, c.if-bytes.true), is ∙ ap (whole c.args.form) c.too_long.ensures)) c.whole.ensures
