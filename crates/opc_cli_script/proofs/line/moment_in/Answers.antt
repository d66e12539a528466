use Rattle.std.proofs.Common.{◌≡◌, ◌∙◌, true, nat_le, length, arith, sym}
use Rattle.std.proofs.lemmas.Bool.Decides.{nat_tests}
use Rattle.opc_cli_script.specs.Scripts.{is_number, moment_digits}
use Rattle.opc_cli_script.proofs.Moments.{parsed_as}
use Rattle.opc_cli_script.proofs.line.moment_in.Goals as goal

pub returns : goal.returns
returns c =
    let is : is_number c.args.text.now ≡ true = sym c.is_number.ensures ∙ c.if-not-is_number.false in
    let short : nat_le (length c.args.text.now) moment_digits ≡ true = grind (arith, nat_tests, c.if-text-gt-MOMENT_DIGITS.false) in
    c.ok.ensures.value ∙ parsed_as c.args.text.now c.parse.result is short c.parse.ensures.value.0
