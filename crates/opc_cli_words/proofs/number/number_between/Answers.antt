use Rattle.std.proofs.Common.{◌≡◌, ◌<◌, ◌∙◌, true, length, arith, sym, ap}
use Rattle.std.proofs.lemmas.Bool.Decides.{nat_tests}
use Rattle.std.specs.Char.{is_ascii_digit}
use Rattle.std.specs.List.{list_all}
use Rattle.opc_cli_words.proofs.Numbers.{refused_is_past}
use Rattle.opc_cli_words.proofs.number.number_between.Goals as goal

pub returns-in_default-3 : goal.returns-in_default-3
returns-in_default-3 c =
    let some : 0 < length c.args.text.now = grind (arith, nat_tests, c.is_empty.ensures, c.if-is_empty.false) in
    let digits : list_all is_ascii_digit c.args.text.now ≡ true =
    ap (list_all is_ascii_digit) (sym c.as_bytes.ensures.value) ∙ sym c.are_digits.ensures
    ∙ c.if-not-are_digits.false in
    sym (refused_is_past c.args.least c.args.most c.args.text.now c.ranges.most.fits some digits c.in_default.ensures.value.0)
