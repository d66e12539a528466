use Rattle.std.proofs.Common.{◌≡◌, ◌∙◌, ◌<◌, ◌≤◌, true, nat_le, length, arith, sym, ap}
use Rattle.std.proofs.lemmas.Bool.Decides.{nat_tests}
use Rattle.std.specs.Char.{is_ascii_digit}
use Rattle.std.specs.List.{list_all}
use Rattle.opc_http_requests.proofs.Numbers.{number-of, parsed_as}
use Rattle.opc_http_requests.proofs.number.number_in.Goals as goal

pub returns : goal.returns
returns c =
    let some : 0 < length c.args.text.now = grind (arith, nat_tests, c.is_empty.ensures, c.if-is_empty.false) in
    let digits : list_all is_ascii_digit c.args.text.now ≡ true =
    ap (list_all is_ascii_digit) (sym c.as_bytes.ensures.value) ∙ sym c.are_digits.ensures
    ∙ c.if-not-are_digits.false in
    let short : nat_le (length c.args.text.now) c.args.most ≡ true = grind (arith, nat_tests, c.if-text-most.false) in
    let few : length c.args.text.now ≤ 18 = grind (arith, nat_tests, short, c.requires) in
    c.ok.ensures.value ∙ parsed_as c.args.text.now c.parse.result some digits few c.parse.ensures.value.0
    ∙ sym (number-of c.args.most c.args.text.now some digits short)
