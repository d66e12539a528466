use Rattle.std.proofs.Common.{◌∷◌, []}
use Rattle.std.proofs.KnownBytes.{Appends-trans}
use Rattle.std.proofs.lemmas.Result.{MatchResult-weaker, err_from_is_err_and}
use Rattle.opc_cli_program.proofs.Prefixes.{cut_in_first, cut_in_second}
use Rattle.opc_cli_program.proofs.printing.write_line.Goals as goal

pub returns-in_err-write_text-clause-text : goal.returns-in_err-write_text-clause-text
returns-in_err-write_text-clause-text g c =
    let err = err_from_is_err_and c.from_residual.result c.from_residual.ensures.1 in
    rw err.1 (cut_in_first _ _ c.args.text.now (10 ∷ []) c.in_err-write_text.ensures.text)

pub returns-clause-text : goal.returns-clause-text
returns-clause-text g c =
    MatchResult-weaker c.write_text-2.result c.write_text-2.ensures.text
    (λ _ h. Appends-trans _ _ _ c.args.text.now (10 ∷ []) c.in_ok-write_text.ensures.text h)
    (λ _ h. cut_in_second _ _ _ c.args.text.now (10 ∷ []) c.in_ok-write_text.ensures.text h)
