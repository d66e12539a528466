use Rattle.std.proofs.Common.{◌≡◌, ◌∙◌, ap, arith, get_or, subst}
use Rattle.std.proofs.lemmas.Result.{err_from_is_err_and}
use Rattle.opc_cli_script.specs.Transcripts.{ended}
use Rattle.opc_cli_script.specs.Running.{AppendsPrefix}
use Rattle.opc_board.specs.declared.line.Line.{Line}
use Rattle.opc_cli_program.proofs.Prefixes.{cut_in_one}
use Rattle.opc_cli_program.proofs.printing.write_lines.Goals as goal

pub returns-in_err-write_line-clause-text : goal.returns-in_err-write_line-clause-text
returns-in_err-write_line-clause-text g c =
    let err = err_from_is_err_and c.from_residual.result c.from_residual.ensures.1 in
    let lines = c.args.lines.now in
    let at = c.loop-line.line-index in
    let item = c.line-item.result in
    let shown : c.as_str.result.now ≡ (get_or lines at item).text = c.as_str.ensures ∙ ap (λ (line : Line). line.text) c.line-item.is in
    let cut = subst (λ text. AppendsPrefix (g.K.Sink.held c.loop-line.output) (g.K.Sink.held c.write_line.new.output)
    (ended text)) shown c.in_err-write_line.ensures.text in
    rw err.1 (cut_in_one (λ (line : Line). ended line.text) _ _ _ lines at item (omega arith) c.loop-line.invariant.0 cut)
