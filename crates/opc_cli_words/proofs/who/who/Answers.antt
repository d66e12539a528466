use Rattle.std.proofs.Common.{◌≡◌, ◌∙◌, ◌∷◌, ℕ, List, [], None, Option, Some, ap, codes, false, sym}
use Rattle.std.proofs.lemmas.Result.{err_from_is_err_and}
use Rattle.clap.specs.Matches.{first_value, found_of}
use Rattle.opc_cli_words.specs.Enquiries.{enquiry_checks}
use Rattle.opc_cli_words.specs.Options.{console_option, given, logon_option, quotes_option, source_option}
use Rattle.opc_cli_words.proofs.Mistakes.{first_follows, first_stays, last_of_four}
use Rattle.opc_cli_words.proofs.who.who.Goals as goal

pub returns-in-Err : goal.returns-in-Err
returns-in-Err c =
    let value : List ℕ → Option (List ℕ) = first_value (found_of c.args.chosen.now) in
    first_stays
    (enquiry_checks (value (codes "command")) (value (codes "as")) (value (codes "resource")) (value (codes "level")) (given value (codes "class")))
    (console_option value ∷ quotes_option value ∷ source_option value ∷ logon_option value (value (codes "command")) ∷ []) c.in-Err.mistake c.in-Err.ensures

pub returns-in_err-place_logon-in-Ok : goal.returns-in_err-place_logon-in-Ok
returns-in_err-place_logon-in-Ok c =
    let value : List ℕ → Option (List ℕ) = first_value (found_of c.args.chosen.now) in
    let logon = logon_option value (value (codes "command")) in
    let no : logon.1 ≡ false =
    rw (sym c.get_str.ensures, sym c.in_ok-console-in-Ok.ensures.0) c.in_err-place_logon-in-Ok.ensures.1 in
    let err = err_from_is_err_and c.from_residual-in_err-place_logon-in-Ok.result c.from_residual-in_err-place_logon-in-Ok.ensures.1 in
    rw (err.1, err.2, c.in_err-place_logon-in-Ok.ensures.0)
    (first_follows
    (enquiry_checks (value (codes "command")) (value (codes "as")) (value (codes "resource")) (value (codes "level")) (given value (codes "class")))
    (console_option value ∷ quotes_option value ∷ source_option value ∷ logon ∷ []) c.in-Ok.ensures.1
    ∙ last_of_four (console_option value) (quotes_option value) (source_option value) logon
    c.in_ok-console-in-Ok.ensures.1 c.in_ok-need_quotes-in-Ok.ensures.1 c.in_ok-source-in-Ok.ensures.1 no)
