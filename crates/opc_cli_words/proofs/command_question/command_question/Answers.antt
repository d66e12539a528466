use Rattle.std.proofs.Common.{◌≡◌, ◌∙◌, ◌∷◌, ℕ, List, [], None, Option, Some, codes, sym}
use Rattle.std.proofs.lemmas.Result.{err_from_is_err_and}
use Rattle.clap.specs.Matches.{first_value, found_of}
use Rattle.opc_cli_words.specs.Checks.{first_mistake}
use Rattle.opc_cli_words.specs.Enquiries.{command_checks}
use Rattle.opc_cli_words.specs.Options.{console_option, logon_option, nobody_option, quotes_option, source_option}
use Rattle.opc_cli_words.proofs.Mistakes.{first_follows, first_stays}
use Rattle.opc_cli_words.proofs.command_question.command_question.Goals as goal

pub returns-in_err-kind : goal.returns-in_err-kind
returns-in_err-kind c =
    let value : List ℕ → Option (List ℕ) = first_value (found_of c.args.chosen.now) in
    let checks = command_checks (value (codes "as")) (value (codes "resource")) (value (codes "level")) in
    let mistake : first_mistake checks ≡ Some c.in_err-kind.field-0.0 =
    rw (sym c.get_str-kind.ensures, sym c.get_str.ensures, sym c.get_str-2.ensures) c.in_err-kind.ensures in
    let err = err_from_is_err_and c.from_residual-in_err-kind.result c.from_residual-in_err-kind.ensures.1 in
    rw (err.1, err.2, c.in_ok-user.ensures.1)
    (first_stays checks
    (console_option value ∷ nobody_option value ∷ quotes_option value ∷ source_option value
    ∷ logon_option value (Some c.args.text.now) ∷ [])
    _ mistake)

pub returns-in_err-console : goal.returns-in_err-console
returns-in_err-console c =
    let value : List ℕ → Option (List ℕ) = first_value (found_of c.args.chosen.now) in
    let checks = command_checks (value (codes "as")) (value (codes "resource")) (value (codes "level")) in
    let none : first_mistake checks ≡ None =
    rw (sym c.get_str-kind.ensures, sym c.get_str.ensures, sym c.get_str-2.ensures) c.in_ok-kind.ensures.1 in
    let mistake =
    first_stays (console_option value ∷ nobody_option value ∷ [])
    (quotes_option value ∷ source_option value ∷ logon_option value (Some c.args.text.now) ∷ [])
    _ c.in_err-console.ensures in
    let err = err_from_is_err_and c.from_residual-in_err-console.result c.from_residual-in_err-console.ensures.1 in
    rw (err.1, err.2, c.in_ok-user.ensures.1)
    (first_follows checks
    (console_option value ∷ nobody_option value ∷ quotes_option value ∷ source_option value
    ∷ logon_option value (Some c.args.text.now) ∷ [])
    none ∙ mistake)
