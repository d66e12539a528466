use Rattle.std.proofs.Common.{◌≡◌, ◌∷◌, ℕ, List, [], Option, Some, codes, sym}
use Rattle.std.proofs.lemmas.Result.{err_from_is_err_and}
use Rattle.clap.specs.Matches.{first_value, found_of}
use Rattle.opc_cli_words.specs.Checks.{first_mistake}
use Rattle.opc_cli_words.specs.Options.{count_option, strict_option, timeout_option}
use Rattle.opc_cli_words.specs.Services.{address_checks}
use Rattle.opc_cli_words.proofs.Mistakes.{first_stays}
use Rattle.opc_cli_words.proofs.clients.clients_in.Goals as goal

pub returns-in_err-address : goal.returns-in_err-address
returns-in_err-address c =
    let value : List ℕ → Option (List ℕ) = first_value (found_of c.args.chosen.now) in
    let checks = address_checks (value (codes "port")) (value (codes "socket")) (value (codes "socket-mode")) in
    let mistake : first_mistake checks ≡ Some c.in_err-address.field-0.0 =
    rw (sym c.get_str.ensures, sym c.get_str-2.ensures, sym c.get_str-3.ensures) c.in_err-address.ensures in
    let err = err_from_is_err_and c.from_residual.result c.from_residual.ensures.1 in
    rw (err.1, err.2) (first_stays checks (strict_option value ∷ count_option value ∷ timeout_option value ∷ []) _ mistake)
