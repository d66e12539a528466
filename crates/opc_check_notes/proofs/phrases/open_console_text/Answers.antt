use Rattle.std.proofs.Common.{◌≡◌, ◌++◌, ℕ, List, subst}
use Rattle.std.specs.Prelude.{IfOk, codes, string_bytes}
use Rattle.opc_check_notes.proofs.phrases.open_console_text.Goals as goal

pub returns : goal.returns
returns c = subst (λ (words : List ℕ). IfOk c.open_console_words.result (λ text. string_bytes text
    ≡ codes "console " ++ (c.args.console.now ++ (codes " is OPTIONAL: without a logon it allows " ++ words))))
    c.opened.ensures c.open_console_words.ensures
