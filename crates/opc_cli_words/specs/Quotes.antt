-- Commands that are not quoted.
use Rattle.std.specs.Prelude.{◌==◌, ◌&&◌, ℕ, Bool, List, codes, not}
use Rattle.std.specs.List.{list_any}
use Rattle.std.specs.Str.{bytes_eq}
use Rattle.opc_answers.specs.Needed.{is_logon}

-- A verb without its operands: one word, and neither LOGOFF, which has none, nor LOGON, whose operands do not count.
abbrev pub is_verb_alone : List ℕ → Bool
is_verb_alone text =
    not (list_any (λ c. c == 32) text) && not (bytes_eq text (codes "LOGOFF")) && not (is_logon text)
