use Rattle.std.proofs.Common.{◌≡◌, ◌∙◌, false, rules, sym, true}
use Rattle.std.proofs.lemmas.Str.{IsUtf8-past_char}
use Rattle.opc_cli_failures.proofs.Showing.{hidden_here, hidden_later, none_hidden}
use Rattle.opc_cli_failures.proofs.shown_text.has_hidden.Goals as goal

pub loop-character-preserved : goal.loop-character-preserved
loop-character-preserved c =
    let held = c.loop-character.invariant in
    let parts = c.in-Some.ensures.steps.0 in
    let plain : c.is_hidden.result ≡ false = search rules in
    (IsUtf8-past_char _ _ c.in-Some.character held.0 parts, hidden_later _ _ c.in-Some.character held.0 parts (sym c.is_hidden.ensures ∙ plain) ∙ held.1)

pub returns-then-is_hidden : goal.returns-then-is_hidden
returns-then-is_hidden c =
    let held = c.loop-character.invariant in
    let hidden : c.is_hidden.result ≡ true = search rules in
    sym (sym held.1 ∙ hidden_here _ _ c.in-Some.character held.0 c.in-Some.ensures.steps.0 (sym c.is_hidden.ensures ∙ hidden))

pub returns : goal.returns
returns c = sym (sym c.loop-character.invariant.1 ∙ none_hidden _ c.in-None.ensures.steps.0.0)
