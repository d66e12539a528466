use Rattle.std.proofs.Common.{◌≡◌, ◌∙◌, false, rules, sym, true}
use Rattle.std.proofs.lemmas.Str.{IsUtf8-past_char}
use Rattle.opc_cli_failures.proofs.Escaping.{unprintable_here, unprintable_later, none_unprintable}
use Rattle.opc_cli_failures.proofs.escaped.some_unprintable.Goals as goal

pub loop-character-preserved : goal.loop-character-preserved
loop-character-preserved c =
    let held = c.loop-character.invariant in
    let parts = c.in-Some.ensures.steps.0 in
    let plain : c.is_unprintable.result ≡ false = search rules in
    let later = unprintable_later _ _ c.in-Some.character held.0 parts (sym c.is_unprintable.ensures ∙ plain) in
    (IsUtf8-past_char _ _ c.in-Some.character held.0 parts, later ∙ held.1)

pub returns-then-is_unprintable : goal.returns-then-is_unprintable
returns-then-is_unprintable c =
    let held = c.loop-character.invariant in
    let hidden : c.is_unprintable.result ≡ true = search rules in
    sym (sym held.1 ∙ unprintable_here _ _ c.in-Some.character held.0 c.in-Some.ensures.steps.0 (sym c.is_unprintable.ensures ∙ hidden))

pub returns : goal.returns
returns c = sym (sym c.loop-character.invariant.1 ∙ none_unprintable _ c.in-None.ensures.steps.0.0)
