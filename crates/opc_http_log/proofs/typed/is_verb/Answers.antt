use Rattle.std.proofs.Common.{◌≡◌, ◌∙◌, List, ℕ, false, inl, inr, refl, sym}
use Rattle.std.specs.Prelude.{IsUtf8}
use Rattle.std.specs.Str.{is_utf8}
use Rattle.std.proofs.lemmas.Bool.{cases_Bool}
use Rattle.std.proofs.lemmas.Str.{IsUtf8-from_is_utf8, is_utf8-from_IsUtf8}
use Rattle.opc_http_log.specs.Typed.{has_verb, is_verb, read_as}
use Rattle.opc_http_log.proofs.typed.is_verb.Goals as goal

of_text : (word : List ℕ) → IsUtf8 word → is_verb word ≡ has_verb (read_as word)
of_text word text = rw (is_utf8-from_IsUtf8 word text) refl

of_other : (word : List ℕ) → ¬ (IsUtf8 word) → is_verb word ≡ false
of_other word none = elim (cases_Bool (is_utf8 word)) [
  | inl text ↦ absurd (none (IsUtf8-from_is_utf8 word text))
  | inr other ↦ rw other refl
]

pub returns-in-Ok : goal.returns-in-Ok
returns-in-Ok c =
    let text = c.in-Ok.ensures.cases in
    (rw text.0 at c.has_verb.ensures) ∙ sym (of_text c.args.word.now text.1)

pub returns-in-Err : goal.returns-in-Err
returns-in-Err c = sym (of_other c.args.word.now c.in-Err.ensures.cases.0)
