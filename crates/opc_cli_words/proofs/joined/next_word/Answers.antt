use Rattle.std.proofs.Common.{◌≡◌, ◌∙◌, ◌∷◌, ap, map, sym}
use Rattle.std.specs.Prelude.{string_bytes}
use Rattle.opc_cli_words.specs.Joined.{joined}
use Rattle.opc_cli_words.proofs.Joining.{are_one, are_two, is_last}
use Rattle.opc_cli_words.proofs.joined.next_word.Goals.{in_default-via-in-Some+else-is_apart, in_default-via-in_default}
use Rattle.opc_cli_words.proofs.joined.next_word.Goals as goal

pub returns-in_ok-pair-in-Some-clause-joined : goal.returns-in_ok-pair-in-Some-clause-joined
returns-in_ok-pair-in-Some-clause-joined c =
    let word = string_bytes c.args.word.now in
    let after = map string_bytes c.in-Some.after.now in
    ap (λ r. joined (word ∷ map string_bytes r)) c.in-Some.ensures.cases.0
    ∙ are_one word (string_bytes c.in-Some.value.now) after (sym c.is_apart.ensures ∙ c.if-is_apart.true)
    ∙ ap (λ text. text ∷ joined after) (sym c.in_ok-pair-in-Some.ensures)

pub returns-in_ok-clone-in_default-clause-joined : goal.returns-in_ok-clone-in_default-clause-joined
returns-in_ok-clone-in_default-clause-joined c =
    let word = string_bytes c.args.word.now in
    let same = ap (λ text. text ∷ joined (map string_bytes c.args.rest.now)) (sym c.in_ok-clone-in_default.ensures.cases) in
    elim c.in_default.branch [
      | in_default-via-in-Some+else-is_apart w ↦
          let is = w.in-Some.ensures.cases.0 in
          ap (λ r. joined (word ∷ map string_bytes r)) is
          ∙ are_two word (string_bytes w.in-Some.value.now) (map string_bytes w.in-Some.after.now) (sym w.is_apart.ensures ∙ w.if-is_apart.false)
          ∙ ap (λ r. word ∷ joined (map string_bytes r)) (sym is) ∙ same
      | in_default-via-in_default w ↦ is_last word c.args.rest.now w.in_default.ensures.cases ∙ same
    ]
