-- The groups that give a level, line by line.
use Rattle.std.proofs.Common.{◌≡◌, ◌<◌, ◌+◌, ◌++◌, ◌∙◌, ℕ, List, [], ◌∷◌, ap, get_or, length, refl, sym, take}
use Rattle.std.proofs.lemmas.List.{take_more}
use Rattle.opc_answers.specs.declared.lines.UserLine.{UserLine}
use Rattle.opc_answers_sheet.specs.Ways.{groups_after, with_held}

steps : (one more : List UserLine) (groups : List (List ℕ)) → groups_after (one ++ more) groups ≡ groups_after more (groups_after one groups)
steps [] more groups = refl
steps (line ∷ one) more groups = steps one more (with_held line.held groups)

pub groups_more : (all : List UserLine) (i : ℕ) (line : UserLine) (start groups new : List (List ℕ)) → i < length all
    → line ≡ get_or all i line → groups ≡ groups_after (take i all) start → new ≡ with_held line.held groups
    → new ≡ groups_after (take (i + 1) all) start
groups_more all i line start groups new low is was next =
    next
    ∙ ap (with_held line.held) was
    ∙ sym (ap (λ xs. groups_after xs start) (take_more all i line low ∙ ap (λ x. take i all ++ x ∷ []) (sym is))
    ∙ steps (take i all) (line ∷ []) start)
