-- Names of both sides, taken one after another.
use Rattle.std.proofs.Common.{◌≡◌, ◌<◌, ◌+◌, ◌∙◌, ℕ, List, [], ◌∷◌, ◌++◌, ap, refl, sym, take, get_or, length}
use Rattle.std.specs.BTreeSet.{insert_key}
use Rattle.std.proofs.lemmas.List.{take_more}
use Rattle.opc_policy_members.specs.Members.{name_cmp}
use Rattle.opc_board.specs.declared.rows.ConsoleRow.{ConsoleRow}
use Rattle.opc_policy_members.specs.declared.entry.Entry.{Entry}
use Rattle.opc_answers.specs.declared.members.UserWithGroups.{UserWithGroups}
use Rattle.opc_answers_diff.specs.Consoles.{names_with}
use Rattle.opc_answers_diff.specs.Members.{ids_with}
use Rattle.opc_answers_diff.specs.Verdicts.{consoles_with, with_console}

names_steps : (one more : List ConsoleRow) (names : List (List ℕ)) → names_with (one ++ more) names ≡ names_with more (names_with one names)
names_steps [] more names = refl
names_steps (c ∷ one) more names = names_steps one more (insert_key name_cmp names c.name)

pub names_more : (all : List ConsoleRow) (i : ℕ) (c : ConsoleRow) (start names new : List (List ℕ)) → i < length all → c ≡ get_or all i c
    → names ≡ names_with (take i all) start → new ≡ insert_key name_cmp names c.name → new ≡ names_with (take (i + 1) all) start
names_more all i c start names new low is was next =
    next
    ∙ ap (λ x. insert_key name_cmp x c.name) was
    ∙ sym (ap (λ xs. names_with xs start) (take_more all i c low ∙ ap (λ x. take i all ++ x ∷ []) (sym is))
    ∙ names_steps (take i all) (c ∷ []) start)

ids_steps : (one more : List UserWithGroups) (ids : List (List ℕ)) → ids_with (one ++ more) ids ≡ ids_with more (ids_with one ids)
ids_steps [] more ids = refl
ids_steps (m ∷ one) more ids = ids_steps one more (insert_key name_cmp ids m.user.id)

pub ids_more : (all : List UserWithGroups) (i : ℕ) (m : UserWithGroups) (start ids new : List (List ℕ)) → i < length all → m ≡ get_or all i m
    → ids ≡ ids_with (take i all) start → new ≡ insert_key name_cmp ids m.user.id → new ≡ ids_with (take (i + 1) all) start
ids_more all i m start ids new low is was next =
    next
    ∙ ap (λ x. insert_key name_cmp x m.user.id) was
    ∙ sym (ap (λ xs. ids_with xs start) (take_more all i m low ∙ ap (λ x. take i all ++ x ∷ []) (sym is))
    ∙ ids_steps (take i all) (m ∷ []) start)

consoles_steps : (one more : List Entry) (consoles : List (List ℕ))
    → consoles_with (one ++ more) consoles ≡ consoles_with more (consoles_with one consoles)
consoles_steps [] more consoles = refl
consoles_steps (e ∷ one) more consoles = consoles_steps one more (with_console e.when consoles)

pub consoles_more : (all : List Entry) (i : ℕ) (e : Entry) (start consoles new : List (List ℕ)) → i < length all → e ≡ get_or all i e
    → consoles ≡ consoles_with (take i all) start → new ≡ with_console e.when consoles → new ≡ consoles_with (take (i + 1) all) start
consoles_more all i e start consoles new low is was next =
    next
    ∙ ap (with_console e.when) was
    ∙ sym (ap (λ xs. consoles_with xs start) (take_more all i e low ∙ ap (λ x. take i all ++ x ∷ []) (sym is))
    ∙ consoles_steps (take i all) (e ∷ []) start)
