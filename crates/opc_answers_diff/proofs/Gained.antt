-- Users of changes, taken one after another.
use Rattle.std.proofs.Common.{◌≡◌, ◌<◌, ◌+◌, ◌∙◌, ℕ, Bool, List, [], ◌∷◌, ◌++◌, ap, refl, sym, take, get_or, length}
use Rattle.std.specs.Prelude.{if◌then◌else◌}
use Rattle.std.specs.BTreeSet.{insert_key}
use Rattle.std.proofs.lemmas.List.{take_more}
use Rattle.opc_policy_members.specs.Members.{name_cmp}
use Rattle.opc_answers_diff.specs.declared.verdicts.UserChange.{UserChange}
use Rattle.opc_answers_diff.specs.Gains.{with_those}

those_steps : (test : UserChange → Bool) (one more : List UserChange) (ids : List (List ℕ))
    → with_those test (one ++ more) ids ≡ with_those test more (with_those test one ids)
those_steps test [] more ids = refl
those_steps test (c ∷ one) more ids = those_steps test one more (if test c then insert_key name_cmp ids c.id else ids)

pub those_more : (test : UserChange → Bool) (all : List UserChange) (i : ℕ) (c : UserChange) (start ids new : List (List ℕ)) → i < length all
    → c ≡ get_or all i c → ids ≡ with_those test (take i all) start → new ≡ (if test c then insert_key name_cmp ids c.id else ids)
    → new ≡ with_those test (take (i + 1) all) start
those_more test all i c start ids new low is was next =
    next
    ∙ ap (λ x. if test c then insert_key name_cmp x c.id else x) was
    ∙ sym (ap (λ xs. with_those test xs start) (take_more all i c low ∙ ap (λ x. take i all ++ x ∷ []) (sym is))
    ∙ those_steps test (take i all) (c ∷ []) start)
