use Rattle.std.proofs.Common.{◌≤◌, ◌∙◌, ℕ, List, Ok, ap, length, sym}
use Rattle.std.specs.List.{list_any}
use Rattle.opc_names.specs.Patterns.{covers_text}
use Rattle.opc_policy_witness.specs.Witness.{IsWitness}
use Rattle.opc_policy_witness.proofs.Leading.{alone, as_near, none_meet, not_alone}
use Rattle.opc_policy_witness.proofs.Placing.{if_mapped}
use Rattle.opc_policy_witness.proofs.witness.witness.Goals as goal

pub returns-then-not-all_may_share_end-clause-none : goal.returns-then-not-all_may_share_end-clause-none
returns-then-not-all_may_share_end-clause-none c = λ e.
    none_meet c.args.form.now c.args.include.now c.args.exclude.now (c.all_may_share_end.ensures c.if-not-all_may_share_end.true)

pub returns-in_default-clause-none : goal.returns-in_default-clause-none
returns-in_default-clause-none c = λ e r w.
    c.in_ok-covered.ensures.none (ap Ok c.in_default.is) r
    (alone c.args.form.now c.args.include.now c.args.exclude.now r w)

pub returns-then-not-one_covers-clause-found : goal.returns-then-not-one_covers-clause-found
returns-then-not-one_covers-clause-found c =
    not_alone c.args.form.now c.args.include.now c.args.exclude.now c.in-Some.covered
    (rw c.in-Some.is at c.in_ok-covered.ensures.found) (sym c.one_covers.ensures ∙ c.if-not-one_covers.true)

pub returns-then-not-one_covers-clause-shortest : goal.returns-then-not-one_covers-clause-shortest
returns-then-not-one_covers-clause-shortest c = λ other w.
    (rw c.in-Some.is at c.in_ok-covered.ensures.shortest) other (alone c.args.form.now c.args.include.now c.args.exclude.now other w)

pub returns-clause-found : goal.returns-clause-found
returns-clause-found c =
    let near = c.as_slice.result.now in
    if_mapped c.shortest-2.result (IsWitness c.args.form.now c.args.include.now near)
    (IsWitness c.args.form.now c.args.include.now c.args.exclude.now)
    (as_near c.args.form.now c.args.include.now near c.args.exclude.now
    (λ r of_form all. ap (list_any (λ (q : List ℕ). covers_text q r)) c.as_slice.ensures.value ∙ c.in_ok-near.ensures r of_form all))
    c.shortest-2.ensures.found

pub returns-clause-shortest : goal.returns-clause-shortest
returns-clause-shortest c =
    let near = c.as_slice.result.now in
    if_mapped c.shortest-2.result
    (λ r. (other : List ℕ) → IsWitness c.args.form.now c.args.include.now near other → length r ≤ length other)
    (λ r. (other : List ℕ) → IsWitness c.args.form.now c.args.include.now c.args.exclude.now other → length r ≤ length other)
    (λ r h other w. h other (as_near c.args.form.now c.args.include.now c.args.exclude.now near
    (λ x of_form all. sym (ap (list_any (λ (q : List ℕ). covers_text q x)) c.as_slice.ensures.value ∙ c.in_ok-near.ensures x of_form all)) other w))
    c.shortest-2.ensures.shortest

pub returns-clause-none : goal.returns-clause-none
returns-clause-none c = λ e r w.
    c.shortest-2.ensures.none e r (as_near c.args.form.now c.args.include.now c.args.exclude.now c.as_slice.result.now
    (λ x of_form all. sym (ap (list_any (λ (q : List ℕ). covers_text q x)) c.as_slice.ensures.value ∙ c.in_ok-near.ensures x of_form all)) r w)
