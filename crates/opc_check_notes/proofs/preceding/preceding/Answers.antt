use Rattle.std.proofs.Common.{ℕ, ◌≤◌, List, ap, arith, length, map, subst, ◌∙◌}
use Rattle.std.specs.Cmp.Lexicographic.{slice_cmp}
use Rattle.std.specs.Ordering.{nat_cmp}
use Rattle.std.proofs.lemmas.Result.{IfOk-weaker}
use Rattle.opc_names.specs.Order.{head}
use Rattle.opc_names.specs.Patterns.{tokens}
use Rattle.opc_check_notes.specs.SortedPairs.{from_to}
use Rattle.opc_check_notes.proofs.Before.{are_preceding, head_short}
use Rattle.opc_check_notes.proofs.preceding.preceding.Goals as goal

pub copied-head-requires : goal.copied-head-requires
copied-head-requires c =
    rw (c.as_bytes.ensures.value, c.head.ensures) (
      omega arith,
      head_short c.args.pattern.now (subst (λ (k : List ℕ). length k ≤ 40) c.sort_key-key.ensures.key c.sort_key-key.ensures.short),
    )

pub returns : goal.returns
returns c = λ list has.
    IfOk-weaker c.patterns_of.result _ _
    (λ found is. are_preceding list c.args.pattern.now c.args.patterns.now found.items c.sort_key-key.ensures.valid has
    (is ∙ ap (map (λ (x : List ℕ × List ℕ). x.1))
    (c.from_to.ensures
    ∙ ap (λ h. from_to (slice_cmp nat_cmp) h c.sort_key-key.result c.args.patterns.now)
    (c.copied-head.ensures ∙ c.as_bytes.ensures.value ∙ c.head.ensures)
    ∙ ap (λ k. from_to (slice_cmp nat_cmp) (head (tokens c.args.pattern.now)) k c.args.patterns.now) c.sort_key-key.ensures.key)))
    c.patterns_of.ensures
