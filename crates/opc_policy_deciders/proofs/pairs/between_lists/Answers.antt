use Rattle.std.proofs.Common.{◌∙◌, ◌++◌, Global, List, Option, Vec, ap, sym, ℕ}
use Rattle.std.specs.Prelude.{is_none}
use Rattle.std.specs.List.{list_all}
use Rattle.opc_policy_deciders.specs.Forms.{forms}
use Rattle.opc_policy_deciders.proofs.BothSides.{between_near, none_with_more}
use Rattle.opc_policy_deciders.proofs.pairs.between_lists.Goals as goal

pub returns-then-finds_none : goal.returns-then-finds_none
returns-then-finds_none c =
    none_with_more c.args.include.now (c.args.one.now ++ c.args.other.now) forms c.in_ok-found.found.items c.in_ok-found.ensures
    (ap (list_all is_none) (sym c.as_slice.ensures.value) ∙ sym c.finds_none.ensures ∙ c.if-finds_none.true)

pub returns : goal.returns
returns c =
    between_near (λ (v : Vec (Option (List ℕ)) Global). v.items) c.args.include.now c.as_slice-2.result.now (c.args.one.now ++ c.args.other.now)
    c.between_all-2.result (rw c.as_slice-2.ensures.value c.in_ok-exclude.ensures) c.between_all-2.ensures
