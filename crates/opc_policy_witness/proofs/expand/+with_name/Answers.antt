use Rattle.std.proofs.Common.{◌≡◌, ◌∙◌, ◌++◌, ◌∷◌, [], ap, arith, get_or, subst, IfOk, Option, Vec, Global, ℕ}
use Rattle.std.specs.Option.{option_map}
use Rattle.std.proofs.lemmas.List.{take_rest}
use Rattle.opc_policy_witness.specs.Pieces.{cell_of}
use Rattle.opc_policy_witness.proofs.Spreading.{spread_behind}
use Rattle.opc_policy_witness.proofs.expand.+with_name.Goals as goal

pub returns : goal.returns
returns t c =
    let q = c.args.qualifier.now in
    let is : c.push.new.self.items ≡ c.args.mask.items ++ cell_of (get_or q 0 0) ∷ [] =
    c.in_ok-push.ensures.items ∙ ap (λ cell. c.args.mask.items ++ cell ∷ []) c.cell_of.ensures in
    subst (λ x. IfOk c.with_name.result (λ found. option_map {T = Vec (Option ℕ) Global} (λ mask. mask.items) found ≡ x))
    (spread_behind q c.args.mask.items c.push.new.self.items c.args.length 0 c.in-len1-up.len_at_least c.if-token-eq-STAR.false
    (omega (arith, c.if-length-eq0-2.false)) is) (rw take_rest at c.with_name.ensures)
