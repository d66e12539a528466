use Rattle.std.proofs.Common.{◌≡◌, ◌++◌, rules, subst, sym, IfOk, Option, Vec, Global, ℕ}
use Rattle.std.specs.Option.{option_map}
use Rattle.opc_names.specs.Patterns.{tokens}
use Rattle.opc_policy_witness.specs.Pieces.{mask_of}
use Rattle.opc_policy_witness.proofs.expand.with_piece.Goals as goal

pub returns-in_ok-copied-in-Name : goal.returns-in_ok-copied-in-Name
returns-in_ok-copied-in-Name c =
    let copied : c.in_ok-copied-in-Name.copied.items ≡ c.args.head.now = search rules in
    subst (λ p. IfOk c.with_name.result (λ found. option_map {T = Vec (Option ℕ) Global} (λ mask. mask.items) found
    ≡ option_map (λ mask. c.args.head.now ++ mask) (mask_of (tokens c.args.qualifier.now) p))) (sym c.in-Name.is) (rw copied at c.with_name.ensures)
