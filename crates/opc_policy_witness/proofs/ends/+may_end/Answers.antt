use Rattle.std.proofs.Common.{◌≡◌, ◌∙◌, ◌++◌, ◌∷◌, [], sym}
use Rattle.opc_policy_witness.proofs.Differing.{alike, differ}
use Rattle.opc_policy_witness.proofs.ends.+may_end.Goals as goal

pub returns-then-token-character : goal.returns-then-token-character
returns-then-token-character t c = λ e.
    let is_p : c.args.pattern.now ≡ c.in-Some.tokens.now ++ c.in-Some.token.now ∷ [] = c.in-Some.ensures.cases.0 in
    let is_r : c.args.resource.now ≡ c.in-Some-split_last.characters.now ++ c.in-Some-split_last.character.now ∷ [] = c.in-Some-split_last.ensures.cases.0 in
    alike c.args.pattern.now c.args.resource.now c.in-Some.tokens.now c.in-Some-split_last.characters.now c.in-Some.token.now c.in-Some-split_last.character.now
    is_p is_r (sym c.is_fixed.ensures ∙ c.if-not-is_fixed.false) c.if-token-character.true (c.may_end.ensures e)

pub returns : goal.returns
returns t c = λ e.
    let is_p : c.args.pattern.now ≡ c.in-Some.tokens.now ++ c.in-Some.token.now ∷ [] = c.in-Some.ensures.cases.0 in
    let is_r : c.args.resource.now ≡ c.in-Some-split_last.characters.now ++ c.in-Some-split_last.character.now ∷ [] = c.in-Some-split_last.ensures.cases.0 in
    differ c.args.pattern.now c.args.resource.now c.in-Some.tokens.now c.in-Some-split_last.characters.now c.in-Some.token.now c.in-Some-split_last.character.now
    is_p is_r (sym c.is_fixed.ensures ∙ c.if-not-is_fixed.false) c.if-token-character.false
