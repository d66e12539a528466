use Rattle.std.proofs.Common.{◌≡◌, ◌∙◌, ◌++◌, ◌∷◌, [], sym}
use Rattle.opc_policy_witness.proofs.Meeting.{alike, differ}
use Rattle.opc_policy_witness.proofs.ends.+may_end_alike.Goals as goal

pub returns-then-token-other_token : goal.returns-then-token-other_token
returns-then-token-other_token t c = λ e.
    let is_p : c.args.pattern.now ≡ c.in-Some.tokens.now ++ c.in-Some.token.now ∷ [] = c.in-Some.ensures.cases.0 in
    let is_q : c.args.other.now ≡ c.in-Some-split_last.other_tokens.now ++ c.in-Some-split_last.other_token.now ∷ [] =
    c.in-Some-split_last.ensures.cases.0 in
    alike c.args.pattern.now c.args.other.now c.in-Some.tokens.now c.in-Some-split_last.other_tokens.now c.in-Some.token.now c.in-Some-split_last.other_token.now
    is_p is_q (sym c.is_fixed.ensures ∙ c.if-not-is_fixed.false) c.if-token-other_token.true (c.may_end_alike.ensures e)

pub returns : goal.returns
returns t c = λ e.
    let is_p : c.args.pattern.now ≡ c.in-Some.tokens.now ++ c.in-Some.token.now ∷ [] = c.in-Some.ensures.cases.0 in
    let is_q : c.args.other.now ≡ c.in-Some-split_last.other_tokens.now ++ c.in-Some-split_last.other_token.now ∷ [] =
    c.in-Some-split_last.ensures.cases.0 in
    differ c.args.pattern.now c.args.other.now c.in-Some.tokens.now c.in-Some-split_last.other_tokens.now c.in-Some.token.now c.in-Some-split_last.other_token.now
    is_p is_q (sym c.is_fixed.ensures ∙ c.if-not-is_fixed.false) (sym c.is_fixed-2.ensures ∙ c.if-not-is_fixed-2.false) c.if-token-other_token.false
