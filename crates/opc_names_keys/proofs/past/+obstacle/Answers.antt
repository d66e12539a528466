use Rattle.std.proofs.Common.{◌∙◌, sym}
use Rattle.opc_names_keys.proofs.Left.{after_first, further_at_first, further_further, itself_at_first, itself_further, left_at_first, left_further}
use Rattle.opc_names_keys.proofs.past.+obstacle.Goals as goal

pub returns-then-not-stands_for-clause-itself : goal.returns-then-not-stands_for-clause-itself
returns-then-not-stands_for-clause-itself t c =
    itself_at_first c.args.key.now c.args.text.now c.in-len1-up.len_at_least c.in-len1-up-text.len_at_least
    c.if-byte-gt-PERCENT.false (sym c.stands_for.ensures ∙ c.if-not-stands_for.true)

pub returns-then-not-stands_for-clause-later : goal.returns-then-not-stands_for-clause-later
returns-then-not-stands_for-clause-later t c =
    rw c.byte_past.ensures
    (left_at_first c.args.key.now c.args.text.now c.in-len1-up.len_at_least c.in-len1-up-text.len_at_least
    c.if-byte-gt-PERCENT.false (sym c.stands_for.ensures ∙ c.if-not-stands_for.true))

pub returns-clause-itself : goal.returns-clause-itself
returns-clause-itself t c =
    itself_further c.args.key.now c.args.text.now c.in-len1-up.len_at_least c.in-len1-up-text.len_at_least
    c.if-byte-gt-PERCENT.false (rw (after_first c.args.key.now, after_first c.args.text.now) at c.in_ok-at.ensures.itself)

pub returns-clause-later : goal.returns-clause-later
returns-clause-later t c =
    left_further c.args.key.now c.args.text.now c.in-len1-up.len_at_least c.in-len1-up-text.len_at_least
    c.if-byte-gt-PERCENT.false c.in_ok-at.at c.in_ok-at.next
    (rw (after_first c.args.key.now, after_first c.args.text.now) at c.in_ok-at.ensures.later)

pub returns-then-not-stands_for-clause-further : goal.returns-then-not-stands_for-clause-further
returns-then-not-stands_for-clause-further t c =
    rw c.byte_past.ensures
    (further_at_first c.args.key.now c.args.text.now c.in-len1-up.len_at_least c.in-len1-up-text.len_at_least c.if-byte-gt-PERCENT.false)

pub returns-clause-further : goal.returns-clause-further
returns-clause-further t c =
    further_further c.args.key.now c.args.text.now c.in-len1-up.len_at_least c.in-len1-up-text.len_at_least
    c.if-byte-gt-PERCENT.false c.in_ok-at.at c.in_ok-at.next (rw (after_first c.args.key.now) at c.in_ok-at.ensures.further)
