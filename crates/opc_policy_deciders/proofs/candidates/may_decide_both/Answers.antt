use Rattle.std.proofs.Common.{◌∙◌, None, Some, sym}
use Rattle.std.specs.List.{slice_get}
use Rattle.opc_names.specs.Names.{IsPattern}
use Rattle.opc_policy_deciders.proofs.Refused.{moved, not_false, stands_so, stands_there, stood_there, valid_at}
use Rattle.opc_policy_deciders.proofs.candidates.may_decide_both.Goals as goal

pub may_both-requires-clause-pattern : goal.may_both-requires-clause-pattern
may_both-requires-clause-pattern c =
    valid_at IsPattern c.args.patterns.now c.args.at c.in-Some-Some.pattern c.requires.patterns (sym c.pattern_at.ensures ∙ c.in-Some-Some.is-0)

pub may_both-requires-clause-other : goal.may_both-requires-clause-other
may_both-requires-clause-other c =
    valid_at IsPattern c.args.others.now c.args.other_at c.in-Some-Some.other c.requires.others (sym c.pattern_at-2.ensures ∙ c.in-Some-Some.is-1)

pub returns-in-Some-Some : goal.returns-in-Some-Some
returns-in-Some-Some c = λ one two are be refused.
    let first = sym c.pattern_at.ensures ∙ c.in-Some-Some.is-0 in
    let second = sym c.pattern_at-2.ensures ∙ c.in-Some-Some.is-1 in
    moved one two (slice_get c.args.patterns.now c.args.at) (Some c.in-Some-Some.pattern) (slice_get c.args.others.now c.args.other_at)
    (Some c.in-Some-Some.other) first second
    (c.may_both.ensures one two c.args.patterns.now c.args.others.now are be
    (c.stands_at.ensures ∙ stands_so c.args.others.now c.args.patterns.now c.args.stand.now c.args.at c.in-Some-Some.pattern c.requires.stand first)
    (c.stands_at-in-Some-Some.ensures ∙ stands_so c.args.patterns.now c.args.others.now c.args.others_stand.now c.args.other_at
    c.in-Some-Some.other c.requires.others_stand second) refused)

pub returns-in-Some-None : goal.returns-in-Some-None
returns-in-Some-None c = λ one two are be refused.
    let first = sym c.pattern_at.ensures ∙ c.in-Some-None.is-0 in
    moved one two (slice_get c.args.patterns.now c.args.at) (Some c.in-Some-None.field-0-0) (slice_get c.args.others.now c.args.other_at) None first
    (sym c.pattern_at-2.ensures ∙ c.in-Some-None.is-1)
    (stands_there c.in-Some-None.field-0-0 one two c.args.patterns.now c.args.others.now are be
    (sym (c.stands_at-in-Some-None.ensures ∙ stands_so c.args.others.now c.args.patterns.now c.args.stand.now c.args.at c.in-Some-None.field-0-0
    c.requires.stand first) ∙ not_false c.stands_at-in-Some-None.result refused))

pub returns-in-None-Some : goal.returns-in-None-Some
returns-in-None-Some c = λ one two are be refused.
    let second = sym c.pattern_at-2.ensures ∙ c.in-None-Some.is-1 in
    moved one two (slice_get c.args.patterns.now c.args.at) None (slice_get c.args.others.now c.args.other_at) (Some c.in-None-Some.field-0-1)
    (sym c.pattern_at.ensures ∙ c.in-None-Some.is-0) second
    (stood_there c.in-None-Some.field-0-1 one two c.args.patterns.now c.args.others.now are be
    (sym (c.stands_at-in-None-Some.ensures ∙ stands_so c.args.patterns.now c.args.others.now c.args.others_stand.now c.args.other_at
    c.in-None-Some.field-0-1 c.requires.others_stand second) ∙ not_false c.stands_at-in-None-Some.result refused))
