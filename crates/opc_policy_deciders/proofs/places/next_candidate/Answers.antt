use Rattle.std.proofs.Common.{sym, ◌∙◌}
use Rattle.opc_policy_deciders.proofs.Candidate.{none_alone}
use Rattle.opc_policy_deciders.proofs.places.next_candidate.Goals as goal

pub returns-in-None-clause-none : goal.returns-in-None-clause-none
returns-in-None-clause-none c =
    none_alone c.args.patterns.now c.args.others.now c.args.others_stand.now c.args.at c.args.from c.next_alone.result
    (sym c.pattern_at.ensures ∙ c.in-None.is) c.next_alone.ensures.within.1 c.requires.others_stand c.next_alone.ensures.stand
