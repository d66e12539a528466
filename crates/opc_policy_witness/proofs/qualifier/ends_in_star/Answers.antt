use Rattle.std.proofs.Common.{rules, IsTrue, ◌↔◌}
use Rattle.std.proofs.lemmas.Bool.Decides.{same_from_decides}
use Rattle.opc_names.specs.Patterns.{tokens, EndsInStar, ends_in_star}
use Rattle.opc_names.proofs.Computed.{ends_in_star_is}
use Rattle.opc_names.proofs.Stars.{last_star}
use Rattle.opc_policy_witness.proofs.qualifier.ends_in_star.Goals as goal

pub returns : goal.returns
returns c =
    let last = last_star c.args.qualifier.now c.requires in
    let is : IsTrue c.eq.result ↔ EndsInStar (tokens c.args.qualifier.now) = search (rules, last) in
    same_from_decides c.eq.result (ends_in_star (tokens c.args.qualifier.now)) is (ends_in_star_is (tokens c.args.qualifier.now))
