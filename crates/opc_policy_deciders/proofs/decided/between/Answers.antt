use Rattle.opc_policy_deciders.proofs.Between.{found_so}
use Rattle.opc_policy_deciders.proofs.decided.between.Goals as goal

pub returns : goal.returns
returns c =
    found_so c.args.form.now c.args.include.now c.args.exclude.now c.witness.result c.witness.ensures.found c.witness.ensures.shortest c.witness.ensures.none
