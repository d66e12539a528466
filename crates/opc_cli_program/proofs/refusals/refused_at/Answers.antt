use Rattle.std.proofs.Common.{ap, subst, sym}
use Rattle.std.specs.Prelude.{IfSome}
use Rattle.opc_machine.specs.Inputs.{input_of}
use Rattle.opc_cli_program.specs.Refusals.{NamesWho, who_is_there}
use Rattle.opc_cli_program.proofs.refusals.refused_at.Goals as goal

pub returns-in-Ok-clause-who : goal.returns-in-Ok-clause-who
returns-in-Ok-clause-who g c = λ named sure s was special.
    let console = c.args.console.now in
    subst (λ cause. IfSome cause (NamesWho s (input_of c.args.request.now))) (sym c.not_special.ensures.cause)
    (record { console = console; named = named; is = ap (who_is_there console) (c.in-Ok.ensures.answers sure s was) })

pub returns-in-Err-clause-who : goal.returns-in-Err-clause-who
returns-in-Err-clause-who g c = λ named sure s was special.
    subst (λ cause. IfSome cause (NamesWho s (input_of c.args.request.now))) (sym c.of_gate.ensures.cause) tt
