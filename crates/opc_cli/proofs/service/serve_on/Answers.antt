use Rattle.opc_cli.proofs.service.serve_on.Goals as goal

pub returns-clause-served : goal.returns-clause-served
returns-clause-served g c = record { served = c.serve_on.result; handled = c.serve_on.ensures.handled; ends = c.number_of.ensures }
