use Rattle.opc_board.proofs.Enough.{few_suffice}
use Rattle.opc_board.proofs.Footprints.{commands, events, logoffs, logons}
use Rattle.opc_board.proofs.laws.footprints_suffice.Goals as goal

pub returns-clause-commands : goal.returns-clause-commands
returns-clause-commands c = commands

pub returns-clause-events : goal.returns-clause-events
returns-clause-events c = events

pub returns-clause-logons : goal.returns-clause-logons
returns-clause-logons c = logons

pub returns-clause-logoffs : goal.returns-clause-logoffs
returns-clause-logoffs c = logoffs

pub returns-clause-few : goal.returns-clause-few
returns-clause-few c = few_suffice
