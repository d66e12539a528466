use Rattle.std.proofs.Common.{ap, ◌∙◌, Ok}
use Rattle.opc_check_reach.proofs.Deciding.{found_decides}
use Rattle.opc_check_reach.proofs.forms.decides_form.Goals as goal

pub returns : goal.returns
returns c =
    c.is_some.ensures
    ∙ found_decides c.args.form.now c.args.pattern.now c.args.before.now c.in_ok-found.found c.requires c.in_ok-found.ensures.found
    (λ e. c.in_ok-found.ensures.none (ap Ok e))
