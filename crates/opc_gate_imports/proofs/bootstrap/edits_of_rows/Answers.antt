use Rattle.std.proofs.Common.{Err, refl, sym, ap, ◌∙◌}
use Rattle.opc_machine.specs.Bootstrap.{consoles_after}
use Rattle.opc_gate_imports.proofs.PolicyRows.{if_err, if_ok_both, refused_rows, lost_master, made, nothing_new}
use Rattle.opc_gate_imports.proofs.bootstrap.edits_of_rows.Goals as goal

pub returns-in-Err-clause-refused : goal.returns-in-Err-clause-refused
returns-in-Err-clause-refused c other s policy_is board_is order = refused_rows s c.args.rows.now _ _ policy_is board_is order _
    (c.in-Err.ensures.fault other)

pub returns-clause-made : goal.returns-clause-made
returns-clause-made c =
    let all = c.args.rows.now in
    let live = c.args.board.now in
    if_ok_both c.edits_of_consoles.result
    (λ edits are kept s policy_is board_is order. made s all c.args.policy.now live policy_is board_is order
    c.take_all.new.self c.in_ok-old.old (consoles_after all live) c.in_default.ensures.ok c.in_ok-old.ensures
    refl kept edits.items are)
    c.edits_of_consoles.ensures.made c.edits_of_consoles.ensures.kept

pub returns-clause-idle : goal.returns-clause-idle
returns-clause-idle c =
    let all = c.args.rows.now in
    let live = c.args.board.now in
    if_ok_both c.edits_of_consoles.result
    (λ edits are kept s board_is order none. nothing_new s all live c.in_ok-old.old (consoles_after all live)
    edits.items board_is order c.in_ok-old.ensures refl are none)
    c.edits_of_consoles.ensures.made c.edits_of_consoles.ensures.kept

pub returns-clause-refused : goal.returns-clause-refused
returns-clause-refused c =
    let all = c.args.rows.now in
    let live = c.args.board.now in
    if_err c.edits_of_consoles.result
    (λ fault loses other s policy_is board_is order.
    lost_master s all c.args.policy.now live policy_is board_is order c.take_all.new.self c.in_ok-old.old
    (consoles_after all live) c.in_default.ensures.ok c.in_ok-old.ensures refl (loses other).1
    ∙ ap Err (sym (loses other).0))
    c.edits_of_consoles.ensures.refused
