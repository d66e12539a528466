use Rattle.std.proofs.Common.{subst, sym}
use Rattle.opc_policy_deciders.specs.Decided.{ArePatternsOf}
use Rattle.opc_answers_sheet.proofs.Parts.{on_ok, tables_so}
use Rattle.opc_answers_sheet.proofs.printing.print_tables.Goals as goal

pub returns-clause-text : goal.returns-clause-text
returns-clause-text g c =
    let are = subst (ArePatternsOf c.args.room.now.policy) (sym c.as_slice-2.ensures.value) c.in-Ok-patterns_of.ensures in
    on_ok c.print_rest.result
    (λ rest. tables_so c.args.room.now.policy c.args.room.now.board _ _ _ _ are c.in_ok-print_commands.ensures.text rest)
    c.print_rest.ensures.text
