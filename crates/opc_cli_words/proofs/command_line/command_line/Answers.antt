use Rattle.std.proofs.lemmas.Result.{IfOk-weaker}
use Rattle.opc_cli_words.proofs.CommandLine.{one_command_more}
use Rattle.opc_cli_words.proofs.command_line.command_line.Goals as goal

pub returns : goal.returns
returns c =
    let command_1 = one_command_more _ _ _ _ _ _ c.program.ensures c.in_ok-explain_command.ensures c.in_ok-subcommand.ensures in
    let command_2 = one_command_more _ _ _ _ _ _ command_1 c.in_ok-run_command.ensures c.in_ok-subcommand-2.ensures in
    let command_3 = one_command_more _ _ _ _ _ _ command_2 c.in_ok-import_command.ensures c.in_ok-subcommand-3.ensures in
    let command_4 = one_command_more _ _ _ _ _ _ command_3 c.in_ok-export_command.ensures c.in_ok-subcommand-4.ensures in
    let command_5 = one_command_more _ _ _ _ _ _ command_4 c.in_ok-serve_command.ensures c.in_ok-subcommand-5.ensures in
    let command_6 = one_command_more _ _ _ _ _ _ command_5 c.in_ok-who_command.ensures c.in_ok-subcommand-6.ensures in
    let command_7 = one_command_more _ _ _ _ _ _ command_6 c.in_ok-check_command.ensures c.in_ok-subcommand-7.ensures in
    let command_8 = one_command_more _ _ _ _ _ _ command_7 c.in_ok-account_command.ensures c.in_ok-subcommand-8.ensures in
    let command_9 = one_command_more _ _ _ _ _ _ command_8 c.digest_command.ensures c.in_ok-subcommand-9.ensures in
    let command_10 = one_command_more _ _ _ _ _ _ command_9 c.commands_command.ensures c.in_ok-subcommand-10.ensures in
    let command_11 = one_command_more _ _ _ _ _ _ command_10 c.in_ok-may_command.ensures c.in_ok-subcommand-11.ensures in
    let command_12 = one_command_more _ _ _ _ _ _ command_11 c.in_ok-diff_command.ensures c.in_ok-subcommand-12.ensures in
    let command_13 = one_command_more _ _ _ _ _ _ command_12 c.in_ok-sheet_command.ensures c.in_ok-subcommand-13.ensures in
    IfOk-weaker c.subcommand-14.result _ _ (λ built. one_command_more _ built _ _ _ _ command_13 c.in_ok-decide_command.ensures) c.subcommand-14.ensures
