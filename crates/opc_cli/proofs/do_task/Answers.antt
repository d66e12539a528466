use Rattle.opc_cli.proofs.do_task.Goals as goal

pub returns-in-Ask : goal.returns-in-Ask
returns-in-Ask g c = rw c.in-Ask.is c.answer_from.ensures

pub returns-in-Diff : goal.returns-in-Diff
returns-in-Diff g c = rw c.in-Diff.is c.compare.ensures

pub returns-in-Account : goal.returns-in-Account
returns-in-Account g c = rw c.in-Account.is c.show_account.ensures

pub returns-in-Work : goal.returns-in-Work
returns-in-Work g c = rw c.in-Work.is c.work_in_file.ensures

pub returns-in-DryRun : goal.returns-in-DryRun
returns-in-DryRun g c = rw c.in-DryRun.is c.dry_run_in_file.ensures

pub returns-in-InMemory : goal.returns-in-InMemory
returns-in-InMemory g c = rw c.in-InMemory.is c.run_without_file.ensures

pub returns-in-Digest : goal.returns-in-Digest
returns-in-Digest g c = rw c.in-Digest.is (c.is_typed-is_typed.result, c.answer_password.ensures)

pub returns-in-Commands : goal.returns-in-Commands
returns-in-Commands g c = rw c.in-Commands.is c.list_commands.ensures

pub returns-in-Decide : goal.returns-in-Decide
returns-in-Decide g c = rw c.in-Decide.is c.decide.ensures
