use Rattle.opc_cli_program.proofs.work.work_on.Goals as goal

pub returns-in-Script-clause-done : goal.returns-in-Script-clause-done
returns-in-Script-clause-done g c = rw (c.in-Run.is, c.in-Script.is) c.run_on.ensures.runs

pub returns-in-Now-clause-done : goal.returns-in-Now-clause-done
returns-in-Now-clause-done g c = rw (c.in-Run.is, c.in-Now.is) c.answer_lines_on.ensures.answers

pub returns-in-Import-clause-done : goal.returns-in-Import-clause-done
returns-in-Import-clause-done g c = rw c.in-Import.is c.import_now.ensures.imports

pub returns-in-Export-clause-done : goal.returns-in-Export-clause-done
returns-in-Export-clause-done g c = rw c.in-Export.is (c.export_on.ensures.kept, c.export_on.ensures.exports)

pub returns-in-Serve-clause-done : goal.returns-in-Serve-clause-done
returns-in-Serve-clause-done g c = rw c.in-Serve.is c.serve_tables.ensures.serves
