use Rattle.opc_answers_diff.proofs.row_text.row_text.Goals as goal

pub returns-in-Class : goal.returns-in-Class
returns-in-Class c = rw c.in-Class.is (c.class_row.ensures c.args.digest.now)

pub returns-in-Group : goal.returns-in-Group
returns-in-Group c = rw c.in-Group.is (c.group_row.ensures c.args.digest.now)

pub returns-in-Connect : goal.returns-in-Connect
returns-in-Connect c = rw c.in-Connect.is (c.connect_row.ensures c.args.digest.now)

pub returns-in-Console : goal.returns-in-Console
returns-in-Console c = rw c.in-Console.is (c.console_row.ensures c.args.digest.now)

pub returns-in-Profile : goal.returns-in-Profile
returns-in-Profile c = rw c.in-Profile.is (c.profile_row.ensures c.args.digest.now)

pub returns-in-Permit : goal.returns-in-Permit
returns-in-Permit c = rw c.in-Permit.is (c.permit_row.ensures c.args.digest.now)
