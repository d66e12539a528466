use Rattle.opc_c.proofs.reply_kept_into.Goals as goal

pub returns-clause-replied : goal.returns-clause-replied
returns-clause-replied c = (c.reply_kept-reply.result, c.reply_kept-reply.ensures.asked, c.put_reply.ensures)
