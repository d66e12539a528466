use Rattle.opc_c.proofs.reply_into.Goals as goal

pub returns : goal.returns
returns c = (c.ask-reply.result, c.ask-reply.ensures, c.put_reply.ensures)
