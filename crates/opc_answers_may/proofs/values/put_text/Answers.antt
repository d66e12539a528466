use Rattle.opc_answers_may.proofs.Shown.{text_put}
use Rattle.opc_answers_may.proofs.values.put_text.Goals as goal

pub returns : goal.returns
returns c =
    text_put c.args.object.now.entries c.insert.new.self.entries c.in_ok-key.key c.in_ok-value.value c.args.name.now c.args.text.now
    c.in_ok-insert.ensures.entries c.in_ok-key.ensures.ok c.in_ok-value.ensures
