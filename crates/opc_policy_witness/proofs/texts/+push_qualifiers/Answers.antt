use Rattle.std.proofs.Common.{◌∙◌, sym}
use Rattle.std.proofs.lemmas.List.{take_rest}
use Rattle.opc_policy_witness.proofs.Joining.{written_more}
use Rattle.opc_policy_witness.proofs.Spreading.{on_ok}
use Rattle.opc_policy_witness.proofs.texts.+push_qualifiers.Goals as goal

pub returns : goal.returns
returns t c =
    on_ok c.push_qualifiers.result _ _ c.push_qualifiers.ensures (λ e.
    written_more c.args.pieces.now c.args.characters.now c.args.text.now.items c.extend_from_slice.new.self.items c.push.new.self.items
    c.push_qualifiers.new.text.items c.bytes_of.result.now c.split_at.result.0.now c.split_at.result.1.now c.width.result _
    c.in-len1-up.len_at_least (rw take_rest at (sym c.is_empty.ensures ∙ c.if-is_empty.false)) c.bytes_of.ensures c.split_at.ensures.front
    c.split_at.ensures.back c.width.ensures
    c.in_ok-extend_from_slice.ensures.items c.in_ok-push.ensures.items (rw take_rest at e))
