use Rattle.std.proofs.Common.{◌≡◌, ◌∙◌, ap, map, sym}
use Rattle.std.proofs.lemmas.Result.{IfOk-weaker}
use Rattle.std.specs.Prelude.{string_bytes}
use Rattle.opc_embedded.proofs.Arguments.{words_are}
use Rattle.opc_embedded.proofs.words.words_in.Goals as goal

pub returns : goal.returns
returns c =
    IfOk-weaker c.joined.result _ _
    (λ all is. words_are c.args.question.now c.deref.result.now all.items
    (ap (map string_bytes) c.deref.ensures.value ∙ c.in_ok-words.ensures) is) c.joined.ensures
