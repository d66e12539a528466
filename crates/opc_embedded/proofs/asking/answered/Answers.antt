use Rattle.std.proofs.Common.{rules, ◌≡◌, List, ℕ, inl, subst}
use Rattle.opc_cli_words.specs.Reading.{words_after}
use Rattle.opc_embedded.specs.Answers.{AreAnswered}
use Rattle.opc_embedded.specs.Replies.{held}
use Rattle.opc_embedded.specs.Words.{asked_words}
use Rattle.opc_embedded.proofs.asking.answered.Goals as goal

pub returns-in-Ok-words_in-clause-reply : goal.returns-in-Ok-words_in-clause-reply
returns-in-Ok-words_in-clause-reply c =
    let same : words_after c.as_slice.result.now ≡ asked_words c.args.question.now = search rules in
    inl (
      search rules,
      search rules,
      subst (λ (words : List (List ℕ)).
          AreAnswered held held c.args.texts.now.policy.now c.args.texts.now.new.now c.args.output.now c.answer_words.new.output c.args.errors.now
          c.answer_words.new.errors c.answer_words.result words) same c.answer_words.ensures.answered,
    )
