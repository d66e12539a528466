-- The reply to a question, by the texts of policies.
use Rattle.std.specs.Prelude.{◌≡◌, ◌⊎◌, ◌<◌, ◌≤◌, if◌then◌else◌, ℕ, List, [], Option, Some, IsUtf8, Vec, false, length}
use Rattle.std.specs.declared.alloc.Global.{Global}
use Rattle.opc_io.specs.declared.watched.Watched.{Watched}
use Rattle.opc_cli_failures.specs.declared.status.Status.{Status}
use Rattle.opc_cli_failures.specs.declared.status.Status.TheVariants.{Failed}
use Rattle.opc_embedded.specs.Answers.{AreAnswered, IsMemoryReported, IsNotAnswered}
use Rattle.opc_embedded.specs.Words.{asked_words}
use Rattle.opc_embedded.specs.declared.reply.Reply.{Reply}
use Rattle.opc_embedded.specs.declared.unanswered.Unanswered.TheVariants.{TooLong, NotUtf8}

abbrev pub Bytes : Type 0
Bytes = Vec ℕ Global

abbrev pub held : Bytes → Option (List ℕ)
held bytes = Some bytes.items

-- the most bytes of a question
abbrev pub question_limit : ℕ
question_limit = 65536

module _ (policy new : List ℕ) (before written quiet reported : Watched Bytes) (status : Status) where
  -- A text that is not too long has words, and what they ask for is answered.
  abbrev pub IsTextAnswered : (question : List ℕ) → Type 0
  IsTextAnswered question = (length question ≤ question_limit) × IsUtf8 question
      × AreAnswered held held policy new before written quiet reported status (asked_words question)

  -- The question is too long, or it is no text.
  abbrev pub IsUnreadable : (question : List ℕ) → Type 0
  IsUnreadable question =
      ((question_limit < length question) × IsNotAnswered held held before written quiet reported status TooLong)
      ⊎ ((length question ≤ question_limit) × (IsUtf8 question → ⊥)
      × IsNotAnswered held held before written quiet reported status NotUtf8)

  -- The question is answered, or cannot be read; or there was no memory for its words.
  abbrev pub IsReply : (question : List ℕ) → Type 0
  IsReply question = IsTextAnswered question ⊎ IsUnreadable question
      ⊎ ((written ≡ before) × IsMemoryReported held quiet reported status)

-- the status, unless a write of the errors failed, so that they are not whole
abbrev pub status_told : (errors : Watched Bytes) → Status → Status
status_told errors status = if errors.failed then Failed else status

-- The reply to a question: what is written to an empty output and to empty errors.
pub record IsAsked (policy new question : List ℕ) (reply : Reply) : Type 0 where
  pub before : Watched Bytes
  pub quiet : Watched Bytes
  pub empty_before : before.inner.items ≡ []
  pub empty_quiet : quiet.inner.items ≡ []
  pub fine_before : before.failed ≡ false
  pub fine_quiet : quiet.failed ≡ false
  pub status : Status
  pub replied : IsReply policy new before reply.output quiet reply.errors status question
  pub status_is : reply.status ≡ status_told reply.errors status
