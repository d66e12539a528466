-- An answer by what is kept of a policy is that of its text.
use Rattle.std.proofs.Common.{◌≡◌, ◌∙◌, ℕ, List, Option, Result, Some, None, Ok, Err, ap, inr, refl, sym, subst}
use Rattle.std.specs.Option.{ForSome}
use Rattle.std.specs.Result.{result_ok}
use Rattle.std.proofs.lemmas.Str.{IsUtf8-from_is_utf8, is_utf8-from_IsUtf8}
use Rattle.opc_io.specs.declared.watched.Watched.{Watched}
use Rattle.opc_policy_members.specs.declared.row.Row.{Row}
use Rattle.opc_terms.specs.declared.fault.Fault.{Fault}
use Rattle.opc_import.specs.declared.fault.ImportFault.{ImportFault}
use Rattle.opc_import.specs.Files.{policy_of}
use Rattle.opc_state.specs.State.{State, empty}
use Rattle.opc_machine.specs.Bootstrap.{bootstrapped}
use Rattle.opc_answers.specs.Answers.{answer_made}
use Rattle.opc_answers.specs.Made.{members_of, state_of}
use Rattle.opc_answers.specs.declared.room.Room.{Room}
use Rattle.opc_cli_failures.specs.declared.failure.Failure.{Failure}
use Rattle.opc_cli_failures.specs.declared.status.Status.{Status}
use Rattle.opc_cli_questions.specs.FileAnswers.{IsAnsweredByFile}
use Rattle.opc_cli_questions.specs.PolicyFiles.{AreRead, AreReadFrom, IsPolicyFile}
use Rattle.opc_cli_questions.specs.Printed.{IsReportedBy, IsWritten}
use Rattle.opc_cli_questions.specs.Questions.{IsQuestionAnswer, IsStateAnswer, written}
use Rattle.opc_cli_tasks.specs.declared.question.Ask.{Ask}
use Rattle.opc_cli_tasks.specs.declared.question.PolicyQuestion.{PolicyQuestion}
use Rattle.opc_cli_tasks.specs.declared.question.PolicyQuestion.TheVariants as asked
use Rattle.opc_embedded.specs.Kept.{IsAnsweredByRoom, IsMadeBy, made_by}

-- rows that make this
record Makes (text : List ℕ) (s : State) : Type 0 where
  rows : List Row
  reads : policy_of text ≡ Ok rows
  makes : bootstrapped rows empty ≡ Ok s

ok_of : (made : Result State Fault) (s : State) → result_ok made ≡ Some s → made ≡ Ok s
ok_of (Ok made) s is = (cc)
ok_of (Err fault) s is = (cc)

makes_of : (text : List ℕ) (s : State) → made_by (policy_of text) ≡ Some s → Makes text s
makes_of text s is = go (policy_of text) refl is
  where
    go : (read : Result (List Row) ImportFault) → policy_of text ≡ read → made_by read ≡ Some s → Makes text s
    go (Ok rows) reads made = record { rows = rows; reads = reads; makes = ok_of (bootstrapped rows empty) s made }
    go (Err fault) reads made = (cc)

-- what the rows of a policy file make
pub made_of : (text bytes : List ℕ) (rows : List Row) (room : Room) → AreReadFrom (Some text) bytes rows
    → bootstrapped rows empty ≡ Ok (state_of room.policy room.board) → room.members ≡ members_of room.policy
    → IsMadeBy text room
made_of text bytes rows room read made members =
    let file = subst (λ b. IsPolicyFile b rows) read.whole read.file in
    record {
      fits = file.fits;
      utf8 = is_utf8-from_IsUtf8 text file.utf8;
      makes = ap made_by file.reads ∙ ap result_ok made;
      members = members;
    }

module _ {W : Type 0} (contents : W → Option (List ℕ)) (before now : W) (ask : Ask) where
  written_by_rows : (rows : List Row) (s : State) → bootstrapped rows empty ≡ Ok s → (end : Result Status Failure)
      → IsWritten contents before now (IsStateAnswer ask s) end
      → IsWritten contents before now (IsQuestionAnswer ask rows) end
  written_by_rows rows s made end is =
      subst (λ (made : Result State Fault). IsWritten contents before now
      (λ answer. written ask.form (answer_made ask.question made) ≡ answer) end) (sym made) is

module _ {W E : Type 0} (contents : W → Option (List ℕ)) (shown : E → Option (List ℕ)) (before now : Watched W)
    (quiet reported : Watched E) (status : Status) (text : List ℕ) where
  by_text : (room : Room) (ask : Ask) → IsMadeBy text room
      → IsAnsweredByRoom contents shown before now quiet reported room ask status
      → IsReportedBy contents (λ (e : Watched E). shown e.inner) (λ (e : Watched E). e.failed) before.inner now.inner
      quiet reported (IsQuestionAnswer ask) (Some text) status
  by_text room ask made answered =
      let makes = makes_of text (state_of room.policy room.board) made.makes in
      let file : IsPolicyFile text makes.rows = record {
        fits = made.fits;
        utf8 = IsUtf8-from_is_utf8 text made.utf8;
        reads = makes.reads;
      } in
      let read : AreRead (Some text) makes.rows = record { bytes = text; whole = refl; file = file } in
      record {
        end = answered.end;
        answered = inr (
          makes.rows,
          read,
          written_by_rows contents before.inner now.inner ask makes.rows (state_of room.policy room.board) makes.makes
              answered.end answered.answered,
        );
        status_is = answered.status_is;
        printed = answered.printed;
      }

  pub by_kept : (kept : Option Room) (question : PolicyQuestion) → ForSome kept (IsMadeBy text)
      → ((room : Room) × (ask : Ask) × (kept ≡ Some room) × (question ≡ asked.Ask ask)
      × IsAnsweredByRoom contents shown before now quiet reported room ask status)
      → IsAnsweredByFile contents shown before now quiet reported status question (Some text)
  by_kept kept question made (room, ask, was, is, answered) =
      subst (λ q. IsAnsweredByFile contents shown before now quiet reported status q (Some text)) (sym is)
      (by_text room ask (made room was) answered)
