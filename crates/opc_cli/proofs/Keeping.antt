-- The outcome of a whole operation over the tables of a database file, from what the files held to what they hold.
use Rattle.std.proofs.Common.{◌≡◌, ◌∙◌, inl, inr, ℕ, Bool, List, Option, Some, None, Result, Ok, Err, MatchOption, refl, sym, subst, ap, false, not}
use Rattle.std.specs.Prelude.{MatchResult, IsUtf8}
use Rattle.std.specs.Io.KnownBytes.{Appends}
use Rattle.std.specs.declared.fs.File.{File}
use Rattle.sqlite_disk.specs.declared.Disk as disk
use Rattle.sqlite_disk.specs.declared.Files.{Files}
use Rattle.sqlite_store.specs.declared.store.FileStore.{FileStore}
use Rattle.sqlite.specs.Effect.{Database}
use Rattle.sqlite.specs.Files.{over_files, file_state, HoldsDatabase}
use Rattle.sqlite.specs.Recovery.{Image}
use Rattle.sqlite_trees.specs.Tree.{Trees}
use Rattle.sqlite.specs.Held.{Held}
use Rattle.sqlite.specs.WalReads.{AreClean}
use Rattle.opc_terms.specs.declared.rule.Rule.{Rule}
use Rattle.opc_policy_members.specs.declared.row.Row.{Row}
use Rattle.opc_board.specs.declared.line.Line.{Line}
use Rattle.opc_state.specs.Meaning.{Meaning}
use Rattle.opc_state.specs.State.{State}
use Rattle.opc_store_schema.specs.Represented.{AreTablesOf}
use Rattle.opc_store_schema.proofs.Opened.{alone_from, found_again, named}
use Rattle.opc_store.specs.Opening.{IsAdopted}
use Rattle.opc_store.specs.StoreTables.{IsSure, RepresentsIfOpen, store_meaning}
use Rattle.opc_machine.specs.declared.request.Answer.{Answer}
use Rattle.opc_machine.specs.declared.request.Answer.TheVariants as answer
use Rattle.opc_machine.specs.declared.request.Request.{Request}
use Rattle.opc_machine.specs.Bootstrap.{bootstrapped}
use Rattle.opc_machine.specs.Inputs.{Input}
use Rattle.opc_machine.specs.Inputs as input
use Rattle.opc_machine.specs.Machine.{IsAborted, Step, after, answer_of, outcome}
use Rattle.opc_cli_failures.specs.declared.status.Status.{Status}
use Rattle.opc_cli_failures.specs.declared.status.Status.TheVariants.{Done}
use Rattle.opc_cli_failures.specs.declared.failure.Failure.{Failure}
use Rattle.opc_cli_failures.specs.Statuses.{IsFailure, IsInputFailure}
use Rattle.opc_cli_failures.proofs.Faults.{streams_are_failures}
use Rattle.opc_cli_questions.specs.PolicyFiles.{AreRead}
use Rattle.opc_cli_script.specs.declared.script.ScriptFault.{ScriptFault}
use Rattle.opc_cli_script.specs.declared.script.ScriptFault.TheVariants.{BadLine, NoMemory, Output}
use Rattle.opc_cli_script.specs.Running.{IsAnswered, IsScriptRun, IsWhole}
use Rattle.opc_cli_script.specs.Scripts.{bad_line, requests_in}
use Rattle.opc_cli_program.specs.Imports.{AreTaken, IsOneStep, IsPolicyTaken, IsReported, lines_text}
use Rattle.opc_cli_log.specs.declared.log.RunLog.{RunLog}
use Rattle.opc_cli_program.specs.Logging.{IsRunWithLog}
use Rattle.opc_cli_program.specs.Runs.{IsAnsweredInput, IsEndOf, IsInputRun, IsRunOfBytes}
use Rattle.opc_cli_program.specs.Works.{IsImportNow}
use Rattle.opc_cli_tasks.specs.declared.work.Work.{Work}
use Rattle.opc_cli_tasks.specs.declared.work.Import.{Import as Asked}
use Rattle.opc_io.specs.declared.watched.Watched.{Watched}
use Rattle.opc_cli.specs.Works.{IsEnd, unknown_log, unknown_moment}
use Rattle.opc_cli.specs.Kept.{
  HoldTablesOf,
  IsFirstRefused,
  IsKeptFirstRun,
  IsKeptRequest,
  IsKeptScript,
  IsWorkOver,
  ExportsLeaveTheFile,
  FirstImportsAreKept,
  FirstPoliciesAreKept,
  ImportsAreKept,
  RefusedPoliciesChangeNothing,
  RunsAreKept,
}
use Rattle.opc_cli.proofs.Logs.{done_with_log, failed_with_log, log_opened, log_opened_again}

taken_well : {X : Type 0} (Y : Failure → Type 0) (t : Result Status Failure) → t ≡ Ok Done → MatchResult t (λ _. X) Y → X
taken_well Y (Ok status) is h = h
taken_well Y (Err failure) is h = absurd (cc)

without : {A X : Type 0} (Y : A → Type 0) (o : Option A) → o ≡ None → MatchOption o X Y → X
without Y None is h = h
without Y (Some a) is h = absurd (cc)

-- ---- answers that are printed

-- what succeeded was done, and its lines were written
done_reported : {K : Type 0} (held : K → Option (List ℕ)) (has_failed : K → Bool) (a : Answer) (before written : K)
    (status : Status) → IsReported held has_failed a before written (Ok status)
    → (lines : List Line) × (rule : Option Rule) × (a ≡ answer.Done lines rule) × Appends (held before) (held written) (lines_text lines)
done_reported held has_failed (answer.Done lines rule) before written status reported = (lines, rule, refl, reported.1)
done_reported held has_failed (answer.Refused fault rule) before written status reported = absurd reported.0

not_aborted : (a : Answer) (lines : List Line) (rule : Option Rule) → a ≡ answer.Done lines rule → IsAborted a → ⊥
not_aborted a lines rule is (inl memory) = absurd cc
not_aborted a lines rule is (inr store) = absurd cc

-- what is done is what the machine makes of the state
made : (s : State) (moment : ℕ) (r : Input) (a : Answer) (next : State) (lines : List Line) (rule : Option Rule)
    → a ≡ answer.Done lines rule → Step s moment r a next
    → (answer_of (outcome s r) ≡ answer.Done lines rule) × (next ≡ after s moment r (outcome s r))
made s moment r a next lines rule is (inl left) = absurd (not_aborted a lines rule is left.aborts)
made s moment r a next lines rule is (inr (inl full)) = absurd (not_aborted a lines rule is (inr full.answers))
made s moment r a next lines rule is (inr (inr done)) = (sym done.answers ∙ is, done.becomes)

input_failed : (failure : Failure) → IsInputFailure failure → IsFailure failure.fault
input_failed failure (inl memory) = inl memory
input_failed failure (inr it) = subst IsFailure (sym it.1.0) (streams_are_failures _)

-- a script ends by a fault only if an allocation or the output failed
script_failed : (ran : Result Status ScriptFault) (failure : Failure) → IsEndOf ran (Err failure) → IsFailure failure.fault
script_failed (Ok status) failure ends = absurd cc
script_failed (Err (BadLine number)) failure ends = absurd cc
script_failed (Err NoMemory) failure ends = inl ends
script_failed (Err (Output error)) failure ends = subst IsFailure (sym ends.0) (streams_are_failures _)

module _ {D : Type 0} (g : disk.Ghosts D) where
  abbrev Tables : Type 0
  Tables = Held (FileStore D g)

  abbrev Sure : Tables → Type 0
  Sure = IsSure over_files

  abbrev Are : Tables → State → Type 0
  Are = RepresentsIfOpen over_files

  abbrev means : Meaning Tables
  means = store_meaning over_files

  pub holds_last : (last : Tables) (files : Files D) → IsEnd last (Ok files) → AreClean g files.log files.db
      → (s : State) → Are last s → HoldTablesOf g files s
  holds_last last files end clean s was =
      let copied = end.1 clean in
      record {
        trees = (file_state last).committed.trees;
        tables = subst (λ (d : Database). AreTablesOf d.trees s) (end.0 copied.was_open) (alone_from (file_state last).now s (was copied.was_open));
        seen = copied.seen;
        left = copied.left;
      }

  -- tables that the files held are not made
  never_made : (image : Image) (found : Trees) (are_made : Bool) (opened : Tables) (s : State) → HoldsDatabase image found
      → AreTablesOf found s → IsAdopted image are_made opened → are_made ≡ false
  never_made image found are_made opened s holds tables (first, adopts) =
      let trees : (file_state first).now.trees ≡ found = ap (λ (d : Database). d.trees) adopts.opens.0.clean ∙ adopts.found.holds found holds in
      let again = found_again (file_state first).now s (adopts.opens.1 adopts.opens.0.is_open).0 (subst (λ (t : Trees). AreTablesOf t s) (sym trees) tables) in
      adopts.counts ∙ ap not (named _ again.rows.schema)

  -- ---- a first policy

  pub record Begun (opened mid : Tables) (s : State) : Type 0 where
    pub rows : List Row
    pub read : AreRead None rows
    pub first : State
    pub taken : bootstrapped rows s ≡ Ok first
    pub are : Are mid first

  first_taken : (opened mid : Tables) (ended : Status) (s : State) → Sure mid → Are opened s
      → IsPolicyTaken means opened mid (Ok ended) None → Begun opened mid s
  first_taken opened mid ended s sure was (inl unread) = absurd unread.0
  first_taken opened mid ended s sure was (inr it) =
      let over = (it.2.taken sure s was).done in
      record { rows = it.0; read = it.1; first = over.next; taken = over.becomes; are = over.represented }

  first_refused : (opened mid : Tables) (failure : Failure) (s : State) → Sure mid → Are opened s
      → (IsFailure failure.fault → ⊥) → IsPolicyTaken means opened mid (Err failure) None
      → IsFirstRefused s failure.fault × Are mid s
  first_refused opened mid failure s sure was reported (inl (inl failed, same)) = absurd (reported failed)
  first_refused opened mid failure s sure was reported (inl (inr refused, same)) = (inl refused, subst (λ (t : Tables). Are t s) (sym same) was)
  first_refused opened mid failure s sure was reported (inr it) =
      let over = it.2.taken sure s was in
      (inr (it.0, it.1, over.refused (λ is. reported (inl is)) (λ is. reported (inr is))), over.unchanged)

  module _ {W : Type 0} (contents : W → Option (List ℕ)) where
    abbrev held : Watched W → Option (List ℕ)
    held w = contents w.inner

    abbrev has_failed : Watched W → Bool
    has_failed w = w.failed

    -- ---- a script

    begun : (told : (old new : Tables) → List (ℕ × Request) → List Answer → Type 0) (mid last : Tables)
        (left : Option (List ℕ)) (before written : Watched W) (status : Status)
        → IsAnsweredInput means told held has_failed mid last left before written (Ok status)
        → IsInputRun means told held has_failed mid last left before written (Ok status)
    begun told mid last left before written status (inl nothing) = absurd nothing.unread
    begun told mid last left before written status (inr run) = run

    whole : (told : (old new : Tables) → List (ℕ × Request) → List Answer → Type 0) (mid last : Tables)
        (requests : List (ℕ × Request)) (before written : Option (List ℕ)) (status : Status)
        (ran : Result Status ScriptFault) → IsEndOf ran (Ok status)
        → IsScriptRun means told mid last requests before written ran → IsWhole means told mid last requests before written status
    whole told mid last requests before written status (Ok reported) ends w =
        subst (λ (x : Status). IsWhole means told mid last requests before written x) (cc) w
    whole told mid last requests before written status (Err (BadLine number)) ends (inl w) = absurd (let same = w.no_memory in cc)
    whole told mid last requests before written status (Err (BadLine number)) ends (inr w) = absurd w.cut_off
    whole told mid last requests before written status (Err NoMemory) ends w = absurd ends
    whole told mid last requests before written status (Err (Output error)) ends w = absurd ends

    text_run : (told : (old new : Tables) → List (ℕ × Request) → List Answer → Type 0) (mid last : Tables)
        (script : List ℕ) (before written : Option (List ℕ)) (ran : Result Status ScriptFault) → IsUtf8 script
        → IsRunOfBytes means told mid last script before written ran → IsAnswered means told mid last script before written ran
    text_run told mid last script before written ran text (inl run) = run.1
    text_run told mid last script before written ran text (inr not) = absurd (not.0 text)

    script_kept : (told : (old new : Tables) → List (ℕ × Request) → List Answer → Type 0) (mid last : Tables)
        (s : State) (left : Option (List ℕ)) (before written : Watched W) (status : Status) (files : Files D)
        → IsEnd last (Ok files) → AreClean g files.log files.db → Are mid s
        → IsAnsweredInput means told held has_failed mid last left before written (Ok status)
        → IsKeptScript g s left (held before) (held written) status files
    script_kept told mid last s left before written status files ends clean was answered =
        let input = begun told mid last left before written status answered in (
          input.script,
          input.are,
          λ text none.
              let ran = text_run told mid last input.script (held before) (held written) input.ran text input.run in
              let run = whole told mid last (requests_in input.script) (held before) (held written) status input.ran
              input.ends (without _ (bad_line input.script) none ran) in
              let it = run.run (ends.1 clean).was_clean s was in
              record {
                answers = run.answers;
                last = it.last;
                runs = it.runs;
                text = run.text;
                ends = run.ends;
                kept = holds_last last files ends clean it.last it.represented;
              },
        )

    -- a run that was begun ends by a fault only if an allocation, the input or the output failed
    ran_failed : (told : (old new : Tables) → List (ℕ × Request) → List Answer → Type 0) (mid last : Tables) (left : Option (List ℕ))
        (before written : Watched W) (failure : Failure)
        → IsAnsweredInput means told held has_failed mid last left before written (Err failure) → IsFailure failure.fault
    ran_failed told mid last left before written failure (inl nothing) = input_failed failure nothing.unread
    ran_failed told mid last left before written failure (inr run) = script_failed run.ran failure run.ends

    -- the run of a script, by what is more known of its requests, and by its outcome
    abbrev Ran : (mid last : Tables) → Option (List ℕ) → (before written : Watched W)
        → ((old new : Tables) → List (ℕ × Request) → List Answer → Type 0) → Result Status Failure → Type 0
    Ran mid last left before written told ran = IsAnsweredInput means told held has_failed mid last left before written ran

    -- the outcome of the first policy, and then of the script
    abbrev Then : Option (RunLog File) → (mid last : Tables) → (left : Option (List ℕ)) → (before written : Watched W)
        → (end taken : Result Status Failure) → Type 0
    Then log mid last left before written end taken =
        MatchResult taken (λ _. IsRunWithLog means unknown_log log (Ran mid last left before written) end)
        (λ failure. (end ≡ Err failure) × (last ≡ mid) × (written ≡ before))

    module _ (opened mid last : Tables) (s : State) (left : Option (List ℕ)) (before written : Watched W)
        (files : Files D) (ends : IsEnd last (Ok files)) (clean : AreClean g files.log files.db) (sure : Sure mid)
        (was : Are opened s) where
      first_kept : (log : Option (RunLog File)) (status : Status) (taken : Result Status Failure)
          → IsPolicyTaken means opened mid taken None → Then log mid last left before written (Ok status) taken
          → IsKeptFirstRun g s left (held before) (held written) status files
      first_kept log status (Ok ended) takes answered =
          let first = first_taken opened mid ended s sure was takes in
          record {
            rows = first.rows;
            read = first.read;
            first = first.first;
            taken = first.taken;
            run = done_with_log means unknown_log log (Ran mid last left before written) status answered
                (λ told ran. script_kept told mid last first.first left before written status files ends clean first.are ran);
          }
      first_kept log status (Err failure) takes ended = absurd (let same = ended.0 in cc)

      refused_kept : (log : Option (RunLog File)) (failure : Failure) → (IsFailure failure.fault → ⊥) → (taken : Result Status Failure)
          → IsPolicyTaken means opened mid taken None → Then log mid last left before written (Err failure) taken
          → IsFirstRefused s failure.fault × (written ≡ before) × HoldTablesOf g files s
      refused_kept log failure reported (Ok ended) takes answered =
          absurd (failed_with_log means unknown_log log (Ran mid last left before written) failure reported answered
          (λ told ran. reported (ran_failed told mid last left before written failure ran)))
      refused_kept log failure reported (Err why) takes ended =
          let same : why ≡ failure = (let is = ended.0 in cc) in
          let both = first_refused opened mid why s sure was (λ is. reported (subst (λ (f : Failure). IsFailure f.fault) same is)) takes in (
            subst (λ (f : Failure). IsFirstRefused s f.fault) same both.0,
            ended.2,
            holds_last last files ends clean s (subst (λ (t : Tables). Are t s) (sym ended.1) both.1),
          )

    request_kept : (opened last : Tables) (s : State) (moment : ℕ) (r : Input) (before written : Watched W) (status : Status) (files : Files D)
        → IsEnd last (Ok files) → AreClean g files.log files.db → Are opened s
        → IsOneStep means opened last (Ok status) held has_failed before written moment r
        → IsKeptRequest g s moment r (held before) (held written) files
    request_kept opened last s moment r before written status files ends clean was step =
        let it = step.handled (ends.1 clean).was_clean s was in
        let reported = done_reported held has_failed step.answer before written status step.reported in
        let becomes = made s moment r step.answer it.next reported.0 reported.1 reported.2 it.step in
        record {
          lines = reported.0;
          rule = reported.1;
          answers = becomes.0;
          text = reported.3;
          kept = subst (HoldTablesOf g files) becomes.1 (holds_last last files ends clean it.next it.represented);
        }

    -- ---- each operation

    module _ {s : State} {work : Work} {left : Option (List ℕ)} {before written : Watched W}
        {end : Result Status Failure} {files : Files D}
        (over : IsWorkOver g contents s work left before written end files) where
      last_sure : Sure over.works.last
      last_sure = (over.works.ends.1 over.clean).was_clean

      start : Are over.works.opened s
      start = λ _. over.works.opening.found (over.works.sure last_sure) over.found over.holds s over.tables

    pub runs_are_kept : RunsAreKept g contents
    runs_are_kept s script log left before written status files over =
        let r = over.works in
        let opens = log_opened _ _ r.done.log r.done.runs (λ failure ended. let same = ended.0 in cc) in
        let run = opens.1 in
        let answered = taken_well _ run.taken run.takes.0 run.runs in
        done_with_log means unknown_log opens.0 (Ran run.mid r.last left before written) status answered (λ told ran.
        let same = subst (λ (mid : Tables). IsAnsweredInput means told held has_failed mid r.last left before
        written (Ok status)) run.takes.1 ran in
        script_kept told r.opened r.last s left before written status files r.ends over.clean (start over) same)

    pub first_policies_are_kept : FirstPoliciesAreKept g contents
    first_policies_are_kept s path script log left before written status files over =
        let r = over.works in
        let opens = log_opened _ _ r.done.log r.done.runs (λ failure ended. let same = ended.0 in cc) in
        let run = opens.1 in
        first_kept r.opened run.mid r.last s left before written files r.ends over.clean
        (run.sure (last_sure over)) (start over) opens.0 status run.taken run.takes run.runs

    pub refused_change_nothing : RefusedPoliciesChangeNothing g contents
    refused_change_nothing s path script log left before written failure files over reported =
        let r = over.works in
        let opens = log_opened_again _ _ _ log r.done.log failure reported r.done.opened r.done.runs (λ why ended. let is = ended.0 in cc) in
        let run = opens.1 in
        refused_kept r.opened run.mid r.last s left before written files r.ends over.clean
        (run.sure (last_sure over)) (start over) opens.0 failure reported run.taken run.takes run.runs

    module _ (opened last : Tables) (s : State) (import : Asked) (left : Option (List ℕ)) (before written : Watched W)
        (status : Status) (files : Files D) (ends : IsEnd last (Ok files)) (clean : AreClean g files.log files.db)
        (was : Are opened s) where
      at_console : (console : List ℕ) → import.console ≡ Some console
          → IsImportNow means contents opened last left before written (Ok status) unknown_moment import
          → (rows : List Row) × AreRead left rows
          × ((moment : ℕ) × IsKeptRequest g s moment (input.Import console import.batch rows) (held before)
          (held written) files)
      at_console console is (inl failed) = absurd failed.0
      at_console console is (inr (moment, early, inl nothing)) = absurd nothing.unread
      at_console console is (inr (moment, early, inr (rows, read, taken))) =
          let step = subst (λ (c : Option (List ℕ)). AreTaken means opened last (Ok status) held has_failed
          before written moment import.batch c rows) is taken in
          (rows, read, (moment, request_kept opened last s moment (input.Import console import.batch rows) before written status files ends clean was step))

      without_console : import.console ≡ None → IsImportNow means contents opened last left before written (Ok status) unknown_moment import
          → (rows : List Row) × AreRead left rows × ((first : State) × (bootstrapped rows s ≡ Ok first) × (written ≡ before) × HoldTablesOf g files first)
      without_console is (inl failed) = absurd failed.0
      without_console is (inr (moment, early, inl nothing)) = absurd nothing.unread
      without_console is (inr (moment, early, inr (rows, read, taken))) =
          let both = subst (λ (c : Option (List ℕ)). AreTaken means opened last (Ok status) held has_failed
          before written moment import.batch c rows) is taken in
          let over = (both.0.taken (ends.1 clean).was_clean s was).done in
          (rows, read, (over.next, over.becomes, both.1, holds_last last files ends clean over.next over.represented))

    pub imports_are_kept : ImportsAreKept g contents
    imports_are_kept s import console left before written status files over is =
        at_console over.works.opened over.works.last s import left before written status files over.works.ends
        over.clean (start over) console is over.works.done

    pub first_imports_are_kept : FirstImportsAreKept g contents
    first_imports_are_kept s import left before written status files over is =
        without_console over.works.opened over.works.last s import left before written status files over.works.ends over.clean (start over) is over.works.done

    pub exports_leave : ExportsLeaveTheFile g contents
    exports_leave s left before written end files over =
        let r = over.works in
        let sure = last_sure over in (
          r.done.1.text sure s (start over),
          holds_last r.last files r.ends over.clean s (r.done.0.same sure s (start over)),
          never_made over.image over.found over.are_made r.opened s over.holds over.tables (r.opening.adopted (r.sure sure)),
        )
