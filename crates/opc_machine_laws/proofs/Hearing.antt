-- Which of the typed lines are done, and in which order.
use Rattle.std.proofs.Common.{◌≡◌, ◌⊎◌, inl, inr, List, [], ◌∷◌, Some, refl, ap}
use Rattle.opc_terms.specs.declared.need.Need.{Need}
use Rattle.opc_reader_commands.specs.declared.command.Command.{Command}
use Rattle.opc_reader_commands.specs.declared.command.Command.TheVariants as command
use Rattle.opc_reader.specs.Reading.{reading}
use Rattle.opc_reader.proofs.Exact.{so_reads}
use Rattle.opc_board.specs.declared.board.BoardRows.{BoardRows}
use Rattle.opc_machine.specs.declared.request.Answer.{Answer}
use Rattle.opc_machine.specs.Commands.{command_in, command_outcome, console_for, need_of, typed}
use Rattle.opc_machine.specs.Outcome.{◌>>=◌}
use Rattle.opc_machine.proofs.Inversion.{bind_ok, command_is, console_is, done_is, not_aborted}
use Rattle.opc_machine_laws.specs.Laws.{AbortsWithoutMemoryOrStore, IsSession, NothingAskedChangesNothing, OnlyWhatIsHeardIsDone, RequestsAreJudgedInTurn}
use Rattle.opc_machine_laws.specs.NeedLaws.{NeedsAreOfTheTable}

-- each command but LOGON and LOGOFF needs something
needs_something : (b : BoardRows) (k : Command) → IsSession k ⊎ ((need : Need) × (need_of b k ≡ Some need))
needs_something b command.DisplayUnits = inr (_, refl)
needs_something b (command.DisplayUnit name) = inr (_, refl)
needs_something b command.DisplayDevices = inr (_, refl)
needs_something b command.DisplayConsoles = inr (_, refl)
needs_something b command.DisplayReplies = inr (_, refl)
needs_something b (command.Cancel name) = inr (_, refl)
needs_something b (command.CancelUser user) = inr (_, refl)
needs_something b (command.Force name) = inr (_, refl)
needs_something b (command.Start member) = inr (_, refl)
needs_something b (command.StartAs member id) = inr (_, refl)
needs_something b (command.Stop name) = inr (_, refl)
needs_something b (command.Modify name text) = inr (_, refl)
needs_something b (command.Reply id text) = inr (_, refl)
needs_something b (command.VaryDeviceOnline device) = inr (_, refl)
needs_something b (command.VaryDeviceOffline device) = inr (_, refl)
needs_something b (command.Mount device volume) = inr (_, refl)
needs_something b (command.Unload device) = inr (_, refl)
needs_something b (command.Swap from to) = inr (_, refl)
needs_something b (command.VaryConsoleOnline console) = inr (_, refl)
needs_something b (command.VaryConsoleOffline console) = inr (_, refl)
needs_something b (command.VaryConsoleAuth console auth) = inr (_, refl)
needs_something b (command.ResetConsole console) = inr (_, refl)
needs_something b (command.Send text user) = inr (_, refl)
needs_something b (command.Log text) = inr (_, refl)
needs_something b command.Monitor = inr (_, refl)
needs_something b command.StopMonitor = inr (_, refl)
needs_something b command.Halt = inr (_, refl)
needs_something b (command.Logon user password) = inl (inl (user, password, refl))
needs_something b command.Logoff = inl (inr refl)

pub only_heard : OnlyWhatIsHeardIsDone
only_heard s moment name text lines why new (inl left) = absurd (not_aborted lines why left.aborts)
only_heard s moment name text lines why new (inr (inl full)) = absurd (not_aborted lines why (inr full.answers))
only_heard s moment name text lines why new (inr (inr done)) =
    let d = done_is (command_outcome s name text) lines why done.answers in
    let a = bind_ok (console_for s name) (λ c. command_in text >>= λ k. typed s c k (need_of s.board k)) d.0 d.1 in
    let t = bind_ok (command_in text) (λ k. typed s a.0 k (need_of s.board k)) d.0 a.2 in
    let at = console_is s name a.0 a.1 in
    (a.0, t.0, record { there = at.0; online = at.1; reads = so_reads text t.0 (command_is (reading text) t.0 t.1) }, needs_something s.board t.0)

pub in_turn : RequestsAreJudgedInTurn
in_turn s [] r later [] new runs = absurd runs
in_turn s [] r later (answer ∷ answers) new runs = record {
  earlier = [];
  answer = answer;
  others = answers;
  left = s;
  made = runs.0;
  answered = refl;
  first = refl;
  step = runs.1;
  rest = runs.2;
}
in_turn s (b ∷ before) r later [] new runs = absurd runs
in_turn s (b ∷ before) r later (answer ∷ answers) new runs =
    let more = in_turn runs.0 before r later answers new runs.2 in
    record {
      earlier = answer ∷ more.earlier;
      answer = more.answer;
      others = more.others;
      left = more.left;
      made = more.made;
      answered = ap (λ (l : List Answer). answer ∷ l) more.answered;
      first = (runs.0, runs.1, more.first);
      step = more.step;
      rest = more.rest;
    }

pub of_the_table : NeedsAreOfTheTable
of_the_table b command.DisplayUnits = λ kind. refl
of_the_table b (command.DisplayUnit name) = λ kind. refl
of_the_table b command.DisplayDevices = λ kind. refl
of_the_table b command.DisplayConsoles = λ kind. refl
of_the_table b command.DisplayReplies = λ kind. refl
of_the_table b (command.Cancel name) = refl
of_the_table b (command.CancelUser user) = λ kind. refl
of_the_table b (command.Force name) = refl
of_the_table b (command.Start member) = λ kind. refl
of_the_table b (command.StartAs member id) = λ kind. refl
of_the_table b (command.Stop name) = refl
of_the_table b (command.Modify name text) = refl
of_the_table b (command.Reply id text) = λ kind. refl
of_the_table b (command.VaryDeviceOnline device) = λ kind. refl
of_the_table b (command.VaryDeviceOffline device) = λ kind. refl
of_the_table b (command.Mount device volume) = λ kind. refl
of_the_table b (command.Unload device) = λ kind. refl
of_the_table b (command.Swap from to) = λ kind. refl
of_the_table b (command.VaryConsoleOnline console) = λ kind. refl
of_the_table b (command.VaryConsoleOffline console) = λ kind. refl
of_the_table b (command.VaryConsoleAuth console auth) = λ kind. refl
of_the_table b (command.ResetConsole console) = λ kind. refl
of_the_table b (command.Send text user) = λ kind. refl
of_the_table b (command.Log text) = λ kind. refl
of_the_table b command.Monitor = λ kind. refl
of_the_table b command.StopMonitor = λ kind. refl
of_the_table b command.Halt = λ kind. refl
of_the_table b (command.Logon user password) = λ kind. refl
of_the_table b command.Logoff = λ kind. refl

pub nothing_asked : NothingAskedChangesNothing
nothing_asked s [] new runs = (refl, runs)
nothing_asked s (answer ∷ answers) new runs = absurd runs

pub gives_up_for : AbortsWithoutMemoryOrStore
gives_up_for answer aborts = aborts
