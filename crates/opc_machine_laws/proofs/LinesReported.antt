-- The lines of each command.
use Rattle.std.proofs.Common.{◌≡◌, Bool, true, false, if◌then◌else◌, List, [], ◌∷◌, Option, Some, None, Ok, Err, filter, refl, sym, ap, ◌∙◌, rules}
use Rattle.opc_reader_commands.specs.declared.command.Command.{Command}
use Rattle.opc_reader_commands.specs.declared.command.Command.TheVariants as command
use Rattle.opc_board.specs.declared.board.BoardRows.{BoardRows}
use Rattle.opc_board.specs.declared.fault.BoardFault.{BoardFault}
use Rattle.opc_board.specs.declared.fault.BoardFault.TheVariants.{NoDevice, NoReply, NoTarget, NoUnit}
use Rattle.opc_board.specs.declared.line.Line.{Line}
use Rattle.opc_board.specs.declared.rows.ReplyRow.{ReplyRow}
use Rattle.opc_board.specs.Consoles.{put_offline, vary_faults}
use Rattle.opc_board.specs.Devices.{mount_faults, offline_faults, online_faults, swap_faults, unload_faults}
use Rattle.opc_board.specs.Effect.{effect}
use Rattle.opc_board.specs.Invariants.{Name, console_at, device_at, reply_at, unit_at}
use Rattle.opc_board.specs.Outcome.{Done as BoardDone, BoardOutcome, ◌>>=◌, done, done_with, faults_or, found}
use Rattle.opc_board.specs.Replies.{halt_faults, send_faults}
use Rattle.opc_board.specs.Units.{cancel_faults, cancel_user_faults, come_faults, force_faults, kind_faults}
use Rattle.opc_machine.specs.Rulings.{shown}
use Rattle.opc_machine_laws.specs.DisplayLaws.{BoardsGoByName, CommandsReportTheirLines, lines_on}

abbrev lines_in : BoardOutcome → List Line
lines_in (Ok act) = act.lines
lines_in (Err fault) = []

-- what may be refused and gives no line

no_lines : (faults : List (Bool × BoardFault)) (b : BoardRows) → lines_in (faults_or faults (done b)) ≡ []
no_lines [] b = refl
no_lines ((there, fault) ∷ faults) b = go there (no_lines faults b)
  where
    go : (t : Bool) → lines_in (faults_or faults (done b)) ≡ [] → lines_in (if t then Err fault else faults_or faults (done b)) ≡ []
    go true later = refl
    go false later = later

of_found : {A : Type 0} (fault : BoardFault) (o : Option A) (next : A → BoardOutcome) → ((x : A) → lines_in (next x) ≡ [])
    → lines_in (found fault o >>= next) ≡ []
of_found fault None next h = refl
of_found fault (Some x) next h = h x

-- If a command does something, these are its lines.
abbrev AreLines : BoardRows → Command → BoardOutcome → Type 0
AreLines b k o = (act : BoardDone) → o ≡ Ok act → act.lines ≡ lines_on b k

returned : (o : BoardOutcome) (lines : List Line) → lines_in o ≡ lines → (act : BoardDone) → o ≡ Ok act → act.lines ≡ lines
returned o lines h act is = ap lines_in (sym is) ∙ h

replied : (b : BoardRows) (o : Option ReplyRow) (new : BoardRows) (lines : List Line) (act : BoardDone)
    → (found NoReply o >>= λ (r : ReplyRow). done_with new lines) ≡ Ok act → act.lines ≡ lines
replied b None new lines act is = absurd (search (rules, is))
replied b (Some r) new lines act is = ap lines_in (sym is)

lines_reported : (b : BoardRows) (at : Name) (k : Command) → AreLines b k (effect b k at)
lines_reported b at command.DisplayUnits = returned _ _ refl
lines_reported b at (command.DisplayUnit name) = returned _ _ refl
lines_reported b at command.DisplayDevices = returned _ _ refl
lines_reported b at command.DisplayConsoles = returned _ _ refl
lines_reported b at command.DisplayReplies = returned _ _ refl
lines_reported b at (command.Cancel name) = returned _ _ (of_found NoUnit (unit_at b name.value) _ (λ u. no_lines (cancel_faults u) _))
lines_reported b at (command.CancelUser user) = returned _ _ (of_found NoUnit (unit_at b user.value) _ (λ u. no_lines (cancel_user_faults u) _))
lines_reported b at (command.Force name) = returned _ _ (of_found NoUnit (unit_at b name.value) _ (λ u. no_lines (force_faults u) _))
lines_reported b at (command.Start member) = returned _ _ (no_lines (come_faults member.value b) _)
lines_reported b at (command.StartAs member id) = returned _ _ (no_lines (come_faults id.value b) _)
lines_reported b at (command.Stop name) = returned _ _ (of_found NoUnit (unit_at b name.value) _ (λ u. no_lines (kind_faults u) _))
lines_reported b at (command.Modify name text) = returned _ _ (of_found NoUnit (unit_at b name.value) _ (λ u. no_lines (kind_faults u) _))
lines_reported b at (command.Reply id text) = replied b (reply_at b id.value) _ _
lines_reported b at (command.VaryDeviceOnline device) = returned _ _ (of_found NoDevice (device_at b device.value) _ (λ d. no_lines (online_faults d) _))
lines_reported b at (command.VaryDeviceOffline device) = returned _ _ (of_found NoDevice (device_at b device.value) _ (λ d. no_lines (offline_faults d) _))
lines_reported b at (command.VaryConsoleOnline name) =
    returned _ _ (of_found NoTarget (console_at b name.value) _
    (λ c. no_lines (vary_faults (record c { online = true }) b) _))
lines_reported b at (command.VaryConsoleOffline name) =
    returned _ _ (of_found NoTarget (console_at b name.value) _ (λ c. no_lines (vary_faults (put_offline c) b) _))
lines_reported b at (command.VaryConsoleAuth name auth) =
    returned _ _ (of_found NoTarget (console_at b name.value) _
    (λ c. no_lines (vary_faults (record c { auth = auth.value }) b) _))
lines_reported b at (command.Mount device volume) = returned _ _ (of_found NoDevice (device_at b device.value) _ (λ d. no_lines (mount_faults d) _))
lines_reported b at (command.Unload device) = returned _ _ (of_found NoDevice (device_at b device.value) _ (λ d. no_lines (unload_faults d) _))
lines_reported b at (command.Swap from to) =
    returned _ _ (of_found NoDevice (device_at b from.value) _
    (λ c. of_found NoDevice (device_at b to.value) _ (λ d. no_lines (swap_faults c d) _)))
lines_reported b at (command.ResetConsole name) = returned _ _ (of_found NoTarget (console_at b name.value) _ (λ c. refl))
lines_reported b at (command.Send text user) = returned _ _ (no_lines (send_faults user.value b) _)
lines_reported b at (command.Log text) = returned _ _ refl
lines_reported b at command.Monitor = returned _ _ refl
lines_reported b at command.StopMonitor = returned _ _ refl
lines_reported b at command.Halt = returned _ _ (no_lines (halt_faults b) _)
lines_reported b at (command.Logon id password) = returned _ _ refl
lines_reported b at command.Logoff = returned _ _ refl

pub report_their_lines : CommandsReportTheirLines
report_their_lines s c k why lines rule new acts =
    let given : lines ≡ filter (shown s c) acts.act.lines = search (rules, acts.answered) in
    given ∙ ap (filter (shown s c)) (lines_reported s.board c.name k acts.act acts.makes)

pub go_by_name : BoardsGoByName
go_by_name b order = record { units = order.units; devices = order.devices; consoles = order.consoles; replies = order.replies }
