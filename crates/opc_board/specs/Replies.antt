-- What happens to replies, the log, messages and the day.
use Rattle.std.specs.Prelude.{ℕ, Bool, true, false, not, ◌||◌, ◌==◌, List, [], ◌∷◌, ◌++◌, Option, Some, None, filter}
use Rattle.std.specs.Option.{is_some}
use Rattle.std.specs.List.{list_any}
use Rattle.opc_rows.specs.Ordered.{put}
use Rattle.opc_board.specs.declared.rows.UnitRow.{UnitRow}
use Rattle.opc_board.specs.declared.board.BoardRows.{BoardRows}
use Rattle.opc_board.specs.declared.fault.BoardFault.{BoardFault}
use Rattle.opc_board.specs.declared.fault.BoardFault.TheVariants.{NoReply, NoTarget, Halted, ReplyExists}
use Rattle.opc_board.specs.Invariants.{Name, reply_before, unit_at, reply_at}
use Rattle.opc_board.specs.Units.{is_tsu, is_holder}
use Rattle.opc_board.specs.Outcome.{BoardOutcome, done, done_with, faults_or, found, ◌>>=◌}
use Rattle.opc_board.specs.Texts.{reply_line}

-- R id,text: the reply is no longer open, and its answer is stored after all others
abbrev pub without_reply : ℕ → BoardRows → BoardRows
without_reply id b = record b { replies = filter (λ r. not (r.id == id)) b.replies }

abbrev pub answered : ℕ → List ℕ → BoardRows → BoardRows
answered id text b = record b { answered = b.answered ++ record { id = id; text = text } ∷ [] }

abbrev pub reply : ℕ → List ℕ → BoardRows → BoardOutcome
reply id text b = do
  open_reply ← found NoReply (reply_at b id)
  done_with (answered id text (without_reply id b)) (reply_line id text ∷ [])

-- something asks the operators
abbrev pub ask_faults : ℕ → BoardRows → List (Bool × BoardFault)
ask_faults id b = (is_some (reply_at b id), ReplyExists) ∷ []

abbrev pub ask : ℕ → List ℕ → BoardRows → BoardOutcome
ask id text b = faults_or (ask_faults id b) (done (record b {
  replies = put reply_before (record {
    id = id;
    text = text;
  }) b.replies;
}))

-- the user is logged on at some console
abbrev pub is_on : Name → BoardRows → Bool
is_on user b = list_any (λ c. is_holder user c.user) b.consoles

-- the user has a session on the board
abbrev pub is_session : Option UnitRow → Bool
is_session (Some u) = is_tsu u.kind
is_session None = false

abbrev pub has_session : Name → BoardRows → Bool
has_session user b = is_session (unit_at b user)

-- SE 'text',USER=(user): the message is stored after all others
abbrev pub send_faults : Name → BoardRows → List (Bool × BoardFault)
send_faults user b = (not (is_on user b || has_session user b), NoTarget) ∷ []

abbrev pub send : Name → List ℕ → BoardRows → BoardOutcome
send user text b = faults_or (send_faults user b) (done (record b {
  messages = b.messages ++ record {
    user = user;
    text = text;
  } ∷ [];
}))

-- L 'text': the line is stored after all others
abbrev pub log_line : List ℕ → BoardRows → BoardOutcome
log_line text b = done (record b { log = b.log ++ text ∷ [] })

-- Z EOD: the day is halted; it goes on when it is resumed
abbrev pub halt_faults : BoardRows → List (Bool × BoardFault)
halt_faults b = (b.halted, Halted) ∷ []

abbrev pub halt : BoardRows → BoardOutcome
halt b = faults_or (halt_faults b) (done (record b { halted = true }))

abbrev pub resumed : BoardRows → BoardRows
resumed b = record b { halted = false }
