-- The result for the footprint of a command, an event, a logon or a logoff is the result for the state.
use Rattle.std.proofs.Common.{◌≡◌, ℕ, List, [], Ok, Err, sym, ap, ◌∙◌}
use Rattle.std.proofs.lemmas.List.{append-nil}
use Rattle.opc_reader_commands.specs.declared.command.Command.{Command}
use Rattle.opc_board.specs.declared.board.BoardRows.{BoardRows}
use Rattle.opc_board.specs.declared.event.Event.{Event}
use Rattle.opc_board.specs.declared.fault.BoardFault.{BoardFault}
use Rattle.opc_board.specs.declared.line.Line.{Line}
use Rattle.opc_board.specs.Consoles.{logged_on, logged_off}
use Rattle.opc_board.specs.Effect.{effect, event_effect}
use Rattle.opc_board.specs.History.{after, history_of, outcome_after, without_history, CommandsOnlyAddToHistory, EventsOnlyAddToHistory}
use Rattle.opc_board.specs.Outcome.{BoardOutcome, done, done_with}
use Rattle.opc_board.specs.Footprint.{
  AreLeft,
  CommandsAreLocal,
  EventsAreLocal,
  IsInOrder,
  IsLocal,
  LeavesRest,
  LogoffsAreLocal,
  LogonsAreLocal,
  Footprint,
  only,
  outcome_only,
}
use Rattle.opc_state.specs.declared.change.Edit.{Edit}
use Rattle.opc_state.specs.Changes.{all_edited, with_board}
use Rattle.opc_state.specs.Footprints.{AreFootprints}
use Rattle.opc_state.specs.State.{State}
use Rattle.opc_gate_footprints.specs.Loading.{IsConsoleFootprint, IsEventFootprint, IsFootprint}
use Rattle.opc_gate_commands.specs.Acted.{IsActed}

live_order : (b : BoardRows) → IsInOrder b → IsInOrder (without_history b)
live_order b order = record { units = order.units; devices = order.devices; consoles = order.consoles; replies = order.replies }

-- the result for the part is that for a whole
record Came (footprint : Footprint) (live new : BoardRows) (lines : List Line) (o : BoardOutcome) : Type 0 where
  whole : BoardRows
  makes : o ≡ done_with whole lines
  is : new ≡ only footprint whole
  order : IsInOrder whole
  left : AreLeft footprint live whole

abbrev board_or : BoardRows → BoardOutcome → BoardRows
board_or b (Ok d) = d.board
board_or b (Err f) = b

abbrev lines_or : List Line → BoardOutcome → List Line
lines_or lines (Ok d) = d.lines
lines_or lines (Err f) = lines

came : (footprint : Footprint) (live new : BoardRows) (lines : List Line) (o : BoardOutcome)
    → outcome_only footprint o ≡ done_with new lines → LeavesRest footprint live o → Came footprint live new lines o
came footprint live new lines (Ok d) h rest =
    let board : only footprint d.board ≡ new = ap (board_or new) h in
    let same : d.lines ≡ lines = ap (lines_or lines) h in
    record { whole = d.board; makes = ap (done_with d.board) same; is = sym board; order = rest.0; left = rest.1 }
came footprint live new lines (Err f) h rest = absurd (cc)

stopped : (footprint : Footprint) (o : BoardOutcome) (f : BoardFault) → outcome_only footprint o ≡ Err f → o ≡ Err f
stopped footprint (Ok d) f h = absurd (cc)
stopped footprint (Err g) f h = h

-- edits that lead from a footprint of a state's board to its result
abbrev pub Leads : State → BoardRows → BoardRows → List Edit → Type 0
Leads s old new edits = ((whole : BoardRows) → AreFootprints old new s whole → all_edited edits s ≡ with_board whole s)
    × ((whole : BoardRows) → AreFootprints old new s whole → all_edited edits s ≡ s → edits ≡ [])

footprints : (s : State) (footprint : Footprint) (old new whole : BoardRows) → IsInOrder s.board
    → old ≡ only footprint (without_history s.board) → new ≡ only footprint whole → IsInOrder whole
    → AreLeft footprint (without_history s.board) whole → AreFootprints old new s whole
footprints s footprint old new whole was old_is new_is now left =
    record {
      footprint = footprint;
      old_is = old_is;
      new_is = new_is;
      was = was;
      now = now;
      left = record { units = left.units; devices = left.devices; consoles = left.consoles; replies = left.replies };
    }

acted_so : (s : State) (footprint : Footprint) (old new : BoardRows) (lines : List Line) (edits : List Edit)
    (o live : BoardOutcome) → o ≡ outcome_after (history_of s.board) live → IsInOrder s.board
    → old ≡ only footprint (without_history s.board)
    → Came footprint (without_history s.board) new lines live → Leads s old new edits → IsActed s o edits lines
acted_so s footprint old new lines edits o live law order is c leads =
    let both : AreFootprints old new s c.whole = footprints s footprint old new c.whole order is c.is c.order c.left in
    record {
      board = after (history_of s.board) c.whole;
      makes = law ∙ ap (outcome_after (history_of s.board)) c.makes;
      becomes = leads.0 c.whole both;
      idle = leads.1 c.whole both;
    }

module _ (adds : CommandsOnlyAddToHistory) (local : CommandsAreLocal) (s : State) (command : Command) (console : List ℕ)
    (part : BoardRows) (footprint : IsFootprint s command console part) where
  law : IsLocal footprint.footprint (without_history s.board) (λ b. effect b command console)
  law = local footprint.footprint (without_history s.board) command console (live_order s.board footprint.order) footprint.sees

  came_of : (new : BoardRows) (lines : List Line) → effect part command console ≡ done_with new lines
      → Came footprint.footprint (without_history s.board) new lines (effect (without_history s.board) command console)
  came_of new lines acts = came footprint.footprint (without_history s.board) new lines _
      (sym law.0 ∙ ap (λ b. effect b command console) (sym footprint.is) ∙ acts) law.1

  pub acted_footprint : (old new : BoardRows) (lines : List Line) (edits : List Edit) → old ≡ without_history part
      → effect part command console ≡ done_with new lines → Leads s old new edits
      → IsActed s (effect s.board command console) edits lines
  acted_footprint old new lines edits copy acts leads =
      acted_so s footprint.footprint old new lines edits _ (effect (without_history s.board) command console)
      (adds s.board command console) footprint.order (copy ∙ ap without_history footprint.is)
      (came_of new lines acts) leads

  pub refused_footprint : (f : BoardFault) → effect part command console ≡ Err f → effect s.board command console ≡ Err f
  refused_footprint f fails = adds s.board command console
      ∙ ap (outcome_after (history_of s.board))
      (stopped footprint.footprint _ f (sym law.0 ∙ ap (λ b. effect b command console) (sym footprint.is) ∙ fails))

module _ (adds : EventsOnlyAddToHistory) (local : EventsAreLocal) (s : State) (event : Event) (part : BoardRows)
    (footprint : IsEventFootprint s event part) where
  event_law : IsLocal footprint.footprint (without_history s.board) (λ b. event_effect b event)
  event_law = local footprint.footprint (without_history s.board) event (live_order s.board footprint.order) footprint.sees

  pub came_footprint : (old new : BoardRows) (edits : List Edit) → old ≡ without_history part
      → event_effect part event ≡ done_with new [] → Leads s old new edits
      → IsActed s (event_effect s.board event) edits []
  came_footprint old new edits copy acts leads =
      acted_so s footprint.footprint old new [] edits _ (event_effect (without_history s.board) event)
      (adds s.board event) footprint.order (copy ∙ ap without_history footprint.is)
      (came footprint.footprint (without_history s.board) new [] _
      (sym event_law.0 ∙ ap (λ b. event_effect b event) (sym footprint.is) ∙ acts) event_law.1) leads

  pub stopped_footprint : (f : BoardFault) → event_effect part event ≡ Err f → event_effect s.board event ≡ Err f
  stopped_footprint f fails = adds s.board event
      ∙ ap (outcome_after (history_of s.board))
      (stopped footprint.footprint _ f (sym event_law.0 ∙ ap (λ b. event_effect b event) (sym footprint.is) ∙ fails))

-- ---- logons and logoffs

-- what they make of a board without its histories they make of the board

on_whole : (b : BoardRows) (name user : List ℕ) → after (history_of b) (logged_on name user (without_history b)) ≡ logged_on name user b
on_whole b name user = simp append-nil

off_whole : (b : BoardRows) (name : List ℕ) → after (history_of b) (logged_off name (without_history b)) ≡ logged_off name b
off_whole b name = simp append-nil

module _ (s : State) (console : List ℕ) (part : BoardRows) (footprint : IsConsoleFootprint s console part) where
  -- a change that does on the part what it does on the whole
  changed_footprints : (run : BoardRows → BoardRows)
      → IsLocal footprint.footprint (without_history s.board) (λ b. done (run b)) → (old new : BoardRows)
      → old ≡ without_history part → new ≡ run part → AreFootprints old new s (run (without_history s.board))
  changed_footprints run local old new copy runs =
      footprints s footprint.footprint old new (run (without_history s.board)) footprint.order
      (copy ∙ ap without_history footprint.is) (runs ∙ ap run footprint.is ∙ ap (board_or part) local.0) local.1.0
      local.1.1

  module _ (local : LogonsAreLocal) (user : List ℕ) (old new : BoardRows) (edits : List Edit)
      (copy : old ≡ without_history part) (logs : new ≡ logged_on console user part) where
    on_footprints : AreFootprints old new s (logged_on console user (without_history s.board))
    on_footprints = changed_footprints (logged_on console user)
        (local footprint.footprint (without_history s.board) console user (live_order s.board footprint.order)
        footprint.sees) old new copy logs

    pub on_becomes : ((whole : BoardRows) → AreFootprints old new s whole → all_edited edits s ≡ with_board whole s)
        → all_edited edits s ≡ record s { board = logged_on console user s.board }
    on_becomes becomes = becomes _ on_footprints ∙ ap (λ (b : BoardRows). record s { board = b }) (on_whole s.board console user)

    pub on_idle : ((whole : BoardRows) → AreFootprints old new s whole → all_edited edits s ≡ s → edits ≡ []) → all_edited edits s ≡ s → edits ≡ []
    on_idle idle = idle _ on_footprints

  module _ (local : LogoffsAreLocal) (old new : BoardRows) (edits : List Edit) (copy : old ≡ without_history part) (logs : new ≡ logged_off console part) where
    off_footprints : AreFootprints old new s (logged_off console (without_history s.board))
    off_footprints = changed_footprints (logged_off console)
        (local footprint.footprint (without_history s.board) console (live_order s.board footprint.order)
        footprint.sees) old new copy logs

    pub off_becomes : ((whole : BoardRows) → AreFootprints old new s whole → all_edited edits s ≡ with_board whole s)
        → all_edited edits s ≡ record s { board = logged_off console s.board }
    off_becomes becomes = becomes _ off_footprints ∙ ap (λ (b : BoardRows). record s { board = b }) (off_whole s.board console)

    pub off_idle : ((whole : BoardRows) → AreFootprints old new s whole → all_edited edits s ≡ s → edits ≡ []) → all_edited edits s ≡ s → edits ≡ []
    off_idle idle = idle _ off_footprints
