-- What the edits of a difference make of a state.
use Rattle.std.proofs.Common.{◌≡◌, Bool, true, false, not, List, [], ◌∷◌, ◌++◌, filter, map, refl, sym, ap, ap₂, ◌∙◌, append_assoc, Ordering, is_eq}
use Rattle.std.specs.BTreeSet.{replace_key}
use Rattle.std.specs.Cmp.{IsTotalOrder}
use Rattle.std.specs.Ordering.{is_lt}
use Rattle.std.proofs.lemmas.List.{append-nil}
use Rattle.opc_rows.specs.Ordered.{Ascends}
use Rattle.opc_board.specs.declared.board.BoardRows.{BoardRows}
use Rattle.opc_board.specs.declared.rows.ConsoleRow.{ConsoleRow}
use Rattle.opc_board.specs.declared.rows.DeviceRow.{DeviceRow}
use Rattle.opc_board.specs.declared.rows.ReplyRow.{ReplyRow}
use Rattle.opc_board.specs.declared.rows.UnitRow.{UnitRow}
use Rattle.opc_board.specs.Footprint.{IsInOrder}
use Rattle.opc_board.specs.History.{without_history}
use Rattle.opc_state.specs.declared.change.Edit.{Edit}
use Rattle.opc_state.specs.declared.change.Edit.TheVariants as edit
use Rattle.opc_state.specs.State.{State}
use Rattle.opc_state.specs.Members.{unit_cmp, device_cmp, console_cmp, reply_cmp}
use Rattle.opc_state.specs.Changes.{
  edited,
  all_edited,
  with_board,
  with_units,
  with_devices,
  with_consoles,
  with_replies,
  with_halted,
  with_answered,
  with_log,
  with_messages,
}
use Rattle.opc_state.specs.Difference.{
  gone,
  fresh,
  part_difference,
  board_difference,
  halted_difference,
  unit_at,
  device_at,
  console_at,
  reply_at,
  same_unit,
  same_device,
  same_console,
  same_reply,
  unit_removal,
  device_removal,
  console_removal,
  reply_removal,
}
use Rattle.opc_state.specs.Footprints.{AreFootprints}
use Rattle.opc_state.proofs.Footprint.{differences}
use Rattle.opc_state.proofs.Replacing.{without_all, with_all, becomes, none_gone, none_fresh}
use Rattle.opc_state.proofs.SameRows.{
  unit_total,
  device_total,
  console_total,
  reply_total,
  unit_ties,
  device_ties,
  console_ties,
  reply_ties,
  units_same,
  devices_same,
  consoles_same,
  replies_same,
  unit_itself,
  device_itself,
  console_itself,
  reply_itself,
}

pub edited_after : (edits more : List Edit) (s : State) → all_edited (edits ++ more) s ≡ all_edited more (all_edited edits s)
edited_after [] more s = refl
edited_after (e ∷ edits) more s = edited_after edits more (edited e s)

next : (edits more : List Edit) (s mid last : State) → all_edited edits s ≡ mid → all_edited more mid ≡ last → all_edited (edits ++ more) s ≡ last
next edits more s mid last one other = edited_after edits more s ∙ ap (all_edited more) one ∙ other

-- one part, which edits put and remove the rows of
module _ {R : Type 0} (cmp : R → R → Ordering) (is_at : R → R → Bool) (removal put : R → Edit) (get : State → List R) (set : List R → State → State)
    (kept : (s : State) → set (get s) s ≡ s) (got : (rows : List R) (s : State) → get (set rows s) ≡ rows)
    (again : (one other : List R) (s : State) → set other (set one s) ≡ set other s)
    (removes : (r : R) (s : State) → edited (removal r) s ≡ set (filter (λ q. not (is_at q r)) (get s)) s)
    (puts : (r : R) (s : State) → edited (put r) s ≡ set (replace_key cmp (get s) r) s) where
  all_removed : (rs : List R) (s : State) → all_edited (map removal rs) s ≡ set (without_all is_at rs (get s)) s
  all_removed [] s = sym (kept s)
  all_removed (r ∷ rs) s =
      ap (all_edited (map removal rs)) (removes r s)
      ∙ all_removed rs (set (filter (λ q. not (is_at q r)) (get s)) s)
      ∙ again _ _ s
      ∙ ap (λ rows. set (without_all is_at rs rows) s) (got _ s)

  all_put : (rs : List R) (s : State) → all_edited (map put rs) s ≡ set (with_all cmp rs (get s)) s
  all_put [] s = sym (kept s)
  all_put (r ∷ rs) s =
      ap (all_edited (map put rs)) (puts r s)
      ∙ all_put rs (set (replace_key cmp (get s) r) s)
      ∙ again _ _ s
      ∙ ap (λ rows. set (with_all cmp rs rows) s) (got _ s)

  pub part_becomes : IsTotalOrder cmp → (is_same : R → R → Bool) → ((q r : R) → is_at q r ≡ is_eq (cmp q r)) → ((q r : R) → is_same q r ≡ true → q ≡ r)
      → (new : List R) (s : State) → Ascends (λ q r. is_lt (cmp q r)) (get s) → Ascends (λ q r. is_lt (cmp q r)) new
      → all_edited (part_difference is_at is_same removal put (get s) new) s ≡ set new s
  part_becomes total is_same ties same new s was now =
      edited_after (map removal (gone is_at (get s) new)) (map put (fresh is_at is_same (get s) new)) s
      ∙ ap (all_edited (map put (fresh is_at is_same (get s) new))) (all_removed (gone is_at (get s) new) s)
      ∙ all_put (fresh is_at is_same (get s) new) (set (without_all is_at (gone is_at (get s) new) (get s)) s)
      ∙ again _ _ s
      ∙ ap (λ rows. set (with_all cmp (fresh is_at is_same (get s) new) rows) s) (got _ s)
      ∙ ap (λ rows. set rows s) (becomes cmp total is_at is_same ties same (get s) new was now)

units_become : (new : List UnitRow) (s : State) → Ascends (λ (q r : UnitRow). is_lt (unit_cmp q r)) s.board.units
    → Ascends (λ (q r : UnitRow). is_lt (unit_cmp q r)) new
    → all_edited (part_difference unit_at same_unit unit_removal edit.PutUnit s.board.units new) s ≡ with_units new s
units_become = part_becomes unit_cmp unit_at unit_removal edit.PutUnit (λ s. s.board.units) with_units (λ s. refl)
    (λ rows s. refl) (λ one other s. refl) (λ r s. refl) (λ r s. refl) unit_total same_unit unit_ties units_same

devices_become : (new : List DeviceRow) (s : State)
    → Ascends (λ (q r : DeviceRow). is_lt (device_cmp q r)) s.board.devices
    → Ascends (λ (q r : DeviceRow). is_lt (device_cmp q r)) new
    → all_edited (part_difference device_at same_device device_removal edit.PutDevice s.board.devices new) s ≡ with_devices new s
devices_become = part_becomes device_cmp device_at device_removal edit.PutDevice (λ s. s.board.devices) with_devices
    (λ s. refl) (λ rows s. refl) (λ one other s. refl) (λ r s. refl) (λ r s. refl) device_total same_device device_ties
    devices_same

consoles_become : (new : List ConsoleRow) (s : State)
    → Ascends (λ (q r : ConsoleRow). is_lt (console_cmp q r)) s.board.consoles
    → Ascends (λ (q r : ConsoleRow). is_lt (console_cmp q r)) new
    → all_edited (part_difference console_at same_console console_removal edit.PutConsole s.board.consoles new) s ≡ with_consoles new s
consoles_become = part_becomes console_cmp console_at console_removal edit.PutConsole (λ s. s.board.consoles)
    with_consoles (λ s. refl) (λ rows s. refl) (λ one other s. refl) (λ r s. refl) (λ r s. refl) console_total
    same_console console_ties consoles_same

replies_become : (new : List ReplyRow) (s : State) → Ascends (λ (q r : ReplyRow). is_lt (reply_cmp q r)) s.board.replies
    → Ascends (λ (q r : ReplyRow). is_lt (reply_cmp q r)) new
    → all_edited (part_difference reply_at same_reply reply_removal edit.PutReply s.board.replies new) s ≡ with_replies new s
replies_become = part_becomes reply_cmp reply_at reply_removal edit.PutReply (λ s. s.board.replies) with_replies
    (λ s. refl) (λ rows s. refl) (λ one other s. refl) (λ r s. refl) (λ r s. refl) reply_total same_reply reply_ties
    replies_same

halted_becomes : (old new : Bool) (s : State) → s.board.halted ≡ old → all_edited (halted_difference old new) s ≡ with_halted new s
halted_becomes true true s is = ap (λ b. with_halted b s) is
halted_becomes false false s is = ap (λ b. with_halted b s) is
halted_becomes true false s is = refl
halted_becomes false true s is = refl

-- a history, which edits add rows to
module _ {R : Type 0} (added : R → Edit) (get : State → List R) (set : List R → State → State)
    (kept : (s : State) → set (get s) s ≡ s) (got : (rows : List R) (s : State) → get (set rows s) ≡ rows)
    (again : (one other : List R) (s : State) → set other (set one s) ≡ set other s)
    (adds : (r : R) (s : State) → edited (added r) s ≡ set (get s ++ r ∷ []) s) where
  pub history_becomes : (rs : List R) (s : State) → all_edited (map added rs) s ≡ set (get s ++ rs) s
  history_becomes [] s = sym (kept s) ∙ ap (λ rows. set rows s) (sym (append-nil (get s)))
  history_becomes (r ∷ rs) s =
      ap (all_edited (map added rs)) (adds r s)
      ∙ history_becomes rs (set (get s ++ r ∷ []) s)
      ∙ again _ _ s
      ∙ ap (λ rows. set (rows ++ rs) s) (got _ s)
      ∙ ap (λ rows. set rows s) (append_assoc (get s) (r ∷ []) rs)

-- The edits of the difference make the one board the other.
pub board_becomes : (s : State) (new : BoardRows) → IsInOrder s.board → IsInOrder new → all_edited (board_difference s.board new) s ≡ with_board new s
board_becomes s new was now =
    let old : BoardRows = s.board in
    let units : List Edit = part_difference unit_at same_unit unit_removal edit.PutUnit old.units new.units in
    let devices : List Edit = part_difference device_at same_device device_removal edit.PutDevice old.devices new.devices in
    let consoles : List Edit = part_difference console_at same_console console_removal edit.PutConsole old.consoles new.consoles in
    let replies : List Edit = part_difference reply_at same_reply reply_removal edit.PutReply old.replies new.replies in
    let to_devices : List Edit = units ++ devices in
    let to_consoles : List Edit = to_devices ++ consoles in
    let to_replies : List Edit = to_consoles ++ replies in
    let to_halted : List Edit = to_replies ++ halted_difference old.halted new.halted in
    let to_answered : List Edit = to_halted ++ map edit.AddAnswered new.answered in
    let to_log : List Edit = to_answered ++ map edit.AddLog new.log in
    let s1 : State = with_units new.units s in
    let s2 : State = with_devices new.devices s1 in
    let s3 : State = with_consoles new.consoles s2 in
    let s4 : State = with_replies new.replies s3 in
    let s5 : State = with_halted new.halted s4 in
    let s6 : State = with_answered (old.answered ++ new.answered) s5 in
    let s7 : State = with_log (old.log ++ new.log) s6 in
    let e1 : all_edited units s ≡ s1 = units_become new.units s was.units now.units in
    let e2 : all_edited to_devices s ≡ s2 = next units devices s s1 s2 e1 (devices_become new.devices s1 was.devices now.devices) in
    let e3 : all_edited to_consoles s ≡ s3 = next to_devices consoles s s2 s3 e2 (consoles_become new.consoles s2 was.consoles now.consoles) in
    let e4 : all_edited to_replies s ≡ s4 = next to_consoles replies s s3 s4 e3 (replies_become new.replies s3 was.replies now.replies) in
    let e5 : all_edited to_halted s ≡ s5 =
    next to_replies (halted_difference old.halted new.halted) s s4 s5 e4
    (halted_becomes old.halted new.halted s4 refl) in
    let e6 : all_edited to_answered s ≡ s6 = next to_halted (map edit.AddAnswered new.answered) s s5 s6 e5
    (history_becomes edit.AddAnswered (λ t. t.board.answered) with_answered (λ t. refl) (λ rows t. refl) (λ one other t. refl) (λ r t. refl) new.answered s5) in
    let e7 : all_edited to_log s ≡ s7 = next to_answered (map edit.AddLog new.log) s s6 s7 e6
    (history_becomes edit.AddLog (λ t. t.board.log) with_log (λ t. refl) (λ rows t. refl) (λ one other t. refl) (λ r t. refl) new.log s6) in
    next to_log (map edit.AddMessage new.messages) s s7 (with_board new s) e7
    (history_becomes edit.AddMessage (λ t. t.board.messages) with_messages (λ t. refl) (λ rows t. refl) (λ one other t. refl) (λ r t. refl) new.messages s7)

-- a board does not differ from itself

no_part : {R : Type 0} (cmp : R → R → Ordering) → IsTotalOrder cmp → (is_at is_same : R → R → Bool)
    → ((q r : R) → is_at q r ≡ is_eq (cmp q r)) → ((q r : R) → is_same q r ≡ true → q ≡ r)
    → ((r : R) → is_same r r ≡ true)
    → (removal put : R → Edit) (rows : List R) → Ascends (λ q r. is_lt (cmp q r)) rows → part_difference is_at is_same removal put rows rows ≡ []
no_part cmp total is_at is_same ties same itself removal put rows order =
    rw (none_gone cmp total is_at is_same ties same rows order, none_fresh cmp total is_at is_same ties same itself rows order) refl

not_halted : (b : Bool) → halted_difference b b ≡ []
not_halted true = refl
not_halted false = refl

pub no_difference : (old new : BoardRows) → IsInOrder old → new ≡ without_history old → board_difference old new ≡ []
no_difference old new is same =
    ap (board_difference old) same
    ∙ rw (
      no_part unit_cmp unit_total unit_at same_unit unit_ties units_same unit_itself unit_removal edit.PutUnit old.units is.units,
      no_part device_cmp device_total device_at same_device device_ties devices_same device_itself device_removal edit.PutDevice old.devices is.devices,
      no_part console_cmp console_total console_at same_console console_ties consoles_same console_itself
          console_removal edit.PutConsole old.consoles is.consoles,
      no_part reply_cmp reply_total reply_at same_reply reply_ties replies_same reply_itself reply_removal edit.PutReply old.replies is.replies,
      not_halted old.halted,
    ) refl

-- ---- what stays as it is

gains_nothing : {R : Type 0} (rows more : List R) → rows ++ more ≡ rows → more ≡ []
gains_nothing [] more h = h
gains_nothing (r ∷ rows) more h =
    let rest : rows ++ more ≡ rows = cc in
    gains_nothing rows more rest

-- boards with the same parts are the same
same_parts : (b c : BoardRows) → b.units ≡ c.units → b.devices ≡ c.devices → b.consoles ≡ c.consoles → b.replies ≡ c.replies
    → b.answered ≡ c.answered → b.log ≡ c.log → b.messages ≡ c.messages → b.halted ≡ c.halted → b ≡ c
same_parts b c units devices consoles replies answered log messages halted =
    ap (λ x. record b { units = x }) units
    ∙ ap (λ x. record b { units = c.units; devices = x }) devices
    ∙ ap (λ x. record b { units = c.units; devices = c.devices; consoles = x }) consoles
    ∙ ap (λ x. record b { units = c.units; devices = c.devices; consoles = c.consoles; replies = x }) replies
    ∙ ap (λ x. record c { answered = x; log = b.log; messages = b.messages; halted = b.halted }) answered
    ∙ ap (λ x. record c { log = x; messages = b.messages; halted = b.halted }) log
    ∙ ap (λ x. record c { messages = x; halted = b.halted }) messages
    ∙ ap (λ x. record c { halted = x }) halted

-- a state stays as it is only with its own live board
stays_live : (s : State) (new : BoardRows) → with_board new s ≡ s → new ≡ without_history s.board
stays_live s new h =
    same_parts new (without_history s.board)
    (ap (λ t. t.board.units) h) (ap (λ t. t.board.devices) h) (ap (λ t. t.board.consoles) h) (ap (λ t. t.board.replies) h)
    (gains_nothing s.board.answered new.answered (ap (λ t. t.board.answered) h)) (gains_nothing s.board.log new.log (ap (λ t. t.board.log) h))
    (gains_nothing s.board.messages new.messages (ap (λ t. t.board.messages) h)) (ap (λ t. t.board.halted) h)

-- the live board of a state is in order as the board is
live_order : (b : BoardRows) → IsInOrder b → IsInOrder (without_history b)
live_order b order = record { units = order.units; devices = order.devices; consoles = order.consoles; replies = order.replies }

-- the edits between the footprints of two boards are those between the boards
seen_alike : (old new : BoardRows) (s : State) (whole : BoardRows) (h : AreFootprints old new s whole)
    → board_difference old new ≡ board_difference (without_history s.board) whole
seen_alike old new s whole h =
    ap₂ board_difference h.old_is h.new_is
    ∙ differences h.footprint (without_history s.board) whole (live_order s.board h.was) h.now (record {
      units = h.left.units;
      devices = h.left.devices;
      consoles = h.left.consoles;
      replies = h.left.replies;
    })

pub footprints_become : (old new : BoardRows) (s : State) (whole : BoardRows) → AreFootprints old new s whole
    → all_edited (board_difference old new) s ≡ with_board whole s
footprints_become old new s whole h = ap (λ edits. all_edited edits s) (seen_alike old new s whole h) ∙ board_becomes s whole h.was h.now

pub footprints_stay : (old new : BoardRows) (s : State) (whole : BoardRows) → AreFootprints old new s whole
    → all_edited (board_difference old new) s ≡ s → board_difference old new ≡ []
footprints_stay old new s whole h stays =
    let live : whole ≡ without_history s.board = stays_live s whole (sym (footprints_become old new s whole h) ∙ stays) in
    seen_alike old new s whole h ∙ no_difference (without_history s.board) whole (live_order s.board h.was) live
