-- What happens to replies, the log, messages and the day depends on the replies alone.
use Rattle.std.proofs.Common.{◌≡◌, ℕ, Bool, true, false, not, ◌||◌, ◌==◌, if◌then◌else◌, List, [], ◌∷◌, ◌++◌, Err, refl, ap, ap₂, ◌∙◌}
use Rattle.std.specs.Option.{is_some}
use Rattle.opc_rows.specs.Ordered.{put}
use Rattle.opc_rows.proofs.Orders.{all_weaker, ascends_filter, ascends_put, find_none}
use Rattle.opc_board.specs.declared.board.BoardRows.{BoardRows}
use Rattle.opc_board.specs.declared.fault.BoardFault.TheVariants.{NoReply, NoTarget, ReplyExists}
use Rattle.opc_board.specs.declared.line.Line.{Line}
use Rattle.opc_board.specs.declared.rows.ReplyRow.{ReplyRow}
use Rattle.opc_board.specs.Invariants.{reply_at, reply_before}
use Rattle.opc_board.specs.Outcome.{BoardOutcome, done, done_with}
use Rattle.opc_board.specs.Replies.{answered, ask, halt, halt_faults, is_on, is_session, reply, send, send_faults, without_reply}
use Rattle.opc_board.specs.Footprint.{IsInOrder, Footprint, only, has_reply_of}
use Rattle.opc_board.specs.Texts.{reply_line}
use Rattle.opc_board.proofs.Kept.{less_on, less_or_more}
use Rattle.opc_rows.proofs.Filtered.{filter_left, filter_swap, put_left, put_seen}
use Rattle.opc_board.proofs.Agreeing.{Agrees, left_alone, found_then, faults_then, faults_same, done_then, unit_seen, reply_seen, same_number, is_not}

module _ (footprint : Footprint) where
  pub reply_local : (id : ℕ) (text : List ℕ) (b : BoardRows) → IsInOrder b → footprint.replies id ≡ true
      → Agrees footprint b (reply id text (only footprint b)) (reply id text b)
  reply_local id text b order sees =
      found_then footprint b NoReply (reply_at (only footprint b) id) (reply_at b id) (reply_seen footprint b id sees)
      (λ open_reply. done_with (answered id text (without_reply id (only footprint b))) (reply_line id text ∷ []))
      (λ open_reply. done_with (answered id text (without_reply id b)) (reply_line id text ∷ []))
      (λ open_reply at. done_then footprint b (answered id text (without_reply id (only footprint b)))
      (answered id text (without_reply id b)) (reply_line id text ∷ [])
      (ap (λ rs. record (answered id text (only footprint b)) { replies = rs }) (filter_swap (λ r. not (r.id == id)) (has_reply_of footprint) b.replies))
      (record { units = order.units; devices = order.devices; consoles = order.consoles; replies = ascends_filter reply_before _ b.replies order.replies })
      (record {
        units = refl;
        devices = refl;
        consoles = refl;
        replies = filter_left (λ r. not (r.id == id)) (λ r. not (has_reply_of footprint r))
            (λ r out. ap not (ap footprint.replies (same_number r.id id (is_not (r.id == id) out)) ∙ sees)) b.replies;
      }))

  asked : (row : ReplyRow) (b : BoardRows) → IsInOrder b → is_some (reply_at b row.id) ≡ false → footprint.replies row.id ≡ true
      → Agrees footprint b
      (done (record (only footprint b) { replies = put reply_before row (only footprint b).replies }))
      (done (record b { replies = put reply_before row b.replies }))
  asked row b order absent sees =
      done_then footprint b (record (only footprint b) { replies = put reply_before row (only footprint b).replies })
      (record b { replies = put reply_before row b.replies }) []
      (ap (λ rs. record (only footprint b) { replies = rs })
      (put_seen reply_before (λ x y z. less_on x.id y.id z.id) row (has_reply_of footprint) sees b.replies
      order.replies))
      (record {
        units = order.units;
        devices = order.devices;
        consoles = order.consoles;
        replies = ascends_put reply_before (λ x y z. less_on x.id y.id z.id) row b.replies
            (all_weaker _ (λ r. reply_before row r ≡ false → reply_before r row ≡ true)
            (λ r differ later. less_or_more row.id r.id differ later) b.replies
            (find_none (λ r. r.id == row.id) b.replies absent)) order.replies;
      })
      (record {
        units = refl;
        devices = refl;
        consoles = refl;
        replies = put_left reply_before row (λ r. not (has_reply_of footprint r)) (ap not sees) b.replies;
      })

  pub ask_local : (id : ℕ) (text : List ℕ) (b : BoardRows) → IsInOrder b → footprint.replies id ≡ true
      → Agrees footprint b (ask id text (only footprint b)) (ask id text b)
  ask_local id text b order sees = rw (reply_seen footprint b id sees) (go (is_some (reply_at b id)) refl)
    where
      part : BoardOutcome
      part = done (record (only footprint b) { replies = put reply_before (record { id = id; text = text }) (only footprint b).replies })

      whole : BoardOutcome
      whole = done (record b { replies = put reply_before (record { id = id; text = text }) b.replies })

      go : (there : Bool) → is_some (reply_at b id) ≡ there
          → Agrees footprint b (if there then Err ReplyExists else part) (if there then Err ReplyExists else whole)
      go true at = (refl, tt)
      go false at = asked (record { id = id; text = text }) b order at sees

  pub send_local : (user text : List ℕ) (b : BoardRows) → IsInOrder b → is_on user (only footprint b) ≡ is_on user b
      → footprint.units user ≡ true → Agrees footprint b (send user text (only footprint b)) (send user text b)
  send_local user text b order on sees =
      faults_same footprint b (send_faults user (only footprint b)) (send_faults user b) _ _
      (ap₂ (λ o u. (not (o || is_session u), NoTarget) ∷ []) on (unit_seen footprint b user sees))
      said
    where
      said : Agrees footprint b (done (record (only footprint b) {
        messages = b.messages ++ record {
          user = user;
          text = text;
        } ∷ [];
      })) (done (record b { messages = b.messages ++ record { user = user; text = text } ∷ [] }))
      said = (
        refl,
        (
          record {
            units = order.units;
            devices = order.devices;
            consoles = order.consoles;
            replies = order.replies;
          },
          record { units = refl; devices = refl; consoles = refl; replies = refl },
        ),
      )

  -- the rows stay as they are
  pub display : (b : BoardRows) (few lines : List Line) → IsInOrder b → few ≡ lines → Agrees footprint b (done_with (only footprint b) few) (done_with b lines)
  display b few lines order same = (ap (done_with (only footprint b)) same, (order, left_alone footprint b))

  pub halt_local : (b : BoardRows) → IsInOrder b → Agrees footprint b (halt (only footprint b)) (halt b)
  halt_local b order = faults_then footprint b (halt_faults b) (done (record (only footprint b) { halted = true })) (done (record b { halted = true })) (
    refl,
    (
      record {
        units = order.units;
        devices = order.devices;
        consoles = order.consoles;
        replies = order.replies;
      },
      record { units = refl; devices = refl; consoles = refl; replies = refl },
    ),
  )
