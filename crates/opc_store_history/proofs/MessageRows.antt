-- The table of messages, and what its statement makes of a state.
use Rattle.std.proofs.Common.{◌≡◌, ℕ, ◌<◌, ◌^◌, pos, [], ◌∷◌, ◌++◌, codes, Ok, refl}
use Rattle.sqlite.specs.Listing.{understood}
use Rattle.sqlite.specs.State.{State as SqlState, Executes}
use Rattle.sqlite_tied.specs.Compute.{everything}
use Rattle.opc_store_sql.proofs.Histories.{History, IsHistory, params, grows}
use Rattle.opc_store_sql.proofs.Steps.{cast_null}
use Rattle.opc_board.specs.declared.rows.MessageRow.{MessageRow}
use Rattle.opc_state.specs.State.{State}
use Rattle.opc_state.specs.Changes.{with_messages}
use Rattle.opc_store_schema.specs.Tables.{the_schema}
use Rattle.opc_store_schema.specs.Placed.{messages_at}
use Rattle.opc_store_schema.specs.Represented.{Represents, contents_of, message_values}
use Rattle.opc_store_schema.proofs.OrderedBoard.{messages_ordered}
use Rattle.opc_store_schema.proofs.OtherTables.{with_messages as spares_messages}

abbrev pub messages : History MessageRow
messages = record { schema = the_schema; place = 8; table = messages_at; insert = codes "INSERT INTO messages VALUES (NULL, ?1, ?2)"; values = message_values }

messages_grows : IsHistory messages
unfolding understood everything
messages_grows = record {
  is = refl;
  plain = (refl, refl);
  found = refl;
  simple = record { uncounted = refl; stampless = refl };
  gives = λ x. refl;
  stores = λ x. (cast_null, (refl, (refl, tt)));
}

pub messages_added : (old new : SqlState) (count : ℕ) (s : State) → Represents old.now s → (x : MessageRow)
    → Executes messages.insert (params messages x) old new (Ok count) → ((n : ℕ) → new.last_rowid ≡ pos n → n < 2 ^ 63)
    → Represents new.now (with_messages (s.board.messages ++ x ∷ []) s)
messages_added old new count s was x h low =
    let it = grows messages messages_grows old new count was.rows.schema s.board.messages was.rows.holds.messages x h in
    record { ordered = messages_ordered s was.ordered x (it.fits low); rows = spares_messages (contents_of s) old.now new.now was.rows it.spares _ it.rows }
