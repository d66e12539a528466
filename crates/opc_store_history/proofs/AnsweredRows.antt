-- The table of answered replies, and what its statement makes of a state.
use Rattle.std.proofs.Common.{◌≡◌, ℕ, ◌<◌, ◌^◌, pos, [], ◌∷◌, ◌++◌, codes, Ok, refl}
use Rattle.sqlite.specs.Listing.{understood}
use Rattle.sqlite.specs.State.{State as SqlState, Executes}
use Rattle.sqlite_tied.specs.Compute.{everything}
use Rattle.opc_store_sql.proofs.Histories.{History, IsHistory, params, grows}
use Rattle.opc_store_sql.proofs.Steps.{cast_null, cast_int}
use Rattle.opc_board.specs.declared.rows.ReplyRow.{ReplyRow}
use Rattle.opc_state.specs.State.{State}
use Rattle.opc_state.specs.Changes.{with_answered}
use Rattle.opc_store_schema.specs.Tables.{the_schema}
use Rattle.opc_store_schema.specs.Placed.{answered_at}
use Rattle.opc_store_schema.specs.Represented.{Represents, contents_of, answered_values}
use Rattle.opc_store_schema.proofs.OrderedBoard.{answered_ordered}
use Rattle.opc_store_schema.proofs.OtherTables.{with_answered as spares_answered}

abbrev pub answered : History ReplyRow
answered = record { schema = the_schema; place = 6; table = answered_at; insert = codes "INSERT INTO answered VALUES (NULL, ?1, ?2)"; values = answered_values }

answered_grows : IsHistory answered
unfolding understood everything
answered_grows = record {
  is = refl;
  plain = (refl, refl);
  found = refl;
  simple = record { uncounted = refl; stampless = refl };
  gives = λ x. refl;
  stores = λ x. (cast_null, (cast_int _, (refl, tt)));
}

pub answered_added : (old new : SqlState) (count : ℕ) (s : State) → Represents old.now s → (x : ReplyRow)
    → Executes answered.insert (params answered x) old new (Ok count) → ((n : ℕ) → new.last_rowid ≡ pos n → n < 2 ^ 63)
    → Represents new.now (with_answered (s.board.answered ++ x ∷ []) s)
answered_added old new count s was x h low =
    let it = grows answered answered_grows old new count was.rows.schema s.board.answered was.rows.holds.answered x h in
    record { ordered = answered_ordered s was.ordered x (it.fits low); rows = spares_answered (contents_of s) old.now new.now was.rows it.spares _ it.rows }
