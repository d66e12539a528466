-- The table of the log, and what its statement makes of a state.
use Rattle.std.proofs.Common.{◌≡◌, ℕ, ◌<◌, ◌^◌, pos, List, [], ◌∷◌, ◌++◌, codes, Ok, refl}
use Rattle.sqlite.specs.Listing.{understood}
use Rattle.sqlite.specs.State.{State as SqlState, Executes}
use Rattle.sqlite_tied.specs.Compute.{everything}
use Rattle.opc_store_sql.proofs.Histories.{History, IsHistory, params, grows}
use Rattle.opc_store_sql.proofs.Steps.{cast_null}
use Rattle.opc_state.specs.State.{State}
use Rattle.opc_state.specs.Changes.{with_log}
use Rattle.opc_store_schema.specs.Tables.{the_schema}
use Rattle.opc_store_schema.specs.Placed.{log_at}
use Rattle.opc_store_schema.specs.Represented.{Represents, contents_of, log_values}
use Rattle.opc_store_schema.proofs.OrderedBoard.{log_ordered}
use Rattle.opc_store_schema.proofs.OtherTables.{with_log as spares_log}

abbrev pub log : History (List ℕ)
log = record { schema = the_schema; place = 7; table = log_at; insert = codes "INSERT INTO log VALUES (NULL, ?1)"; values = log_values }

log_grows : IsHistory log
unfolding understood everything
log_grows = record {
  is = refl;
  plain = (refl, refl);
  found = refl;
  simple = record { uncounted = refl; stampless = refl };
  gives = λ x. refl;
  stores = λ x. (cast_null, (refl, tt));
}

pub log_added : (old new : SqlState) (count : ℕ) (s : State) → Represents old.now s → (x : List ℕ)
    → Executes log.insert (params log x) old new (Ok count) → ((n : ℕ) → new.last_rowid ≡ pos n → n < 2 ^ 63)
    → Represents new.now (with_log (s.board.log ++ x ∷ []) s)
log_added old new count s was x h low =
    let it = grows log log_grows old new count was.rows.schema s.board.log was.rows.holds.log x h in
    record { ordered = log_ordered s was.ordered x (it.fits low); rows = spares_log (contents_of s) old.now new.now was.rows it.spares _ it.rows }
