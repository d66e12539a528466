-- The table of the account, and what its statement makes of a state.
use Rattle.std.proofs.Common.{◌≡◌, ℕ, ◌<◌, ◌^◌, pos, List, [], ◌∷◌, codes, Ok, refl, ℤ, ap, ap₂, subst}
use Rattle.sqlite.specs.declared.types.Value.TheVariants.{Int, Text}
use Rattle.sqlite.specs.Order.{Row}
use Rattle.sqlite.specs.Listing.{understood}
use Rattle.sqlite.specs.State.{State as SqlState, Executes}
use Rattle.sqlite_tied.specs.Compute.{everything}
use Rattle.opc_store_sql.proofs.Histories.{History, IsHistory, params, grows}
use Rattle.opc_store_sql.proofs.Steps.{cast_null, cast_int}
use Rattle.opc_state.specs.declared.account.AccountRow.{AccountRow}
use Rattle.opc_state.specs.State.{State}
use Rattle.opc_state.specs.Changes.{with_account_row}
use Rattle.opc_store_schema.specs.Tables.{the_schema}
use Rattle.opc_store_schema.specs.Placed.{account_at}
use Rattle.opc_store_schema.specs.Represented.{Represents, contents_of, account_values}
use Rattle.opc_store_schema.proofs.OrderedBoard.{account_ordered}
use Rattle.opc_store_schema.proofs.OtherTables.{with_account as spares_account}

abbrev pub account : History AccountRow
account = record {
  schema = the_schema;
  place = 10;
  table = account_at;
  insert = codes "INSERT INTO account VALUES (NULL, ?1, ?2, ?3, ?4, ?5)";
  values = account_values;
}

account_grows : IsHistory account
unfolding understood everything
account_grows = record {
  is = refl;
  plain = (refl, refl);
  found = refl;
  simple = record { uncounted = refl; stampless = refl };
  gives = λ x. refl;
  stores = λ x. (cast_null, (cast_int _, (refl, (refl, (refl, (refl, tt))))));
}

pub account_added : (old new : SqlState) (count : ℕ) (s : State) → Represents old.now s → (x : AccountRow)
    → Executes account.insert (params account x) old new (Ok count) → ((n : ℕ) → new.last_rowid ≡ pos n → n < 2 ^ 63)
    → Represents new.now (with_account_row x s)
account_added old new count s was x h low =
    let it = grows account account_grows old new count was.rows.schema s.account was.rows.holds.account x h in
    record { ordered = account_ordered s was.ordered x (it.fits low); rows = spares_account (contents_of s) old.now new.now was.rows it.spares _ it.rows }

pub account_given : (sql : List ℕ) (a : AccountRow) (moment : ℤ) (console user code rule : List ℕ)
    → moment ≡ pos a.moment → console ≡ a.console → user ≡ a.user → code ≡ a.code → rule ≡ a.rule
    → (old new : SqlState) (count : ℕ) → Executes sql
    (Int moment ∷ Text console ∷ Text user ∷ Text code ∷ Text rule ∷ []) old new (Ok count)
    → Executes sql (params account a) old new (Ok count)
account_given sql a moment console user code rule m c u d r old new count =
    subst (λ (row : Row). Executes sql row old new (Ok count))
    (ap₂ (λ x (l : Row). Int x ∷ l) m (ap₂ (λ x (l : Row). Text x ∷ l) c
    (ap₂ (λ x (l : Row). Text x ∷ l) u (ap₂ (λ x (l : Row). Text x ∷ l) d (ap (λ x. Text x ∷ []) r)))))
