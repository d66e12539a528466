-- What the queries on consoles read.
use Rattle.std.proofs.Common.{◌≡◌, ℕ, List, [], ◌∷◌, map, filter, codes, Some, Option, refl, ap, ◌∙◌}
use Rattle.std.specs.Str.{bytes_eq}
use Rattle.std.proofs.lemmas.Cmp.{tied_itself}
use Rattle.sqlite.specs.Order.{Row}
use Rattle.sqlite.specs.declared.types.Value.TheVariants.{Text}
use Rattle.sqlite.specs.Listing.{understood}
use Rattle.sqlite.specs.State.{State as SqlState, Shown}
use Rattle.sqlite_tied.specs.Compute.{everything}
use Rattle.sqlite_value.proofs.OrderLemmas.{value_cmp-Text}
use Rattle.sqlite.specs.Term.{col, op2}
use Rattle.sqlite_sql.specs.declared.ops.BinaryOp.TheVariants.{Compare}
use Rattle.sqlite_sql.specs.declared.ops.CompareOp.TheVariants.{Eq}
use Rattle.sqlite_value.specs.Keys.{ascending}
use Rattle.sqlite_value.specs.declared.keys.Collation.TheVariants.{Binary}
use Rattle.opc_store_sql.proofs.Asked.{Asked, IsAsked, by_columns, columns, returned, returned_all}
use Rattle.opc_store_sql.proofs.Fixed.{returned_fixed}
use Rattle.opc_store_sql.proofs.Keyed.{same_columns}
use Rattle.opc_store_sql.proofs.Sets.{text_total}
use Rattle.opc_store_sql.proofs.Values.{same_texts, and_true}
use Rattle.opc_board.specs.Units.{is_holder}
use Rattle.opc_board.specs.declared.rows.ConsoleRow.{ConsoleRow}
use Rattle.opc_state.specs.Loads.{consoles_of as consoles_of_user}
use Rattle.opc_state.specs.Members.{console_cmp}
use Rattle.opc_state.specs.State.{State}
use Rattle.opc_store_schema.specs.Placed.{consoles_at}
use Rattle.opc_store_schema.specs.Tables.{the_schema}
use Rattle.opc_store_schema.specs.Represented.{Represents, console_row}
use Rattle.opc_store_board.proofs.Holders.{equals_holder, the_holder}

-- ---- all of them

abbrev pub consoles : Asked
consoles = record {
  schema = the_schema;
  text = codes "SELECT name, auth, mode, online, usr, monitor FROM consoles ORDER BY name";
  tree = consoles_at.tree;
  tests = [];
  project = columns 1 6;
  order = by_columns 1 1;
}

pub consoles_asked : IsAsked consoles
unfolding understood everything
consoles_asked = record { selects = refl; unlisted = refl; plain = (refl, refl); shows = λ schema base. refl }

pub consoles_returned : (old new : SqlState) (s : State) → Represents old.now s → (rows : List Row)
    → Shown consoles.text [] old new rows → rows ≡ map console_row s.board.consoles
consoles_returned old new s was =
    returned_all consoles [] refl console_row console_cmp (λ _. refl) (λ x y h. rw (value_cmp-Text x.name y.name, h))
    (λ _. refl) consoles_asked old new was.rows.schema s.board.consoles was.ordered.consoles was.rows.holds.consoles

-- ---- that of a name

abbrev pub console : Asked
console = record consoles { text = codes "SELECT name, auth, mode, online, usr, monitor FROM consoles WHERE name = ?1 ORDER BY name"; tests = same_columns 0 1 }

pub console_asked : IsAsked console
unfolding understood everything
console_asked = record { selects = refl; unlisted = refl; plain = (refl, refl); shows = λ schema base. refl }

pub console_returned : (old new : SqlState) (s : State) → Represents old.now s → (name : List ℕ) (rows : List Row)
    → Shown console.text (Text name ∷ []) old new rows
    → rows ≡ map console_row (filter (λ (c : ConsoleRow). bytes_eq c.name name) s.board.consoles)
console_returned old new s was name =
    returned console (Text name ∷ []) refl console_row console_cmp (λ _. refl)
    (λ x y h. rw (value_cmp-Text x.name y.name, h)) (λ c. bytes_eq c.name name)
    (λ c. and_true _ ∙ same_texts c.name name) console_asked old new was.rows.schema s.board.consoles
    was.ordered.consoles was.rows.holds.consoles

-- ---- those where a user is logged on

abbrev pub consoles_of : Asked
consoles_of = record consoles {
  text = codes "SELECT name, auth, mode, online, usr, monitor FROM consoles WHERE usr = ?1 ORDER BY usr, name";
  tests = op2 (Compare Eq Binary) (col 1 5) (col 0 0) ∷ [];
  order = (col 1 5, ascending Binary) ∷ by_columns 1 1;
}

pub consoles_of_asked : IsAsked consoles_of
unfolding understood everything
consoles_of_asked = record { selects = refl; unlisted = refl; plain = (refl, refl); shows = λ schema base. refl }

-- the row of a console, as it is with the user logged on
abbrev with_user : List ℕ → ConsoleRow → Row
with_user user c = console_row (record c { user = Some user })

pub consoles_of_returned : (old new : SqlState) (s : State) → Represents old.now s → (user : List ℕ) (rows : List Row)
    → Shown consoles_of.text (Text user ∷ []) old new rows → rows ≡ map console_row (consoles_of_user s.board user)
consoles_of_returned old new s was user rows h =
    returned_fixed consoles_of (Text user ∷ []) refl console_row (with_user user) console_cmp (λ _. refl)
    (λ x y h. rw (value_cmp-Text user user, tied_itself text_total user, value_cmp-Text x.name y.name, h))
    (λ c. is_holder user c.user) (λ c. and_true _ ∙ equals_holder user c.user)
    (λ c h. ap (λ (u : Option (List ℕ)). console_row (record c { user = u })) (the_holder user c.user h))
    old new was.rows.schema s.board.consoles was.ordered.consoles was.rows.holds.consoles rows h consoles_of_asked
