-- What the statement on the day does.
use Rattle.std.proofs.Common.{◌≡◌, ℕ, List, [], ◌∷◌, ◌==◌, length, codes, Bool, true, false, Ok, refl, ap₂}
use Rattle.std.specs.List.{flat_map, filter_map}
use Rattle.sqlite.specs.Term.{Term, col}
use Rattle.sqlite.specs.Order.{Row}
use Rattle.sqlite.specs.Command.TheVariants.{Update}
use Rattle.sqlite_tied.specs.Compute.{everything}
use Rattle.sqlite.specs.Listing.{understood}
use Rattle.sqlite.specs.State.{State as SqlState, Executes}
use Rattle.sqlite.specs.Table.{Table}
use Rattle.sqlite.proofs.Callers.{IsPlain, command_of}
use Rattle.opc_store_sql.proofs.Steps.{cast_int}
use Rattle.opc_store_sql.proofs.Queries.{selecting, alone}
use Rattle.opc_store_sql.proofs.Written.{sets}
use Rattle.opc_store_schema.specs.Tables.{the_schema}
use Rattle.opc_state.specs.State.{State}
use Rattle.sqlite_rules.specs.Action.{works, work_by, pairs, deed_for}
use Rattle.sqlite_schema.specs.Rules.{parent_key}
use Rattle.sqlite_schema.specs.declared.schema.Reference.{Reference}
use Rattle.sqlite_schema.specs.declared.schema.Keys.TheVariants.{Enforced}
use Rattle.sqlite_schema.specs.Names.{same_name}
use Rattle.sqlite_value.specs.Keys.{joined}
use Rattle.opc_state.specs.Changes.{with_halted}
use Rattle.opc_store_schema.specs.Placed.{board_at}
use Rattle.opc_store_schema.specs.Represented.{Tabulates, contents_of, halted_row}
use Rattle.opc_store_schema.proofs.OtherTables.{with_board}

abbrev one : List Term
one = col 0 0 ∷ []

abbrev pub update_halted : List ℕ
update_halted = codes "UPDATE board SET halted = ?1"

set_is : command_of (understood the_schema update_halted) ≡ Update 9 (alone (selecting board_at.tree [] (col 1 0 ∷ col 1 0 ∷ one) []))
unfolding understood everything
set_is = refl

set_plain : IsPlain (understood the_schema update_halted)
unfolding understood everything
set_plain = (refl, refl)

idle_board : (olds news : List Row) → works the_schema Enforced 0 board_at.tree olds news ≡ []
unfolding same_name joined
idle_board olds news = go (length news == 0)
  where
    go : (b : Bool)
        → flat_map (λ (child : Table). filter_map
        (λ (ref : Reference). work_by 0 board_at.tree (pairs olds news) child ref (deed_for Enforced b ref)
        (parent_key the_schema.tables ref)) child.references) the_schema.tables ≡ []
    go true = refl
    go false = refl

pub sets_halted : (old new : SqlState) (count : ℕ) (s : State) → Tabulates old.now s → (halted : Bool)
    → Executes update_halted (halted_row halted) old new (Ok count) → Tabulates new.now (with_halted halted s)
sets_halted old new count s was halted h =
    let it = sets the_schema update_halted 9 board_at (halted_row halted) set_plain refl old new was.schema count []
    (λ _. true) one set_is (λ r. refl) (halted_row halted) (λ r. ap₂ (λ a (l : Row). a ∷ l) (cast_int _) refl)
    idle_board h in
    with_board (contents_of s) old.now new.now was it.spares _ (it.rows (halted_row s.board.halted ∷ []) was.holds.board)
