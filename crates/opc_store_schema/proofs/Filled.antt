-- What the statements that fill new tables do.
use Rattle.std.proofs.Common.{◌≡◌, ℕ, List, [], ◌∷◌, drop, Bool, Ok, refl, ap₂}
use Rattle.sqlite.specs.declared.types.Value.{Value}
use Rattle.sqlite.specs.declared.types.Value.TheVariants.{Null}
use Rattle.sqlite.specs.Term.{Term, lit, col}
use Rattle.sqlite.specs.Order.{Row}
use Rattle.sqlite.specs.Command.TheVariants.{Insert}
use Rattle.sqlite.specs.Source.TheVariants.{Values}
use Rattle.sqlite_tied.specs.Compute.{everything}
use Rattle.sqlite.specs.Listing.{understood}
use Rattle.sqlite.specs.State.{State as SqlState, Executes}
use Rattle.sqlite.specs.Cast.{cast_row}
use Rattle.sqlite.proofs.Callers.{IsPlain, command_of}
use Rattle.opc_store_sql.proofs.Steps.{cast_null, cast_int}
use Rattle.opc_store_sql.proofs.Written.{adds}
use Rattle.opc_store_schema.specs.Tables.{the_schema}
use Rattle.opc_store_schema.specs.Made.{IsMade}
use Rattle.opc_store_schema.specs.Making.{insert_version, insert_class, insert_halted}
use Rattle.opc_store_schema.specs.Contents.{Contents}
use Rattle.opc_names.specs.declared.class.Class.{Class}
use Rattle.opc_store_schema.specs.Placed.{meta_at, classes_at, board_at}
use Rattle.opc_store_schema.specs.Represented.{class_row, version_row, halted_row}
use Rattle.opc_store_schema.proofs.OtherTables.{with_meta, with_classes, with_board}

abbrev one : List Term
one = col 0 0 ∷ []

abbrev two : List Term
two = col 0 0 ∷ col 0 1 ∷ []

version_is : command_of (understood the_schema insert_version) ≡ Insert 0 (Values (lit Null ∷ one) 2)
unfolding understood everything
version_is = refl

version_plain : IsPlain (understood the_schema insert_version)
unfolding understood everything
version_plain = (refl, refl)

class_is : command_of (understood the_schema insert_class) ≡ Insert 1 (Values (lit Null ∷ two) 3)
unfolding understood everything
class_is = refl

class_plain : IsPlain (understood the_schema insert_class)
unfolding understood everything
class_plain = (refl, refl)

halted_is : command_of (understood the_schema insert_halted) ≡ Insert 9 (Values (lit Null ∷ one) 2)
unfolding understood everything
halted_is = refl

halted_plain : IsPlain (understood the_schema insert_halted)
unfolding understood everything
halted_plain = (refl, refl)

pub cast_class : (x : Class × Bool) (v : Value) → drop 1 (cast_row classes_at (v ∷ class_row x)) ≡ class_row x
cast_class x v = ap₂ (λ a (r : Row). a ∷ r) refl (ap₂ (λ a (r : Row). a ∷ r) (cast_int _) refl)

module _ (old new : SqlState) (count : ℕ) (c : Contents) (was : IsMade c old.now) where
  pub adds_version : (version : ℕ) → Executes insert_version (version_row version) old new (Ok count)
      → IsMade (record c { meta = version_row version ∷ c.meta }) new.now
  adds_version version h =
      let it = adds the_schema insert_version 0 meta_at (version_row version) version_plain refl old new was.schema
      count (lit Null ∷ one) 2 version_is (record {
        uncounted = refl;
        stampless = refl;
      }) (version_row version) refl (ap₂ (λ v (r : Row). v ∷ r) cast_null (ap₂ (λ a (r : Row). a ∷ r) (cast_int _) refl)) h in
      with_meta c old.now new.now was it.spares _ (it.rows c.meta was.holds.meta)

  pub adds_class : (x : Class × Bool) → Executes insert_class (class_row x) old new (Ok count) → IsMade (record c { classes = class_row x ∷ c.classes }) new.now
  adds_class x h =
      let it = adds the_schema insert_class 1 classes_at (class_row x) class_plain refl old new was.schema count (lit Null ∷ two) 3 class_is (record {
        uncounted = refl;
        stampless = refl;
      }) (class_row x) refl (ap₂ (λ v (r : Row). v ∷ r) cast_null (cast_class x Null)) h in
      with_classes c old.now new.now was it.spares _ (it.rows c.classes was.holds.classes)

  pub adds_halted : (halted : Bool) → Executes insert_halted (halted_row halted) old new (Ok count)
      → IsMade (record c { board = halted_row halted ∷ c.board }) new.now
  adds_halted halted h =
      let it = adds the_schema insert_halted 9 board_at (halted_row halted) halted_plain refl old new was.schema count (lit Null ∷ one) 2 halted_is (record {
        uncounted = refl;
        stampless = refl;
      }) (halted_row halted) refl (ap₂ (λ v (r : Row). v ∷ r) cast_null (ap₂ (λ a (r : Row). a ∷ r) (cast_int _) refl)) h in
      with_board c old.now new.now was it.spares _ (it.rows c.board was.holds.board)
