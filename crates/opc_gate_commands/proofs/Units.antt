-- The unit that a command names is the one of its name, and of the kind on which its need depends.
use Rattle.std.proofs.Common.{◌≡◌, ℕ, Bool, true, false, if◌then◌else◌, List, [], ◌∷◌, Option, Some, None, Decides, IfSome, refl, sym, subst, rules}
use Rattle.std.specs.List.{find}
use Rattle.std.specs.Str.{bytes_eq}
use Rattle.std.proofs.lemmas.Slice.Eq.{bytes_eq-Decides}
use Rattle.opc_reader_commands.specs.declared.command.Command.{Command}
use Rattle.opc_reader_commands.specs.declared.command.Command.TheVariants as command
use Rattle.opc_board.specs.declared.board.BoardRows.{BoardRows}
use Rattle.opc_board.specs.declared.rows.UnitRow.{UnitRow}
use Rattle.opc_board.specs.Invariants.{unit_in, unit_kind}
use Rattle.opc_machine.specs.Commands.{kind_named}
use Rattle.opc_state.specs.State.{State}
use Rattle.opc_gate_commands.specs.Named.{unit_named}
use Rattle.opc_gate_footprints.specs.Loading.{IsUnitOf}

some_is : (x y : UnitRow) → (let o : Option UnitRow = Some x in o) ≡ Some y → x ≡ y
some_is x y h = search (rules, h)

found_is_named : (units : List UnitRow) (name : List ℕ) (u : UnitRow) → unit_in units name ≡ Some u → u.name ≡ name
found_is_named [] name u h = absurd (search (rules, h))
found_is_named (v ∷ vs) name u h = go (bytes_eq v.name name) (bytes_eq-Decides v.name name) (λ e. found_is_named vs name u e) h
  where
    go : (b : Bool) → Decides b (v.name ≡ name) → (unit_in vs name ≡ Some u → u.name ≡ name)
        → (if b then Some v else unit_in vs name) ≡ Some u → u.name ≡ name
    go true same later e = subst (λ (x : UnitRow). x.name ≡ name) (some_is v u e) (same.0 refl)
    go false same later e = later e

-- a unit that is found by a name is found by the name of its row
by_its_name : (units : List UnitRow) (name : List ℕ) (found : Option UnitRow) → unit_in units name ≡ found
    → IfSome found (λ u. unit_in units u.name ≡ Some u)
by_its_name units name None at = tt
by_its_name units name (Some u) at = subst (λ n. unit_in units n ≡ Some u) (sym (found_is_named units name u at)) at

pub unit_is : (s : State) (c : Command) → IsUnitOf s (unit_named s.board c)
unit_is s (command.Cancel name) = by_its_name s.board.units name.value _ refl
unit_is s (command.Force name) = by_its_name s.board.units name.value _ refl
unit_is s (command.Stop name) = by_its_name s.board.units name.value _ refl
unit_is s (command.Modify name text) = by_its_name s.board.units name.value _ refl
unit_is s other = tt

pub kind_is : (b : BoardRows) (c : Command) → unit_kind (unit_named b c) ≡ kind_named b c
kind_is b (command.Cancel name) = refl
kind_is b (command.Force name) = refl
kind_is b (command.Stop name) = refl
kind_is b (command.Modify name text) = refl
kind_is b other = refl
