-- A console that is found by its name.
use Rattle.std.proofs.Common.{◌≡◌, ℕ, Bool, true, false, if◌then◌else◌, List, [], ◌∷◌, Option, Some, Result, Ok, Err, IfOk, Decides, refl, sym, subst, rules}
use Rattle.std.specs.List.{find}
use Rattle.std.specs.Str.{bytes_eq}
use Rattle.std.proofs.lemmas.Slice.Eq.{bytes_eq-Decides}
use Rattle.opc_board.specs.declared.rows.ConsoleRow.{ConsoleRow}

some_is : (x y : ConsoleRow) → (let o : Option ConsoleRow = Some x in o) ≡ Some y → x ≡ y
some_is x y h = search (rules, h)

found_is_named : (consoles : List ConsoleRow) (name : List ℕ) (c : ConsoleRow)
    → find (λ (d : ConsoleRow). bytes_eq d.name name) consoles ≡ Some c → c.name ≡ name
found_is_named [] name c h = absurd (search (rules, h))
found_is_named (d ∷ ds) name c h = go (bytes_eq d.name name) (bytes_eq-Decides d.name name) (λ e. found_is_named ds name c e) h
  where
    go : (b : Bool) → Decides b (d.name ≡ name)
        → (find (λ (d : ConsoleRow). bytes_eq d.name name) ds ≡ Some c → c.name ≡ name)
        → (if b then Some d else find (λ (d : ConsoleRow). bytes_eq d.name name) ds) ≡ Some c → c.name ≡ name
    go true same later e = subst (λ (x : ConsoleRow). x.name ≡ name) (some_is d c e) (same.0 refl)
    go false same later e = later e

-- a console that is found has the name of its row
pub found_by_name : (consoles : List ConsoleRow) (name : List ℕ) (c : ConsoleRow)
    → find (λ (d : ConsoleRow). bytes_eq d.name name) consoles ≡ Some c
    → find (λ (d : ConsoleRow). bytes_eq d.name c.name) consoles ≡ Some c
found_by_name consoles name c h = subst (λ n. find (λ (d : ConsoleRow). bytes_eq d.name n) consoles ≡ Some c) (sym (found_is_named consoles name c h)) h

-- what follows from a row holds, whatever name the row was loaded by
pub by_any_name : {A F : Type 0} (IsNamed : List ℕ → Type 0) (P : List ℕ → A → Type 0) (r : Result A F)
    → ((name : List ℕ) → IsNamed name → IfOk r (P name)) → IfOk r (λ o. (name : List ℕ) → IsNamed name → P name o)
by_any_name IsNamed P (Ok o) f = f
by_any_name IsNamed P (Err e) f = tt
