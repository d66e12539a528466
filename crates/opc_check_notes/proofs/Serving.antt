-- An entry of a group that serves nobody.
use Rattle.std.proofs.Common.{◌≡◌, ℕ, Bool, ◌&&◌, List, [], ◌∷◌, Option, map, refl, sym, ap, subst, ◌∙◌}
use Rattle.std.specs.List.{list_all}
use Rattle.opc_names.specs.declared.class.Class.{Class}
use Rattle.opc_names.specs.declared.level.Level.{Level}
use Rattle.opc_policy_members.specs.declared.row.Row.{Row}
use Rattle.opc_policy_members.specs.declared.row.Row.TheVariants as rows
use Rattle.opc_check_notes.specs.declared.connects.Side.TheVariants as side
use Rattle.opc_check_notes.specs.declared.names.Given.TheVariants as given
use Rattle.opc_check_notes.specs.declared.note.Finding.{Finding}
use Rattle.opc_check_notes.specs.declared.note.Finding.TheVariants as found
use Rattle.opc_check_notes.specs.declared.numbered.NumberedRow.{NumberedRow}
use Rattle.opc_check_notes.specs.Connects.{partners}
use Rattle.opc_check_notes.specs.Named.{is_named}
use Rattle.opc_check_notes.specs.Notes.{has_own, if_so, serves_nobody}

pub serves_so : (list : List NumberedRow) (row : Row) (class : Class) (pattern id : List ℕ) (level : Level) (when : Option (List ℕ))
    (result : Option Finding) → row ≡ rows.Permit class pattern id level when
    → result ≡ if_so (is_named list given.Group id && list_all (has_own list row) (partners list side.Group id))
    (found.ServesNobody pattern id level)
    → result ≡ serves_nobody list row
serves_so list row class pattern id level when result is next =
    next ∙ subst (λ (r : Row). if_so (is_named list given.Group id && list_all (has_own list r) (partners list side.Group id))
    (found.ServesNobody pattern id level) ≡ serves_nobody list r) (sym is) refl

pub list_all-map : {A B : Type 0} (f : B → Bool) (g : A → B) (xs : List A) → list_all f (map g xs) ≡ list_all (λ x. f (g x)) xs
list_all-map f g [] = refl
list_all-map f g (x ∷ xs) = ap (λ b. f (g x) && b) (list_all-map f g xs)
