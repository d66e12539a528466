-- A row by its parts.
use Rattle.std.proofs.Common.{◌≡◌, ℕ, List, [], ◌∷◌, Option, Some, None, ap, sym}
use Rattle.opc_terms.specs.declared.need.Need.{Need}
use Rattle.opc_policy_members.specs.declared.policy.Policy.{Policy}
use Rattle.opc_policy_members.specs.declared.profile.Profile.{Profile}
use Rattle.opc_policy_deciders.specs.Kinds.{Example}
use Rattle.opc_board.specs.declared.board.BoardRows.{BoardRows}
use Rattle.opc_answers_sheet.specs.Cells.{row_text}
use Rattle.opc_answers_sheet.specs.Commands.{asked_row, command_row, who_about}
use Rattle.opc_answers_sheet.specs.Examples.{first_need, names_of, need_of}

pub row_so : (first first' : List ℕ) (decided decided' : Option Profile) (users users' : List ℕ) → first ≡ first' → decided ≡ decided'
    → users ≡ users' → row_text first decided users ≡ row_text first' decided' users'
row_so first first' decided decided' users users' a b c = cc

pub some_so : (a b : Need) → Some a ≡ Some b → a ≡ b
some_so a b e = cc

-- that of a kind, by what its first form needs
pub row_of_first : (p : Policy) (b : BoardRows) (list : List Example) (need : Need) → first_need list ≡ Some need
    → asked_row (names_of list) (who_about p b need) ≡ command_row p b list
row_of_first p b [] need is = absurd (cc)
row_of_first p b (example ∷ more) need is =
    ap (λ n. asked_row (names_of (example ∷ more)) (who_about p b n)) (sym (some_so (need_of example) need is))
