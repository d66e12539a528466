-- Edits, one after another.
use Rattle.std.proofs.Common.{◌≡◌, ℕ, ◌+◌, ◌<◌, List, [], ◌∷◌, ◌++◌, length, take, drop, get_or, sym, ap, subst, ◌∙◌, add-one, drop-cons}
use Rattle.std.proofs.lemmas.List.{take_more}
use Rattle.sqlite.specs.Effect.{Database}
use Rattle.opc_state.specs.declared.change.Edit.{Edit}
use Rattle.opc_state.specs.State.{State}
use Rattle.opc_store_schema.specs.Represented.{Represents}
use Rattle.opc_store_schema.specs.Changes.{Becomes}
use Rattle.opc_state.specs.Changes.{edited, all_edited}

-- these edits are left, and lead to the goal
pub record IsOnTheWay (rest : List Edit) (goal : State) (db : Database) : Type 0 where
  pub at : State
  pub was : Represents db at
  pub leads : all_edited rest at ≡ goal

pub next_turn : (edits : List Edit) (i : ℕ) (e : Edit) (goal : State) (old new : Database) → i < length edits → e ≡ get_or edits i e
    → IsOnTheWay (drop i edits) goal old → Becomes (edited e) old new → IsOnTheWay (drop (i + 1) edits) goal new
next_turn edits i e goal old new low is way step =
    let first : drop i edits ≡ get_or edits i e ∷ drop (i + 1) edits = rw (add-one, drop-cons edits i e) in
    let split : drop i edits ≡ e ∷ drop (i + 1) edits = first ∙ ap (λ x. x ∷ drop (i + 1) edits) (sym is) in
    go way.at way.was (subst (λ l. all_edited l way.at ≡ goal) split way.leads)
  where
    go : (at : State) → Represents old at → all_edited (e ∷ drop (i + 1) edits) at ≡ goal → IsOnTheWay (drop (i + 1) edits) goal new
    go at was leads = record { at = edited e at; was = step at was; leads = leads }

-- one more member was taken
pub one_more : {X : Type 0} (xs : List X) (i : ℕ) (x : X) → i < length xs → x ≡ get_or xs i x → take (i + 1) xs ≡ take i xs ++ x ∷ []
one_more xs i x low is = take_more xs i x low ∙ ap (λ y. take i xs ++ y ∷ []) (sym is)
