-- The forms of a row are asked about alike.
use Rattle.std.proofs.Common.{◌≡◌, ◌∙◌, ap, ap₂, sym, refl, subst, ℕ, zero, suc, Bool, true, false, List, [], ◌∷◌, Option, Some, None, map, if◌then◌else◌}
use Rattle.std.specs.Prelude.{◌&&◌}
use Rattle.std.specs.List.{slice_get}
use Rattle.std.proofs.lemmas.Option.{same_Some}
use Rattle.opc_names.specs.Authority.{includes}
use Rattle.opc_names.specs.declared.class.Class.TheVariants.{Opercmds}
use Rattle.opc_names.specs.declared.level.Level.{Level}
use Rattle.opc_names.specs.declared.level.Level.TheVariants as level
use Rattle.opc_policy_members.specs.declared.profile.Profile.{Profile}
use Rattle.opc_policy_deciders.specs.declared.kind.AskedKind.{AskedKind}
use Rattle.opc_policy_deciders.specs.Decided.{AreShortest, IsDecided}
use Rattle.opc_policy_deciders.specs.Forms.{AskedForm, forms}
use Rattle.opc_policy_deciders.specs.Kinds.{Example, found_of, is_of_kind}
use Rattle.opc_answers.specs.Deciding.{decider}
use Rattle.opc_answers_may.proofs.Placing.{decides_at_its_place}
use Rattle.opc_answers_sheet.proofs.Saying.{said_as_who}
use Rattle.opc_answers_sheet.specs.Callers.{callers_of}
use Rattle.opc_answers_sheet.specs.Commands.{said_everywhere}
use Rattle.opc_answers_sheet.specs.Examples.{need_of}
use Rattle.opc_answers_sheet.specs.Laws.{SaysTheSameOfAllForms}

abbrev example_of : AskedForm → List ℕ → Example
example_of f r = record { form = f; resource = r }

-- each form of a row is of its kind, and its example holds what was found
module _ (Holds : AskedForm → List ℕ → Type 0) (takes : AskedForm → Bool) (one : Example) where
  abbrev IsGood : Type 0
  IsGood = Holds one.form one.resource × (takes one.form ≡ true)

  good : (all : List AskedForm) (list : List (Option (List ℕ))) → AreShortest Holds all list → (at : ℕ)
      → slice_get (found_of takes all list) at ≡ Some one → IsGood
  good [] list are at is = cc
  good (f ∷ all) [] are at is = absurd are
  good (f ∷ all) (None ∷ list) are at is = good all list are.1 at is
  good (f ∷ all) (Some r ∷ list) are at is = go (takes f) refl at is (good all list are.1)
    where
      go : (b : Bool) → takes f ≡ b → (at : ℕ)
          → slice_get (if b then example_of f r ∷ found_of takes all list else found_of takes all list) at ≡ Some one
          → ((later : ℕ) → slice_get (found_of takes all list) later ≡ Some one → IsGood) → IsGood
      go false e at is others = others at is
      go true e zero is others = subst (λ (x : Example). Holds x.form x.resource × (takes x.form ≡ true)) (same_Some (example_of f r) one is) (are.0.0, e)
      go true e (suc at) is others = others at is

both : (a b : Bool) → (a && b) ≡ true → (a ≡ true) × (b ≡ true)
both true b h = (refl, h)
both false b h = cc

same_level : (a b : Level) → includes a b ≡ true → includes b a ≡ true → a ≡ b
same_level level.None level.None p q = refl
same_level level.None level.Read p q = cc
same_level level.None level.Update p q = cc
same_level level.None level.Control p q = cc
same_level level.None level.Alter p q = cc
same_level level.Read level.None p q = cc
same_level level.Read level.Read p q = refl
same_level level.Read level.Update p q = cc
same_level level.Read level.Control p q = cc
same_level level.Read level.Alter p q = cc
same_level level.Update level.None p q = cc
same_level level.Update level.Read p q = cc
same_level level.Update level.Update p q = refl
same_level level.Update level.Control p q = cc
same_level level.Update level.Alter p q = cc
same_level level.Control level.None p q = cc
same_level level.Control level.Read p q = cc
same_level level.Control level.Update p q = cc
same_level level.Control level.Control p q = refl
same_level level.Control level.Alter p q = cc
same_level level.Alter level.None p q = cc
same_level level.Alter level.Read p q = cc
same_level level.Alter level.Update p q = cc
same_level level.Alter level.Control p q = cc
same_level level.Alter level.Alter p q = refl

level_of_kind : (kind : AskedKind) (form : AskedForm) → is_of_kind kind form ≡ true → kind.level ≡ form.level
level_of_kind kind form is =
    let parts = both _ _ is in
    same_level kind.level form.level parts.0 (both _ _ parts.1).0

pub says_the_same : SaysTheSameOfAllForms
says_the_same p b patterns place found kind first more at one are shortest starts is =
    let of_first = good (IsDecided p (slice_get patterns place)) (is_of_kind kind) first forms found shortest zero (ap (λ l. slice_get l zero) starts) in
    let of_one = good (IsDecided p (slice_get patterns place)) (is_of_kind kind) one forms found shortest at
    (ap (λ l. slice_get l at) starts ∙ is) in
    let same : one.form.level ≡ first.form.level =
    sym (level_of_kind kind one.form of_one.1) ∙ level_of_kind kind first.form of_first.1 in
    let decides : decider p Opercmds one.resource ≡ decider p Opercmds first.resource =
    sym (decides_at_its_place p patterns one.resource place are of_one.0.decided)
    ∙ decides_at_its_place p patterns first.resource place are of_first.0.decided in
    sym (said_as_who p b (need_of one) (decider p Opercmds one.resource) refl)
    ∙ ap₂ (λ (d : Option Profile) (l : Level). map (said_everywhere d l) (callers_of p b)) decides same
    ∙ said_as_who p b (need_of first) (decider p Opercmds first.resource) refl
