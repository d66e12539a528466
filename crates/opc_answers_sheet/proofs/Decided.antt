-- The profile at a place decides what is found at this place.
use Rattle.std.proofs.Common.{◌≡◌, ◌∙◌, ℕ, Bool, true, false, List, [], ◌∷◌, Option, Some, None, ap, if◌then◌else◌}
use Rattle.std.specs.List.{slice_get}
use Rattle.opc_names.specs.declared.class.Class.TheVariants.{Opercmds}
use Rattle.opc_terms.specs.declared.need.Need.{Need}
use Rattle.opc_policy_members.specs.declared.policy.Policy.{Policy}
use Rattle.opc_policy_members.specs.declared.profile.Profile.{Profile}
use Rattle.opc_policy_deciders.specs.declared.kind.AskedKind.{AskedKind}
use Rattle.opc_policy_deciders.specs.Decided.{AreShortest, ArePatternsOf, IsDecided}
use Rattle.opc_policy_deciders.specs.Forms.{AskedForm}
use Rattle.opc_policy_deciders.specs.Kinds.{Example, examples, is_of_kind}
use Rattle.opc_answers.specs.Deciding.{decider}
use Rattle.opc_answers_may.proofs.Placing.{decides_at_its_place}
use Rattle.opc_answers_may.specs.Commands.{profile_at}
use Rattle.opc_answers_sheet.specs.Commands.{DecidesAll}
use Rattle.opc_answers_sheet.specs.Examples.{first_need, need_of}
use Rattle.opc_answers_sheet.proofs.Rowing.{some_so}

module _ (p : Policy) where
  pub decides_found : (patterns : List (List ℕ)) (place : ℕ) → ArePatternsOf p patterns
      → (forms : List AskedForm) (found : List (Option (List ℕ)))
      → AreShortest (IsDecided p (slice_get patterns place)) forms found
      → DecidesAll p (profile_at p patterns place) found
  decides_found patterns place are [] [] shortest = tt
  decides_found patterns place are [] (one ∷ found) shortest = absurd shortest
  decides_found patterns place are (form ∷ forms) [] shortest = absurd shortest
  decides_found patterns place are (form ∷ forms) (None ∷ found) shortest =
      (tt, decides_found patterns place are forms found shortest.1)
  decides_found patterns place are (form ∷ forms) (Some resource ∷ found) shortest = (
    decides_at_its_place p patterns resource place are shortest.0.0.decided,
    decides_found patterns place are forms found shortest.1,
  )

  -- so also the first of a kind
  pub decides_first : (decided : Option Profile) (kind : AskedKind) (forms : List AskedForm) (found : List (Option (List ℕ)))
      (need : Need) → DecidesAll p decided found → first_need (examples kind forms found) ≡ Some need
      → decided ≡ decider p Opercmds need.resource
  decides_first decided kind [] found need all first = cc
  decides_first decided kind (form ∷ forms) [] need all first = cc
  decides_first decided kind (form ∷ forms) (None ∷ found) need all first =
      decides_first decided kind forms found need all.1 first
  decides_first decided kind (form ∷ forms) (Some resource ∷ found) need all first =
      go (is_of_kind kind form) first (decides_first decided kind forms found need all.1)
    where
      example : Example
      example = record { form = form; resource = resource }

      go : (b : Bool) → first_need (if b then example ∷ examples kind forms found else examples kind forms found) ≡ Some need
          → (first_need (examples kind forms found) ≡ Some need → decided ≡ decider p Opercmds need.resource)
          → decided ≡ decider p Opercmds need.resource
      go true is later =
          all.0 ∙ ap (λ (n : Need). decider p Opercmds n.resource) (some_so (need_of example) need is)
      go false is later = later is
