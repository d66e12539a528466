-- The profile that decides covers the resource.
use Rattle.std.proofs.Common.{◌≡◌, ℕ, Bool, true, false, cond, List, [], ◌∷◌, Option, Some, None, refl, subst}
use Rattle.std.specs.List.{AllByRecursion}
use Rattle.std.proofs.lemmas.Option.{same_Some}
use Rattle.opc_names.specs.Patterns.{CoversText, covers_text}
use Rattle.opc_names.proofs.Computed.{text_computes}
use Rattle.opc_policy_members.specs.Profiles.{is_before}
use Rattle.opc_policy_members.specs.declared.profile.Profile.{Profile}
use Rattle.opc_policy.specs.Deciding.{covering, first_with, first_of, deciding}

covered : (resource : List ℕ) (profiles : List Profile) → AllByRecursion (λ (p : Profile). CoversText p.pattern resource) (covering resource profiles)
covered resource [] = tt
covered resource (p ∷ profiles) =
    elim (covers_text p.pattern resource) as (λ b. covers_text p.pattern resource ≡ b
    → AllByRecursion (λ (q : Profile). CoversText q.pattern resource) (cond b (p ∷ covering resource profiles) (covering resource profiles))) [
      | true ↦ (λ e. ((text_computes _ p.pattern resource refl).0 e, covered resource profiles))
      | false ↦ (λ e. covered resource profiles)
    ] refl

either : (resource : List ℕ) (p q : Profile) (b : Bool) → CoversText p.pattern resource → CoversText q.pattern resource
    → CoversText (cond b q p).pattern resource
either resource p q true h k = k
either resource p q false h k = h

first_covers : (resource : List ℕ) (profiles : List Profile) (p : Profile) → AllByRecursion (λ (q : Profile). CoversText q.pattern resource) profiles
    → first_of profiles ≡ Some p → CoversText p.pattern resource
first_covers resource [] p all e = cc
first_covers resource (q ∷ profiles) p all e =
    subst (λ (x : Profile). CoversText x.pattern resource) (same_Some (first_with q (first_of profiles)) p e)
    (by (first_of profiles) (λ r f. first_covers resource profiles r all.1 f))
  where
    by : (o : Option Profile) → ((r : Profile) → o ≡ Some r → CoversText r.pattern resource) → CoversText (first_with q o).pattern resource
    by None rest = all.0
    by (Some r) rest = either resource q r (is_before r q) all.0 (rest r refl)

pub decider_covers : (profiles : List Profile) (resource : List ℕ) (p : Profile) → deciding profiles resource ≡ Some p → CoversText p.pattern resource
decider_covers profiles resource p e = first_covers resource (covering resource profiles) p (covered resource profiles) e
