-- Among the candidates for names with a beginning, the same profile decides such a name as among all profiles.
use Rattle.std.proofs.Common.{◌≡◌, ℕ, List, [], ◌∷◌, ◌++◌, Option, Some, None, Contains, refl, ◌⊎◌, inl, inr, ⊎_elim}
use Rattle.std.proofs.lemmas.List.Elements.{All-contains}
use Rattle.opc_names.specs.Names.{IsPattern}
use Rattle.opc_names.specs.Patterns.{CoversText}
use Rattle.opc_names.proofs.Heads.{heads_are_prefixes}
use Rattle.opc_policy_members.specs.Profiles.{AreProfiles}
use Rattle.opc_policy_members.specs.declared.profile.Profile.{Profile}
use Rattle.opc_policy.specs.Deciding.{IsDeciding, deciding}
use Rattle.opc_policy.proofs.MostSpecific.{deciding_is, one_deciding}
use Rattle.opc_policy_shared.specs.Laws.{CandidatesDecide}
use Rattle.opc_policy_shared.specs.Shared.{AreCandidates, MayCover}

-- of two texts with which one text begins, one begins with the other
one_begins : (xs ys us vs : List ℕ) → xs ++ us ≡ ys ++ vs → (rest : List ℕ) × ((ys ≡ xs ++ rest) ⊎ (xs ≡ ys ++ rest))
one_begins [] ys us vs e = (ys, inl refl)
one_begins (x ∷ xs) [] us vs e = (x ∷ xs, inr refl)
one_begins (x ∷ xs) (y ∷ ys) us vs e =
    let more = one_begins xs ys us vs cc in
    let first : x ≡ y = cc in
    (more.0, ⊎_elim (λ m. inl cc) (λ m. inr cc) more.1)

may_cover : (beginning rest : List ℕ) (p : Profile) → IsPattern p.pattern → CoversText p.pattern (beginning ++ rest) → MayCover beginning p
may_cover beginning rest p pattern covers =
    let head = heads_are_prefixes p.pattern (beginning ++ rest) pattern covers in
    one_begins beginning _ rest head.0 head.1

module _ (profiles candidates : List Profile) (beginning rest : List ℕ) (sound : AreProfiles profiles)
    (are : AreCandidates beginning profiles candidates) where
  pattern_of : (q : Profile) → Contains profiles q → IsPattern q.pattern
  pattern_of q m = All-contains (λ (p : Profile). IsPattern p.pattern) profiles q sound.patterns m

  mine : (q : Profile) → Contains profiles q → CoversText q.pattern (beginning ++ rest) → Contains candidates q
  mine q m c = are.all q m (may_cover beginning rest q (pattern_of q m) c)

  decides_all : (o : Option Profile) → IsDeciding candidates (beginning ++ rest) o → IsDeciding profiles (beginning ++ rest) o
  decides_all None h = λ q m c. h q (mine q m c) c
  decides_all (Some p) h = (are.among p h.0, h.1, λ q m c. h.2 q (mine q m c) c)

pub candidates_decide : CandidatesDecide
candidates_decide profiles candidates class beginning rest sound one_class are =
    one_deciding profiles (beginning ++ rest) class sound one_class
    (deciding candidates (beginning ++ rest)) (deciding profiles (beginning ++ rest))
    (decides_all profiles candidates beginning rest sound are _
    (deciding_is candidates (beginning ++ rest) (λ q m. pattern_of profiles candidates beginning rest sound are q (are.among q m))))
    (deciding_is profiles (beginning ++ rest) (pattern_of profiles candidates beginning rest sound are))
