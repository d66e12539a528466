-- Profiles in their order, defined one after another.
use Rattle.std.proofs.Common.{◌≡◌, ℕ, ◌+◌, ◌<◌, List, [], ◌∷◌, take, length, get_or, cond, Option, Some, None, refl, sym, ap, ap₂, ◌∙◌, Less}
use Rattle.std.specs.List.{AllByRecursion}
use Rattle.std.specs.Option.{option_map_or}
use Rattle.opc_store_sql.specs.Order.{Rises}
use Rattle.opc_store_sql.proofs.Putting.{comes_last, next}
use Rattle.opc_policy_members.specs.declared.profile.Profile.{Profile}
use Rattle.opc_policy_members.specs.Profiles.{profile_cmp, profile_of, with_profile, with_definition}
use Rattle.opc_store_schema.proofs.Keys.{profile_total}
use Rattle.std.proofs.lemmas.List.{map-id}
use Rattle.opc_store_schema.proofs.PolicyRead.{not_of}

-- before it comes there is none of its class and pattern
absent_in : (x : Profile) (prefix : List Profile) → AllByRecursion (λ z. profile_cmp z x ≡ Less) prefix → profile_of prefix x.class x.pattern ≡ None
absent_in x [] h = refl
absent_in x (z ∷ prefix) h = ap (λ b. cond b (Some z) (profile_of prefix x.class x.pattern)) (not_of x z h.0) ∙ absent_in x prefix h.1

-- the next profile comes after those before it
pub more_defined : (ps : List Profile) → Rises profile_cmp ps → (i : ℕ) (y : Profile) → i < length ps
    → y ≡ get_or ps i y → (vs : List Profile) → vs ≡ take i ps → with_definition y vs ≡ take (i + 1) ps
more_defined ps up i y low is vs so_far =
    let it = next profile_cmp profile_total (λ (p : Profile). p) ps up ps i y (sym (map-id ps)) low is in
    let defined : with_definition it.x (take i ps) ≡ with_profile it.x (take i ps) =
    ap (λ (o : Option Profile). with_profile
    (record it.x { entries = option_map_or (λ (q : Profile). q.entries) o it.x.entries }) (take i ps))
    (absent_in it.x (take i ps) it.below) in
    ap₂ (λ (a : Profile) (l : List Profile). with_definition a l) it.here so_far
    ∙ (defined ∙ (comes_last profile_cmp profile_total it.x (take i ps) it.below ∙ sym it.more))
