-- The search does not depend on an access list.
use Rattle.std.proofs.Common.{◌≡◌, ◌∙◌, ℕ, Bool, true, false, not, List, [], ◌∷◌, map, filter, length, Option, Some, None, option_map, Less, refl, ap}
use Rattle.std.specs.List.{AllByRecursion}
use Rattle.std.proofs.lemmas.List.{length-map}
use Rattle.sqlite_keyed.proofs.ListLemmas.{filter-map}
use Rattle.opc_names.specs.declared.class.Class.{Class}
use Rattle.opc_names.specs.Names.{IsPattern}
use Rattle.opc_policy_members.specs.declared.profile.Profile.{Profile}
use Rattle.opc_policy_members.specs.Profiles.{AreProfiles, is_before, of_class, profile_cmp}
use Rattle.opc_policy.specs.Deciding.{covering, deciding, first_of, first_with}
use Rattle.opc_policy.specs.Examined.{examined, is_examined, read_until, with_head}
use Rattle.opc_state.specs.Loads.{bare}
use Rattle.opc_store_sql.specs.Order.{Rises}
use Rattle.opc_store_search.proofs.FirstDeciding.{are_profiles}

-- ---- lists of profiles, each without its access list

-- as many pass a test
same_count : (test : Profile → Bool) (ps : List Profile) → length (filter test (map bare ps)) ≡ length (filter (λ p. test (bare p)) ps)
same_count test ps = ap length (filter-map test bare ps) ∙ length-map (filter (λ p. test (bare p)) ps) bare

pub with_head_bare : (head : List ℕ) (ps : List Profile) → with_head head (map bare ps) ≡ map bare (with_head head ps)
with_head_bare head ps = filter-map _ bare ps

pub of_class_bare : (class : Class) (ps : List Profile) → of_class class (map bare ps) ≡ map bare (of_class class ps)
of_class_bare class ps = filter-map _ bare ps

first_with_bare : (p : Profile) (o : Option Profile) → first_with (bare p) (option_map bare o) ≡ bare (first_with p o)
first_with_bare p None = refl
first_with_bare p (Some q) = go (is_before q p) refl
  where
    go : (b : Bool) → is_before q p ≡ b → first_with (bare p) (option_map bare (Some q)) ≡ bare (first_with p (Some q))
    go true e = rw (e) refl
    go false e = rw (e) refl

first_of_bare : (ps : List Profile) → first_of (map bare ps) ≡ option_map bare (first_of ps)
first_of_bare [] = refl
first_of_bare (p ∷ ps) = ap Some (ap (first_with (bare p)) (first_of_bare ps) ∙ first_with_bare p (first_of ps))

pub deciding_bare : (ps : List Profile) (resource : List ℕ) → deciding (map bare ps) resource ≡ option_map bare (deciding ps resource)
deciding_bare ps resource = ap first_of (filter-map _ bare ps) ∙ first_of_bare (covering resource ps)

pub read_until_bare : (o : Option Profile) (ps : List Profile) → length (read_until (option_map bare o) (map bare ps)) ≡ length (read_until o ps)
read_until_bare None ps = length-map ps bare
read_until_bare (Some d) ps = same_count (λ (p : Profile). not (is_before d p)) ps

pub examined_bare : (o : Option Profile) (name : List ℕ) (ps : List Profile) → length (examined o name (map bare ps)) ≡ length (examined o name ps)
examined_bare None name ps = same_count (is_examined None name) ps
examined_bare (Some d) name ps = same_count (is_examined (Some d) name) ps

-- ---- they are profiles as well

patterns_bare : (ps : List Profile) → AllByRecursion (λ (p : Profile). IsPattern p.pattern) ps
    → AllByRecursion (λ (p : Profile). IsPattern p.pattern) (map bare ps)
patterns_bare [] h = tt
patterns_bare (p ∷ ps) h = (h.0, patterns_bare ps h.1)

below_bare : (p : Profile) (ps : List Profile) → AllByRecursion (λ (q : Profile). profile_cmp p q ≡ Less) ps
    → AllByRecursion (λ (q : Profile). profile_cmp (bare p) q ≡ Less) (map bare ps)
below_bare p [] h = tt
below_bare p (q ∷ ps) h = (h.0, below_bare p ps h.1)

rises_bare : (ps : List Profile) → Rises profile_cmp ps → Rises profile_cmp (map bare ps)
rises_bare [] h = tt
rises_bare (p ∷ ps) h = (below_bare p ps h.0, rises_bare ps h.1)

pub bare_are_profiles : (ps : List Profile) → AllByRecursion (λ (p : Profile). IsPattern p.pattern) ps → Rises profile_cmp ps → AreProfiles (map bare ps)
bare_are_profiles ps patterns up = are_profiles (map bare ps) (patterns_bare ps patterns) (rises_bare ps up)
