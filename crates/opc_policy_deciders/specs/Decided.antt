-- Which resources a profile decides, form by form.
use Rattle.std.specs.Prelude.{
  ◌≡◌,
  ◌≤◌,
  ℕ,
  List,
  [],
  ◌∷◌,
  ◌++◌,
  Option,
  Some,
  None,
  All,
  if◌then◌else◌,
  length,
  map,
  option_map,
  ⊤,
}
use Rattle.opc_names.specs.Names.{IsPattern, qualifiers}
use Rattle.opc_names.specs.declared.class.Class.TheVariants.{Opercmds}
use Rattle.opc_policy.specs.Deciding.{deciding}
use Rattle.opc_policy_members.specs.declared.policy.Policy.{Policy}
use Rattle.opc_policy_members.specs.declared.profile.Profile.{Profile}
use Rattle.opc_policy_members.specs.Profiles.{AreMostSpecificFirst, of_class}
use Rattle.opc_policy_members.specs.Taken.{is_active}
use Rattle.opc_policy_deciders.specs.Forms.{AreOf, AskedForm}

abbrev pub pattern_of : Profile → List ℕ
pattern_of p = p.pattern

-- the profiles of OPERCMDS in order, if the class is active
abbrev pub in_effect : Policy → List Profile
in_effect p = if is_active p.active Opercmds then of_class Opercmds p.profiles else []

abbrev pub patterns_of : Policy → List (List ℕ)
patterns_of p = map pattern_of (in_effect p)

-- that these are they, which come in the order of the search
pub record ArePatternsOf (p : Policy) (patterns : List (List ℕ)) : Type 0 where
  pub all : patterns ≡ patterns_of p
  pub in_order : AreMostSpecificFirst p.profiles
  pub valid : All IsPattern patterns

-- the pattern of the profile that decides a resource, if one does
abbrev pub deciding_pattern : Policy → (resource : List ℕ) → Option (List ℕ)
deciding_pattern p resource = option_map pattern_of (deciding (in_effect p) resource)

-- a resource of a form that the profile of this pattern decides, or, without one, that no profile decides
pub record IsDecided (p : Policy) (pattern : Option (List ℕ)) (form : AskedForm) (resource : List ℕ) : Type 0 where
  pub of_form : AreOf form.qualifiers (qualifiers resource)
  pub decided : deciding_pattern p resource ≡ pattern

-- the shortest text of which this holds, if there is one
abbrev pub IsShortest : (List ℕ → Type 0) → Option (List ℕ) → Type 0
IsShortest Holds None = (text : List ℕ) → Holds text → ⊥
IsShortest Holds (Some shortest) =
    Holds shortest × ((text : List ℕ) → Holds text → length shortest ≤ length text)

-- for each form the shortest resource of which this holds, if there is one
abbrev pub AreShortest : (AskedForm → List ℕ → Type 0) → List AskedForm → List (Option (List ℕ)) → Type 0
AreShortest Holds [] [] = ⊤
AreShortest Holds [] (found ∷ list) = ⊥
AreShortest Holds (form ∷ forms) [] = ⊥
AreShortest Holds (form ∷ forms) (found ∷ list) = IsShortest (Holds form) found × AreShortest Holds forms list

-- what is added to a list
abbrev pub AddsShortest : (AskedForm → List ℕ → Type 0) → List AskedForm → (old new : List (Option (List ℕ))) → Type 0
AddsShortest Holds forms old new =
    (added : List (Option (List ℕ))) × (new ≡ old ++ added) × AreShortest Holds forms added
