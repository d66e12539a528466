-- What a user may change of the policy, and see of it and of the account.
use Rattle.std.specs.Prelude.{ℕ, Bool, List, [], ◌∷◌, ◌++◌, ◌&&◌, codes, filter, not}
use Rattle.std.specs.Str.{bytes_eq}
use Rattle.opc_names.specs.Spellings.{class_text}
use Rattle.opc_policy_members.specs.declared.profile.Profile.{Profile}
use Rattle.opc_policy_members.specs.declared.user.User.{User}

-- SPECIAL changes the policy, with whole files, too; AUDITOR sees it; both see the account.
abbrev pub special_things : List (List ℕ)
special_things = codes "change the policy" ∷ codes "import" ∷ codes "see the account" ∷ []

abbrev pub auditor_things : List (List ℕ)
auditor_things = codes "see the policy" ∷ codes "see the account" ∷ []

-- The profiles that a user changes as their owner, and so may permit anybody. SPECIAL changes every profile anyway.
abbrev pub changes_as_owner : User → Profile → Bool
changes_as_owner u p = not u.special && bytes_eq p.owner u.id

abbrev pub owned_by : User → List Profile → List Profile
owned_by u profiles = filter (changes_as_owner u) profiles

abbrev pub owned_thing : Profile → List ℕ
owned_thing p = class_text p.class ++ 32 ∷ p.pattern
