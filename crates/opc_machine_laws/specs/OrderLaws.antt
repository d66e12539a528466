-- In which order the members of a policy stand, for those who read listings and exports.
use Rattle.std.specs.Prelude.{◌≡◌, ◌&&◌, ℕ, Bool, true, List, [], ◌∷◌, Some, None, codes}
use Rattle.std.specs.Cmp.Lexicographic.{slice_cmp}
use Rattle.std.specs.Ordering.{is_lt, nat_cmp}
use Rattle.std.specs.declared.cmp.Ordering.{Ordering}
use Rattle.std.specs.declared.cmp.Ordering.TheVariants.{Less}
use Rattle.opc_names.specs.declared.class.Class.TheVariants.{Console, Opercmds}
use Rattle.opc_policy_members.specs.declared.connect.Connect.{Connect}
use Rattle.opc_policy_members.specs.declared.entry.Entry.{Entry}
use Rattle.opc_policy_members.specs.declared.profile.Profile.{Profile}
use Rattle.opc_policy_members.specs.declared.user.User.{User}
use Rattle.opc_policy_members.specs.Access.{entry_cmp}
use Rattle.opc_policy_members.specs.Members.{connect_cmp, name_cmp, user_cmp}
use Rattle.opc_policy_members.specs.Profiles.{pattern_cmp, profile_cmp}

-- two texts by their ASCII codes
abbrev pub by_code : List ℕ → List ℕ → Ordering
by_code = slice_cmp nat_cmp

-- Users go by id and groups by name; connects by user, and those of one user by group; profiles of CONSOLE before those
-- of OPERCMDS; entries by id, and of those for one id the one for every console first, and then by console.
pub record MembersGoByName : Type 0 where
  pub users : (u v : User) → user_cmp u v ≡ by_code u.id v.id
  pub groups : (g h : List ℕ) → name_cmp g h ≡ by_code g h
  pub connects : (c d : Connect) → by_code c.user d.user ≡ Less → connect_cmp c d ≡ Less
  pub connects_of_one : (c d : Connect) → c.user ≡ d.user → connect_cmp c d ≡ by_code c.group d.group
  pub classes : (p q : Profile) → p.class ≡ Console → q.class ≡ Opercmds → profile_cmp p q ≡ Less
  pub profiles : (p q : Profile) → p.class ≡ q.class → profile_cmp p q ≡ pattern_cmp p.pattern q.pattern
  pub entries : (e f : Entry) → by_code e.id f.id ≡ Less → entry_cmp e f ≡ Less
  pub entries_everywhere : (e f : Entry) (console : List ℕ) → e.id ≡ f.id → e.when ≡ None → f.when ≡ Some console
      → entry_cmp e f ≡ Less
  pub entries_of_one : (e f : Entry) (console other : List ℕ) → e.id ≡ f.id → e.when ≡ Some console
      → f.when ≡ Some other → entry_cmp e f ≡ by_code console other

-- Worked examples of the order of patterns, in which the more specific comes first.
abbrev pub patterns_in_order : List (List ℕ)
patterns_in_order =
    codes "A.B" ∷ codes "A.B.C" ∷ codes "A.B.%" ∷ codes "A.B.*" ∷ codes "A.B.**" ∷ codes "A.%" ∷ codes "A.*.C"
    ∷ codes "A.*" ∷ codes "A.**.D" ∷ codes "A.**" ∷ codes "**.D" ∷ codes "**" ∷ []

abbrev pub are_in_order : List (List ℕ) → Bool
are_in_order [] = true
are_in_order (pattern ∷ []) = true
are_in_order (pattern ∷ (next ∷ more)) = is_lt (pattern_cmp pattern next) && are_in_order (next ∷ more)

abbrev pub PatternsGoSo : Type 0
PatternsGoSo = are_in_order patterns_in_order ≡ true
