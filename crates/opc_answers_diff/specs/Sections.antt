-- Sections: what decides on both sides, and of which users something else is said there.
use Rattle.std.specs.Prelude.{◌≡◌, ◌⊎◌, ◌≤◌, ◌<◌, ℕ, List, [], ◌∷◌, ◌++◌, Option, codes, filter, map}
use Rattle.std.specs.List.{flat_map, slice_get}
use Rattle.serde_json.specs.Data.{Data, member, no_members, object, string}
use Rattle.opc_names.specs.declared.class.Class.TheVariants.{Opercmds}
use Rattle.opc_names.specs.Spellings.{level_text}
use Rattle.opc_policy_members.specs.declared.profile.Profile.{Profile}
use Rattle.opc_policy_deciders.specs.declared.kind.AskedKind.{AskedKind}
use Rattle.opc_policy_deciders.specs.Decided.{ArePatternsOf, AreShortest}
use Rattle.opc_policy_deciders.specs.Forms.{forms}
use Rattle.opc_policy_deciders.specs.Kinds.{kinds}
use Rattle.opc_policy_deciders.specs.Pairs.{IsDecidedByBoth, NoneDecidedByBoth, is_among}
use Rattle.opc_policy_deciders.specs.Places.{places_alone}
use Rattle.opc_answers.specs.Json.{json_line}
use Rattle.opc_answers_may.specs.declared.commands.FormsAsked.TheVariants.{OfKind}
use Rattle.opc_answers_may.specs.Commands.{profile_at}
use Rattle.opc_answers_may.specs.MayJson.{examples_of, texts}
use Rattle.opc_answers_may.specs.MayTexts.{listed, names_of}
use Rattle.opc_answers_diff.specs.declared.asked.Asked.TheVariants.{Resource}
use Rattle.opc_answers_diff.specs.declared.compared.Compared.{Compared}
use Rattle.opc_answers_diff.specs.declared.verdicts.UserChange.{UserChange}
use Rattle.opc_answers_diff.specs.DecidesShown.{decides_lines, profile_value}
use Rattle.opc_answers_diff.specs.Logons.{below}
use Rattle.opc_answers_diff.specs.Members.{is_changed, members_of_both}
use Rattle.opc_answers_diff.specs.UsersShown as shown
use Rattle.opc_answers_diff.specs.Verdicts.{user_changes}

-- What is compared: the users of either side, and the patterns of both.
pub record IsCompared (c : Compared) : Type 0 where
  pub members : c.members ≡ members_of_both c.before c.after
  pub changed : c.changed ≡ filter is_changed c.members
  pub patterns : ArePatternsOf c.before.policy c.patterns.items
  pub others : ArePatternsOf c.after.policy c.others.items
  pub stand : c.stand.items ≡ map (is_among c.others.items) c.patterns.items
  pub others_stand : c.others_stand.items ≡ map (is_among c.patterns.items) c.others.items
  pub alone : c.alone.items ≡ places_alone 0 c.others_stand.items

-- for each form, the shortest resource that the profiles at these places decide, one before and one after
abbrev pub AreFoundAt : Compared → (at other_at : ℕ) → List (Option (List ℕ)) → Type 0
AreFoundAt c at other_at found = AreShortest (IsDecidedByBoth c.before.policy c.after.policy
    (slice_get c.patterns.items at) (slice_get c.others.items other_at)) forms found

abbrev pub NoneFoundAt : Compared → (at other_at : ℕ) → Type 0
NoneFoundAt c at other_at = NoneDecidedByBoth c.before.policy c.after.policy (slice_get c.patterns.items at)
    (slice_get c.others.items other_at)

-- the same of each place after, from one up to another
abbrev pub NoneFoundBetween : Compared → (at from upto : ℕ) → Type 0
NoneFoundBetween c at from upto = (place : ℕ) → from ≤ place → place < upto → NoneFoundAt c at place

-- and they
abbrev pub one_at : Compared → (at : ℕ) → Option Profile
one_at c at = profile_at c.before.policy c.patterns.items at

abbrev pub other_at : Compared → (at : ℕ) → Option Profile
other_at c at = profile_at c.after.policy c.others.items at

-- of whom something else is said there
abbrev pub kind_changes : Compared → AskedKind → (at at' : ℕ) → List UserChange
kind_changes c kind at at' = user_changes (Resource kind) (one_at c at) (other_at c at') c.members

-- and of whom about what is found there: of nobody, if no form of the kind is
abbrev pub if_any : {A : Type 0} → List A → List UserChange → List UserChange
if_any [] changes = []
if_any (x ∷ xs) changes = changes

abbrev pub found_changes : Compared → AskedKind → (found : List (Option (List ℕ))) → (at at' : ℕ) → List UserChange
found_changes c kind found at at' = if_any (names_of (OfKind kind) found) (kind_changes c kind at at')

abbrev pub changes_about : Compared → (at at' : ℕ) → AskedKind → List UserChange
changes_about c at at' kind = kind_changes c kind at at'

-- Nothing changes there: no resource is decided by both, or of nobody something else is said.
abbrev pub NobodyListedAt : Compared → (at at' : ℕ) → Type 0
NobodyListedAt c at at' = flat_map (changes_about c at at') kinds ≡ []

abbrev pub NothingAt : Compared → (at at' : ℕ) → Type 0
NothingAt c at at' = NoneFoundAt c at at' ⊎ NobodyListedAt c at at'

-- A section: the forms of a kind of which something is found, what decides on both sides, and the users. Without users
-- it is left out.
abbrev pub section_title : AskedKind → (names : List (List ℕ)) → (decides : List ℕ) → List ℕ
section_title kind names decides =
    codes "  NEEDS " ++ (level_text kind.level ++ (codes " " ++ (listed names ++ 10 ∷ decides)))

abbrev pub section_text : AskedKind → (found : List (Option (List ℕ))) → (decides : List ℕ) → List UserChange → List ℕ
section_text kind found decides changes =
    below (section_title kind (names_of (OfKind kind) found) decides) shown.change_text changes

-- as JSON
abbrev pub section_value : AskedKind → (found : List (Option (List ℕ))) → (one other : Option Profile) → Data
section_value kind found one other =
    object (member (codes "after") (profile_value other)
    (member (codes "before") (profile_value one)
    (member (codes "class") (string (codes "OPERCMDS"))
    (member (codes "commands") (texts (names_of (OfKind kind) found))
    (member (codes "examples") (examples_of (OfKind kind) found)
    (member (codes "kind") (string (codes "question"))
    (member (codes "level") (string (level_text kind.level)) no_members)))))))

abbrev pub section_json : AskedKind → (found : List (Option (List ℕ))) → (one other : Option Profile) → List UserChange
    → List ℕ
section_json kind found one other changes =
    below (json_line (section_value kind found one other)) shown.change_json changes

-- what decides at these places, on both sides
abbrev pub decides_at : Compared → (at at' : ℕ) → List ℕ
decides_at c at at' =
    decides_lines Opercmds c.before.policy c.after.policy (one_at c at) (other_at c at')

-- the sections of two places, kind by kind
abbrev pub kind_text : Compared → (at at' : ℕ) → (found : List (Option (List ℕ))) → AskedKind → List ℕ
kind_text c at at' found kind =
    section_text kind found (decides_at c at at') (found_changes c kind found at at')

abbrev pub sections_text : Compared → (at at' : ℕ) → (found : List (Option (List ℕ))) → List ℕ
sections_text c at at' found = flat_map (kind_text c at at' found) kinds

abbrev pub kind_json : Compared → (at at' : ℕ) → (found : List (Option (List ℕ))) → AskedKind → List ℕ
kind_json c at at' found kind =
    section_json kind found (one_at c at) (other_at c at') (found_changes c kind found at at')

abbrev pub sections_json : Compared → (at at' : ℕ) → (found : List (Option (List ℕ))) → List ℕ
sections_json c at at' found = flat_map (kind_json c at at' found) kinds
