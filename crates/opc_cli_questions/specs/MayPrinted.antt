-- The parts of what `may` prints, each as text or as JSON, and all of them.
use Rattle.std.specs.Prelude.{◌≡◌, ◌+◌, ◌++◌, ⊤, ℕ, Bool, true, false, List, [], ◌∷◌, Option, length}
use Rattle.std.specs.List.{slice_get}
use Rattle.std.specs.Io.KnownBytes.{Appends}
use Rattle.opc_policy_members.specs.declared.policy.Policy.{Policy}
use Rattle.opc_policy_deciders.specs.Decided.{AreShortest, IsDecided, patterns_of}
use Rattle.opc_policy_deciders.specs.Forms.{forms}
use Rattle.opc_answers.specs.declared.members.UserWithGroups.{UserWithGroups}
use Rattle.opc_answers_may.specs.declared.commands.CommandsSection.{CommandsSection}
use Rattle.opc_answers_may.specs.declared.may.May.{May}
use Rattle.opc_answers_may.specs.Commands.{profile_at, sections_of}
use Rattle.opc_answers_may.specs.MayJson.{changes_json, logons_json, sections_json, user_json}
use Rattle.opc_answers_may.specs.MayTexts.{changes_text, logons_text, sections_text, user_text}
use Rattle.opc_check.specs.declared.form.Form.{Form}
use Rattle.opc_check.specs.declared.form.Form.TheVariants.{Json, Text}

abbrev pub user_shown : Form → UserWithGroups → List ℕ
user_shown Text m = user_text m.user
user_shown Json m = user_json m

abbrev pub logons_shown : Form → (allowed : Bool) → May → List ℕ
logons_shown Text allowed m = logons_text allowed m
logons_shown Json allowed m = logons_json allowed m

abbrev pub sections_shown : Form → (allowed : Bool) → (found : List (Option (List ℕ))) → List CommandsSection → List ℕ
sections_shown Text allowed found sections = sections_text allowed found sections
sections_shown Json allowed found sections = sections_json allowed found sections

abbrev pub changes_shown : Form → (allowed : Bool) → May → List ℕ
changes_shown Text allowed m = changes_text allowed m
changes_shown Json allowed m = changes_json allowed m

-- Found at a place of the patterns, or at their end: for each form a resource that is decided there, if there is one.
abbrev pub IsFoundAt : Policy → (place : ℕ) → (found : List (Option (List ℕ))) → Type 0
IsFoundAt p place found = AreShortest (IsDecided p (slice_get (patterns_of p) place)) forms found

-- at one place after another, from this one on
abbrev pub AreFoundFrom : Policy → (place : ℕ) → (found : List (List (Option (List ℕ)))) → Type 0
AreFoundFrom p place [] = ⊤
AreFoundFrom p place (found ∷ more) = IsFoundAt p place found × AreFoundFrom p (place + 1) more

-- what is decided at a place
abbrev pub place_shown : Form → (allowed : Bool) → May → (place : ℕ) → (found : List (Option (List ℕ))) → List ℕ
place_shown form allowed m place found = sections_shown form allowed found
    (sections_of m (profile_at m.room.policy (patterns_of m.room.policy) place))

abbrev pub places_from : Form → (allowed : Bool) → May → (place : ℕ) → (found : List (List (Option (List ℕ))))
    → List ℕ
places_from form allowed m place [] = []
places_from form allowed m place (found ∷ more) =
    place_shown form allowed m place found ++ places_from form allowed m (place + 1) more

module _ (form : Form) (allowed : Bool) (m : May) where
  -- This is what is decided at a place.
  abbrev pub IsPlaceShown : (place : ℕ) → (text : List ℕ) → Type 0
  IsPlaceShown place text = (found : List (Option (List ℕ))) × IsFoundAt m.room.policy place found
      × (text ≡ place_shown form allowed m place found)

  -- What is decided at each of so many places was written.
  pub record ArePlacesWritten (before written : Option (List ℕ)) (count : ℕ) : Type 0 where
    pub found : List (List (Option (List ℕ)))
    pub each : length found ≡ count
    pub are : AreFoundFrom m.room.policy 0 found
    pub printed : Appends before written (places_from form allowed m 0 found)

  -- where the user may log on, what may be entered, and what may be changed
  abbrev pub rights_shown : (found : List (List (Option (List ℕ)))) → List ℕ
  rights_shown found =
      logons_shown form allowed m ++ (places_from form allowed m 0 found ++ changes_shown form allowed m)

  pub record AreRights (text : List ℕ) : Type 0 where
    pub found : List (List (Option (List ℕ)))
    pub each : length found ≡ length (patterns_of m.room.policy) + 1
    pub are : AreFoundFrom m.room.policy 0 found
    pub is : text ≡ rights_shown found

  -- The user, and that. A revoked user may nothing, and the first line is all.
  abbrev pub IsMayTextIf : (is_revoked : Bool) → (text : List ℕ) → Type 0
  IsMayTextIf true text = text ≡ user_shown form m.member
  IsMayTextIf false text =
      (rights : List ℕ) × AreRights rights × (text ≡ user_shown form m.member ++ rights)

  abbrev pub IsMayText : (text : List ℕ) → Type 0
  IsMayText text = IsMayTextIf m.member.user.revoked text
