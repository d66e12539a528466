-- The laws of the deciding profile.
use Rattle.std.specs.Prelude.{◌≡◌, ℕ, List, Option}
use Rattle.opc_names.specs.declared.class.Class.{Class}
use Rattle.opc_policy_members.specs.Profiles.{AreProfiles, of_class}
use Rattle.opc_policy.specs.Deciding.{IsDeciding, deciding}
use Rattle.opc_policy_members.specs.declared.profile.Profile.{Profile}

-- The profile that is computed is the most specific one of its class,
abbrev pub DecidingIsMostSpecific : Type 0
DecidingIsMostSpecific = (profiles : List Profile) (class : Class) (resource : List ℕ) → AreProfiles profiles
    → IsDeciding (of_class class profiles) resource (deciding (of_class class profiles) resource)

-- and there is no other.
abbrev pub OneIsDeciding : Type 0
OneIsDeciding =
    (profiles : List Profile) (class : Class) (resource : List ℕ) (decided : Option Profile) → AreProfiles profiles
    → IsDeciding (of_class class profiles) resource decided → decided ≡ deciding (of_class class profiles) resource
