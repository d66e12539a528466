-- The base policy of the worked cases.
use Rattle.std.specs.Prelude.{ℕ, Bool, true, false, List, [], ◌∷◌, Option, Some, None, codes}
use Rattle.opc_names.specs.declared.class.Class.TheVariants.{Opercmds}
use Rattle.opc_names.specs.declared.level.Level.{Level}
use Rattle.opc_names.specs.declared.level.Level.TheVariants as level
use Rattle.opc_names.specs.declared.auth.Auth.{Auth}
use Rattle.opc_names.specs.declared.group.Group.{Group}
use Rattle.opc_policy.specs.Deciding.{deciding}
use Rattle.opc_policy.specs.Rulings.{ruling}
use Rattle.opc_policy_members.specs.declared.entry.Entry.{Entry}
use Rattle.opc_terms.specs.declared.need.Need.{Need}
use Rattle.opc_policy_members.specs.declared.profile.Profile.{Profile}
use Rattle.opc_policy.specs.declared.ruling.Ruling.{Ruling}
use Rattle.opc_policy_members.specs.declared.user.User.{User}

-- a user who is an operator, and one with SPECIAL
abbrev pub operator : List ℕ → User
operator name = record {
  id = name;
  special = false;
  auditor = false;
  revoked = false;
  digest = None;
  restricted = false;
}

abbrev pub anna : User
anna = operator (codes "ANNA")

abbrev pub bert : User
bert = operator (codes "BERT")

abbrev pub carl : User
carl = operator (codes "CARL")

abbrev pub secadm : User
secadm = record {
  id = codes "SECADM";
  special = true;
  auditor = false;
  revoked = false;
  digest = None;
  restricted = false;
}

-- the connect groups of ANNA, and those of BERT
abbrev pub ops : List (List ℕ)
ops = codes "OPS" ∷ []

abbrev pub night_and_ops : List (List ℕ)
night_and_ops = codes "NIGHT" ∷ codes "OPS" ∷ []

abbrev pub entry : List ℕ → Level → Entry
entry id level = record { id = id; when = None; level = level }

abbrev pub profile : List ℕ → Level → Bool → List Entry → Profile
profile pattern uacc warning entries = record {
  class = Opercmds;
  pattern = pattern;
  owner = codes "SECADM";
  uacc = uacc;
  warning = warning;
  entries = entries;
}

abbrev pub cancel_pay : Profile
cancel_pay = profile (codes "MVS.CANCEL.JOB.PAY*") level.None false
    (entry (codes "BERT") level.Read ∷ entry (codes "NIGHT") level.Update ∷ [])

abbrev pub cancel_jobs : Profile
cancel_jobs = profile (codes "MVS.CANCEL.JOB.*") level.None false (entry (codes "OPS") level.Update ∷ [])

abbrev pub display_secret : Profile
display_secret = profile (codes "MVS.DISPLAY.JOB.SECRET") level.None false (entry (codes "SECADM") level.Read ∷ [])

abbrev pub display : Profile
display = profile (codes "MVS.DISPLAY.**") level.Read false []

abbrev pub vary_devices : Profile
vary_devices = profile (codes "MVS.VARY.DEV") level.None true []

abbrev pub all_commands : Profile
all_commands = profile (codes "MVS.**") level.None false (entry (codes "OPS") level.Read ∷ [])

-- in the order in which the policy is written
abbrev pub base_profiles : List Profile
base_profiles = cancel_pay ∷ cancel_jobs ∷ display_secret ∷ display ∷ vary_devices ∷ all_commands ∷ []

-- another one, in which ANNA may not display
abbrev pub display_not_for_anna : Profile
display_not_for_anna = profile (codes "MVS.DISPLAY.**") level.Read false (entry (codes "ANNA") level.None ∷ [])

-- others, with entries for one console alone
abbrev pub entry_at : List ℕ → List ℕ → Level → Entry
entry_at console id level = record { id = id; when = Some console; level = level }

abbrev pub cancel_pay_at_c1 : Profile
cancel_pay_at_c1 =
    profile (codes "MVS.CANCEL.JOB.PAY*") level.None false
    (entry_at (codes "C1") (codes "ANNA") level.Update ∷ entry (codes "BERT") level.Read
    ∷ entry_at (codes "C1") (codes "BERT") level.None ∷ entry (codes "NIGHT") level.Update ∷ [])

abbrev pub cancel_pay_at_c2 : Profile
cancel_pay_at_c2 =
    profile (codes "MVS.CANCEL.JOB.PAY*") level.None false
    (entry (codes "BERT") level.Read ∷ entry (codes "NIGHT") level.Update
    ∷ entry_at (codes "C2") (codes "NIGHT") level.Control ∷ [])

-- a RESTRICTED user
abbrev pub restricted_carl : User
restricted_carl = record carl { restricted = true }

-- profiles of which two have one head, and one of them covers
abbrev pub short_profiles : List Profile
short_profiles = profile (codes "A.%") level.None false [] ∷ profile (codes "A.*.C") level.None false []
    ∷ profile (codes "A.*") level.None false [] ∷ []

abbrev pub need : List ℕ → Level → Group → Need
need resource level group = record { resource = resource; level = level; group = group }

-- the ruling on a need at a console, by these profiles of an active class
abbrev pub ruled_by : List Profile → Option User → Option (List ℕ) → List (List ℕ) → Auth → Need → Ruling
ruled_by profiles user console groups auth need =
    ruling true (deciding profiles need.resource) user console groups auth need
