-- Who may change the policy, and who sees the account: users who can log on.
use Rattle.std.specs.Prelude.{
  ◌&&◌,
  ◌||◌,
  ◌++◌,
  ◌==◌,
  ℕ,
  Bool,
  false,
  true,
  not,
  List,
  [],
  codes,
  filter,
  flat_map,
  if◌then◌else◌,
  length,
  map,
}
use Rattle.std.specs.Option.{is_none}
use Rattle.std.specs.Str.{bytes_eq}
use Rattle.opc_names.specs.Spellings.{class_text}
use Rattle.opc_policy_members.specs.declared.profile.Profile.{Profile}
use Rattle.opc_answers_sheet.specs.declared.changes.Right.{Right}
use Rattle.opc_answers_sheet.specs.declared.changes.Right.TheVariants.{Change, SeeAccount}
use Rattle.opc_answers_sheet.specs.Callers.{Caller}
use Rattle.opc_answers_sheet.specs.Cells.{joined, users_text}
use Rattle.opc_answers_sheet.specs.Ways.{is_as}

-- a user who can log on, or acts at a console, and is not revoked
abbrev pub can_act : Caller → Bool
can_act caller = is_none caller.no_logon && not caller.member.user.revoked

-- SPECIAL is for changes, and for the account, as AUDITOR is
abbrev pub gives : Right → Caller → Bool
gives Change caller = caller.member.user.special
gives SeeAccount caller = caller.member.user.special || caller.member.user.auditor

abbrev pub has_right : Right → Caller → Bool
has_right right caller = can_act caller && gives right caller

abbrev pub ids_with : (wanted : Bool) → Right → List Caller → List (List ℕ)
ids_with wanted right callers = map (λ (caller : Caller). caller.member.user.id)
    (filter (λ (caller : Caller). is_as wanted (has_right right caller)) callers)

abbrev pub holders_text : (ids others : List (List ℕ)) → List ℕ
holders_text ids others = if length ids == 0 then codes ": nobody" else users_text ids 0 others

abbrev pub right_words : Right → List ℕ
right_words Change = codes "SPECIAL"
right_words SeeAccount = codes "SPECIAL or AUDITOR"

abbrev pub right_text : Right → List Caller → List ℕ
right_text right callers = codes "<p><b>" ++ (right_words right ++ (codes "</b>"
    ++ (holders_text (ids_with true right callers) (ids_with false right callers) ++ codes "</p>\n")))

-- an owner may change the profiles that are the owner's
abbrev pub is_owned_by : List ℕ → Profile → Bool
is_owned_by id p = bytes_eq p.owner id

abbrev pub profile_words : Profile → List ℕ
profile_words p = class_text p.class ++ (codes " " ++ p.pattern)

abbrev pub owned_by : List ℕ → List Profile → List (List ℕ)
owned_by id profiles = map profile_words (filter (is_owned_by id) profiles)

abbrev pub owned_text : (id : List ℕ) → (owned : List (List ℕ)) → List ℕ
owned_text id owned = if length owned == 0 then [] else
    (codes "<p><b>OWNER</b> " ++ (id ++ (codes ": " ++ (joined owned ++ codes "</p>\n"))))

-- whoever is SPECIAL may change them all
abbrev pub owner_text : List Profile → Caller → List ℕ
owner_text profiles caller = if can_act caller && not caller.member.user.special then
    owned_text caller.member.user.id (owned_by caller.member.user.id profiles) else []

abbrev pub owners_text : List Profile → List Caller → List ℕ
owners_text profiles callers = flat_map (owner_text profiles) callers
