-- What a log shows of a request.
use Rattle.std.specs.Prelude.{
  ℕ,
  Bool,
  List,
  [],
  ◌∷◌,
  ◌++◌,
  Option,
  codes,
  decimal,
  if◌then◌else◌,
  length,
  nat_lt,
  take,
}
use Rattle.opc_names.specs.declared.class.Class.{Class}
use Rattle.opc_names.specs.declared.level.Level.{Level}
use Rattle.opc_names.specs.Spellings.{auth_text, class_text, level_text}
use Rattle.opc_terms.specs.Modes.{mode_text}
use Rattle.opc_board.specs.Texts.{columns, text_or}
use Rattle.opc_machine.specs.declared.operation.Operation.{Operation}
use Rattle.opc_machine.specs.declared.operation.Operation.TheVariants as operation
use Rattle.opc_machine.specs.declared.request.Request.{Request}
use Rattle.opc_machine.specs.declared.request.Request.TheVariants as request
use Rattle.opc_http_log.specs.Escapes.{quoted}
use Rattle.opc_http_log.specs.Typed.{typed}

abbrev pub flag_text : Bool → List ℕ
flag_text flag = if flag then codes "true" else codes "false"

abbrev pub added_user_words : (id : List ℕ) → (special auditor restricted : Bool) → List ℕ
added_user_words id special auditor restricted =
    columns
    (codes "AddUser" ∷ (codes "id=" ++ id) ∷ (codes "special=" ++ flag_text special)
    ∷ (codes "auditor=" ++ flag_text auditor) ∷ (codes "restricted=" ++ flag_text restricted) ∷ [])

abbrev pub altered_user_words : (id : List ℕ) → (special auditor revoked restricted : Bool) → List ℕ
altered_user_words id special auditor revoked restricted =
    columns
    (codes "AltUser" ∷ (codes "id=" ++ id) ∷ (codes "special=" ++ flag_text special)
    ∷ (codes "auditor=" ++ flag_text auditor) ∷ (codes "revoked=" ++ flag_text revoked)
    ∷ (codes "restricted=" ++ flag_text restricted) ∷ [])

abbrev pub membership_words : (name user group : List ℕ) → List ℕ
membership_words name user group = columns (name ∷ (codes "user=" ++ user) ∷ (codes "group=" ++ group) ∷ [])

abbrev pub profile_words : (name : List ℕ) → Class → (pattern : List ℕ) → List ℕ
profile_words name class pattern =
    columns (name ∷ (codes "class=" ++ class_text class) ∷ (codes "pattern=" ++ pattern) ∷ [])

-- a profile with its attributes
abbrev pub attributes_words : (profile owner : List ℕ) → Level → (warning : Bool) → List ℕ
attributes_words profile owner uacc warning =
    columns
    (profile ∷ (codes "owner=" ++ owner) ∷ (codes "uacc=" ++ level_text uacc) ∷ (codes "warning=" ++ flag_text warning)
    ∷ [])

abbrev pub when_word : Option (List ℕ) → List ℕ
when_word when = codes "when=" ++ text_or (codes "-") when

-- An operation by its name, with the values of its keys as they are named over HTTP, but never a digest.
abbrev pub operation_words : Operation → List ℕ
operation_words (operation.AddUser id special auditor digest restricted) =
    added_user_words id special auditor restricted
operation_words (operation.AltUser id special auditor revoked digest restricted) =
    altered_user_words id special auditor revoked restricted
operation_words (operation.DelUser id) = columns (codes "DelUser" ∷ (codes "id=" ++ id) ∷ [])
operation_words (operation.AddGroup name) = columns (codes "AddGroup" ∷ (codes "name=" ++ name) ∷ [])
operation_words (operation.Connect user group) = membership_words (codes "Connect") user group
operation_words (operation.Remove user group) = membership_words (codes "Remove") user group
operation_words (operation.RDefine class pattern owner uacc warning) =
    attributes_words (profile_words (codes "RDefine") class pattern) owner uacc warning
operation_words (operation.RAlter class pattern owner uacc warning) =
    attributes_words (profile_words (codes "RAlter") class pattern) owner uacc warning
operation_words (operation.RDelete class pattern) = profile_words (codes "RDelete") class pattern
operation_words (operation.Permit class pattern id level when) =
    columns
    (profile_words (codes "Permit") class pattern ∷ (codes "id=" ++ id) ∷ (codes "level=" ++ level_text level)
    ∷ when_word when ∷ [])
operation_words (operation.PermitDelete class pattern id when) =
    columns (profile_words (codes "PermitDelete") class pattern ∷ (codes "id=" ++ id) ∷ when_word when ∷ [])
operation_words (operation.ClassActive class active) =
    columns (codes "ClassActive" ∷ (codes "class=" ++ class_text class) ∷ (codes "active=" ++ flag_text active) ∷ [])
operation_words (operation.DefineConsole name auth mode) =
    columns
    (codes "DefineConsole" ∷ (codes "name=" ++ name) ∷ (codes "auth=" ++ auth_text auth)
    ∷ (codes "mode=" ++ mode_text mode) ∷ [])

-- A command as it was typed, without a password; an operation; a listing or a batch by what its path names. An event
-- does not come over HTTP.
abbrev pub request_words : Request → List ℕ
request_words (request.Command console text) = typed text
request_words (request.Admin console op) = operation_words op
request_words (request.ListProfiles console class) = columns (codes "profiles" ∷ class_text class ∷ [])
request_words (request.ListAccount console from count) =
    columns (codes "account" ∷ decimal from ∷ decimal count ∷ [])
request_words (request.Import console batch rows) = columns (codes "import" ∷ decimal batch ∷ [])
request_words (request.Event event) = codes "event"

-- at most as many bytes as a command may have, with two periods after the quotes if there are more
abbrev pub shown : List ℕ → List ℕ
shown words =
    if nat_lt 126 (length words) then quoted (take 126 words) ++ codes ".." else quoted words
