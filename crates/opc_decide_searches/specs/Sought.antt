-- What a search looks for.
use Rattle.std.specs.Prelude.{ℕ, List, [], ◌∷◌, Option, Some, None, Result, Ok, Err, codes, if◌then◌else◌}
use Rattle.std.specs.Option.{ok_or}
use Rattle.std.specs.Str.{bytes_eq}
use Rattle.serde_json.specs.Data.{Data}
use Rattle.opc_names.specs.declared.level.Level.TheVariants.{Alter, Control, Read, Update}
use Rattle.opc_decide_requests.specs.Parts.{object_at, text_at}
use Rattle.opc_decide_requests.specs.RequestFaults.{◌>>=◌}
use Rattle.opc_decide_requests.specs.Requests.{being_body}
use Rattle.opc_decide_requests.specs.Subjects.{kind_at}
use Rattle.opc_decide_requests.specs.declared.action.AccessAction.{AccessAction}
use Rattle.opc_decide_requests.specs.declared.action.AccessAction.TheVariants.{Enter, Have, Logon}
use Rattle.opc_decide_requests.specs.declared.fault.RequestFault.{RequestFault}
use Rattle.opc_decide_requests.specs.declared.fault.RequestFault.TheVariants.{Invalid}
use Rattle.opc_decide_requests.specs.declared.key.RequestKey.TheVariants as key
use Rattle.opc_decide_searches.specs.declared.sought.ResourceType.{ResourceType}
use Rattle.opc_decide_searches.specs.declared.sought.ResourceType.TheVariants as resources
use Rattle.opc_decide_searches.specs.declared.sought.SearchKind.{SearchKind}
use Rattle.opc_decide_searches.specs.declared.sought.SearchKind.TheVariants as part
use Rattle.opc_decide_searches.specs.declared.sought.Sought.{Sought}
use Rattle.opc_decide_searches.specs.declared.sought.Sought.TheVariants.{Actions, Consoles, Subjects}

-- the actions on a resource of a type, by their names
abbrev pub actions_on : ResourceType → List AccessAction
actions_on resources.Opercmds = Have Alter ∷ Have Control ∷ Have Read ∷ Have Update ∷ []
actions_on resources.Console = Have Alter ∷ Have Control ∷ Logon ∷ Have Read ∷ Have Update ∷ []
actions_on resources.Command = Enter ∷ []

abbrev pub type_of : List ℕ → Option ResourceType
type_of text = if bytes_eq text (codes "OPERCMDS") then Some resources.Opercmds else
    if bytes_eq text (codes "CONSOLE") then Some resources.Console else
    if bytes_eq text (codes "command") then Some resources.Command else None

-- the type of the resource of a body
abbrev pub type_at : Data → Result ResourceType RequestFault
type_at body = do
  resource ← object_at key.Resource body body
  text ← text_at key.ResourceType resource
  ok_or (type_of text) (Invalid key.ResourceType)

-- Only consoles are searched for: there is no end of other resources.
abbrev pub resources_of : ResourceType → Result Sought RequestFault
resources_of resources.Console = Ok Consoles
resources_of other = Err (Invalid key.ResourceType)

abbrev pub sought_by : SearchKind → (body : Data) → Result Sought RequestFault
sought_by part.Subject body = do
  kind ← kind_at body
  Ok (Subjects kind)
sought_by part.Action body = do
  kind ← type_at body
  Ok (Actions kind)
sought_by part.Resource body = type_at body >>= resources_of

-- what the body of a search looks for
abbrev pub sought_at : SearchKind → (body : Data) → Result Sought RequestFault
sought_at kind body = do
  _ ← being_body body
  sought_by kind body
