-- What is asked for: the action of a question.
use Rattle.std.specs.Prelude.{ℕ, List, Option, Some, None, Result, codes, if◌then◌else◌, option_and_then}
use Rattle.std.specs.Option.{ok_or}
use Rattle.std.specs.Str.{bytes_eq}
use Rattle.serde_json.specs.Data.{Data}
use Rattle.opc_names.specs.Authority.{includes}
use Rattle.opc_names.specs.Spellings.{level_text, levels, lookup}
use Rattle.opc_names.specs.declared.level.Level.{Level}
use Rattle.opc_names.specs.declared.level.Level.TheVariants.{Read}
use Rattle.opc_decide_requests.specs.Parts.{object_at, text_at}
use Rattle.opc_decide_requests.specs.RequestFaults.{◌>>=◌}
use Rattle.opc_decide_requests.specs.declared.action.AccessAction.{AccessAction}
use Rattle.opc_decide_requests.specs.declared.action.AccessAction.TheVariants.{Enter, Have, Logon}
use Rattle.opc_decide_requests.specs.declared.fault.RequestFault.{RequestFault}
use Rattle.opc_decide_requests.specs.declared.fault.RequestFault.TheVariants.{Invalid}
use Rattle.opc_decide_requests.specs.declared.key.RequestKey.TheVariants.{Action, ActionName}

-- READ to ALTER: whoever has NONE has no access.
abbrev pub level_asked : Level → Option AccessAction
level_asked level = if includes level Read then Some (Have level) else None

abbrev pub named_action : List ℕ → Option AccessAction
named_action name = if bytes_eq name (codes "LOGON") then Some Logon else
    (if bytes_eq name (codes "enter") then Some Enter else option_and_then level_asked (lookup levels name))

abbrev pub action_in : Data → Result AccessAction RequestFault
action_in value = do
  name ← text_at ActionName value
  ok_or (named_action name) (Invalid ActionName)

-- the action of an element, or else the one that all elements share
abbrev pub action_at : (element shared : Data) → Result AccessAction RequestFault
action_at element shared = object_at Action element shared >>= action_in

abbrev pub action_text : AccessAction → List ℕ
action_text (Have level) = level_text level
action_text Logon = codes "LOGON"
action_text Enter = codes "enter"
