-- The thirteen operations of administration, each as an object with exactly its keys.
use Rattle.std.specs.Prelude.{ℕ, List, codes, Result, Ok, Err, if◌then◌else◌}
use Rattle.std.specs.Str.{bytes_eq}
use Rattle.serde_json.specs.Data.{Data}
use Rattle.opc_names.specs.Names.{console_rule, group_rule, pattern_rule, user_rule}
use Rattle.opc_names.specs.Spellings.{auths, classes, levels}
use Rattle.opc_terms.specs.Modes.{modes}
use Rattle.opc_machine.specs.declared.operation.Operation.{Operation}
use Rattle.opc_machine.specs.declared.operation.Operation.TheVariants as operation
use Rattle.opc_http_requests.specs.declared.body_key.BodyKey.TheVariants as key
use Rattle.opc_http_requests.specs.declared.refusal.InvalidPart.{InvalidPart}
use Rattle.opc_http_requests.specs.declared.refusal.InvalidPart.TheVariants.{Value}
use Rattle.opc_http_requests.specs.Keys.{
  ◌>>=◌,
  digest_at,
  entry_at,
  flag_at,
  has_keys,
  name_at,
  spelled_at,
  text_at,
  when_at,
}

abbrev pub add_user : Data → Result Operation InvalidPart
add_user value = do
  id ← name_at user_rule key.Id value
  special ← flag_at key.Special value
  auditor ← flag_at key.Auditor value
  digest ← digest_at key.Digest value
  restricted ← flag_at key.Restricted value
  _ ← has_keys 6 value
  Ok (operation.AddUser id special auditor digest restricted)

abbrev pub alt_user : Data → Result Operation InvalidPart
alt_user value = do
  id ← name_at user_rule key.Id value
  special ← flag_at key.Special value
  auditor ← flag_at key.Auditor value
  revoked ← flag_at key.Revoked value
  digest ← digest_at key.Digest value
  restricted ← flag_at key.Restricted value
  _ ← has_keys 7 value
  Ok (operation.AltUser id special auditor revoked digest restricted)

abbrev pub del_user : Data → Result Operation InvalidPart
del_user value = do
  id ← name_at user_rule key.Id value
  _ ← has_keys 2 value
  Ok (operation.DelUser id)

abbrev pub add_group : Data → Result Operation InvalidPart
add_group value = do
  name ← name_at group_rule key.Name value
  _ ← has_keys 2 value
  Ok (operation.AddGroup name)

abbrev pub connect : Data → Result Operation InvalidPart
connect value = do
  user ← name_at user_rule key.User value
  group ← name_at group_rule key.Group value
  _ ← has_keys 3 value
  Ok (operation.Connect user group)

abbrev pub remove : Data → Result Operation InvalidPart
remove value = do
  user ← name_at user_rule key.User value
  group ← name_at group_rule key.Group value
  _ ← has_keys 3 value
  Ok (operation.Remove user group)

abbrev pub define : Data → Result Operation InvalidPart
define value = do
  class ← spelled_at classes key.Class value
  pattern ← name_at pattern_rule key.Pattern value
  owner ← name_at user_rule key.Owner value
  uacc ← spelled_at levels key.Uacc value
  warning ← flag_at key.Warning value
  _ ← has_keys 6 value
  Ok (operation.RDefine class pattern owner uacc warning)

abbrev pub alter : Data → Result Operation InvalidPart
alter value = do
  class ← spelled_at classes key.Class value
  pattern ← name_at pattern_rule key.Pattern value
  owner ← name_at user_rule key.Owner value
  uacc ← spelled_at levels key.Uacc value
  warning ← flag_at key.Warning value
  _ ← has_keys 6 value
  Ok (operation.RAlter class pattern owner uacc warning)

abbrev pub delete : Data → Result Operation InvalidPart
delete value = do
  class ← spelled_at classes key.Class value
  pattern ← name_at pattern_rule key.Pattern value
  _ ← has_keys 3 value
  Ok (operation.RDelete class pattern)

abbrev pub permit : Data → Result Operation InvalidPart
permit value = do
  class ← spelled_at classes key.Class value
  pattern ← name_at pattern_rule key.Pattern value
  id ← entry_at key.Id value
  level ← spelled_at levels key.Level value
  when ← when_at key.When value
  _ ← has_keys 6 value
  Ok (operation.Permit class pattern id level when)

abbrev pub permit_delete : Data → Result Operation InvalidPart
permit_delete value = do
  class ← spelled_at classes key.Class value
  pattern ← name_at pattern_rule key.Pattern value
  id ← entry_at key.Id value
  when ← when_at key.When value
  _ ← has_keys 5 value
  Ok (operation.PermitDelete class pattern id when)

abbrev pub class_active : Data → Result Operation InvalidPart
class_active value = do
  class ← spelled_at classes key.Class value
  active ← flag_at key.Active value
  _ ← has_keys 3 value
  Ok (operation.ClassActive class active)

abbrev pub define_console : Data → Result Operation InvalidPart
define_console value = do
  name ← name_at console_rule key.Name value
  auth ← spelled_at auths key.Auth value
  mode ← spelled_at modes key.Mode value
  _ ← has_keys 4 value
  Ok (operation.DefineConsole name auth mode)

-- by the name of the operation
abbrev pub operation_by : List ℕ → Data → Result Operation InvalidPart
operation_by name value =
    if bytes_eq name (codes "AddUser") then add_user value
    else if bytes_eq name (codes "AltUser") then alt_user value
    else if bytes_eq name (codes "DelUser") then del_user value
    else if bytes_eq name (codes "AddGroup") then add_group value
    else if bytes_eq name (codes "Connect") then connect value
    else if bytes_eq name (codes "Remove") then remove value
    else if bytes_eq name (codes "RDefine") then define value
    else if bytes_eq name (codes "RAlter") then alter value
    else if bytes_eq name (codes "RDelete") then delete value
    else if bytes_eq name (codes "Permit") then permit value
    else if bytes_eq name (codes "PermitDelete") then permit_delete value
    else if bytes_eq name (codes "ClassActive") then class_active value
    else if bytes_eq name (codes "DefineConsole") then define_console value
    else Err (Value key.Op)

-- the key `op` has that name; if it is no operation, its first invalid key
abbrev pub operation_of : Data → Result Operation InvalidPart
operation_of value = do
  name ← text_at key.Op value
  operation_by name value
