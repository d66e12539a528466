-- The codes and the texts of faults.
use Rattle.std.specs.Prelude.{ℕ, List, ◌++◌, codes}
use Rattle.std.specs.Fmt.{decimal}
use Rattle.opc_terms.specs.declared.fault.Fault.{Fault}
use Rattle.opc_terms.specs.declared.fault.Fault.TheVariants.{
  Empty,
  TooLong,
  BadCharacter,
  UnknownVerb,
  BadOperand,
  OpenQuote,
  NoConsole,
  ConsoleOffline,
  LogonRequired,
  Revoked,
  BadLogon,
  AlreadyOn,
  NotOn,
  DeniedConsole,
  DeniedProfile,
  DeniedGroup,
  NoUnit,
  NonCancelable,
  Cancelable,
  UnitExists,
  NoDevice,
  DeviceState,
  DeviceInUse,
  NoVolume,
  NoReply,
  NoTarget,
  Halted,
  LastMaster,
  WrongKind,
  ReplyExists,
  NotSpecial,
  NotOwner,
  Exists,
  Missing,
  InUse,
  BatchChanged,
  NotEmpty,
  RowFault,
  NoMemory,
  Store,
  NotOurs,
}
use Rattle.opc_terms.specs.declared.fault.Why.{Why}
use Rattle.opc_terms.specs.declared.fault.Why.TheVariants as why
use Rattle.opc_terms.specs.declared.store_fault.StoreFault.{StoreFault}
use Rattle.opc_terms.specs.declared.store_fault.StoreFault.TheVariants as store

-- the refusal of a request whose source has no answer
abbrev pub store_fault : StoreFault → Fault
store_fault store.NoMemory = NoMemory
store_fault store.Store = Store

abbrev pub fault_code : Fault → List ℕ
fault_code Empty = codes "E01"
fault_code TooLong = codes "E02"
fault_code (BadCharacter at) = codes "E03"
fault_code (UnknownVerb from to) = codes "E04"
fault_code (BadOperand from to) = codes "E05"
fault_code (OpenQuote at) = codes "E06"
fault_code NoConsole = codes "E10"
fault_code ConsoleOffline = codes "E11"
fault_code LogonRequired = codes "E12"
fault_code Revoked = codes "E13"
fault_code BadLogon = codes "E14"
fault_code (AlreadyOn user) = codes "E15"
fault_code NotOn = codes "E16"
fault_code DeniedConsole = codes "E17"
fault_code DeniedProfile = codes "E20"
fault_code DeniedGroup = codes "E21"
fault_code NoUnit = codes "E30"
fault_code NonCancelable = codes "E31"
fault_code Cancelable = codes "E32"
fault_code UnitExists = codes "E33"
fault_code NoDevice = codes "E34"
fault_code DeviceState = codes "E35"
fault_code DeviceInUse = codes "E36"
fault_code NoVolume = codes "E37"
fault_code NoReply = codes "E38"
fault_code NoTarget = codes "E39"
fault_code Halted = codes "E40"
fault_code LastMaster = codes "E41"
fault_code WrongKind = codes "E42"
fault_code ReplyExists = codes "E45"
fault_code NotSpecial = codes "E50"
fault_code NotOwner = codes "E51"
fault_code (Exists subject) = codes "E52"
fault_code (Missing subject) = codes "E53"
fault_code (InUse subject) = codes "E55"
fault_code BatchChanged = codes "E56"
fault_code NotEmpty = codes "E57"
fault_code (RowFault row why) = codes "E60"
fault_code NoMemory = codes "E90"
fault_code Store = codes "E91"
fault_code (NotOurs version) = codes "E92"

-- what is wrong with a row
abbrev pub why_text : Why → List ℕ
why_text why.Header = codes "Header"
why_text why.Columns = codes "Columns"
why_text why.Many = codes "Many"
why_text why.Kind = codes "Kind"
why_text why.Class = codes "Class"
why_text why.Name = codes "Name"
why_text why.Id = codes "Id"
why_text why.Value = codes "Value"
why_text why.Owner = codes "Owner"
why_text why.Flags = codes "Flags"
why_text why.Digest = codes "Digest"
why_text why.When = codes "When"
why_text why.Restricted = codes "Restricted"

-- the name of a fault, then each detail after a space, numbers in decimal
abbrev pub fault_text : Fault → List ℕ
fault_text Empty = codes "Empty"
fault_text TooLong = codes "TooLong"
fault_text (BadCharacter at) = codes "BadCharacter " ++ decimal at
fault_text (UnknownVerb from to) = codes "UnknownVerb " ++ decimal from ++ codes " " ++ decimal to
fault_text (BadOperand from to) = codes "BadOperand " ++ decimal from ++ codes " " ++ decimal to
fault_text (OpenQuote at) = codes "OpenQuote " ++ decimal at
fault_text NoConsole = codes "NoConsole"
fault_text ConsoleOffline = codes "ConsoleOffline"
fault_text LogonRequired = codes "LogonRequired"
fault_text Revoked = codes "Revoked"
fault_text BadLogon = codes "BadLogon"
fault_text (AlreadyOn user) = codes "AlreadyOn " ++ user
fault_text NotOn = codes "NotOn"
fault_text DeniedConsole = codes "DeniedConsole"
fault_text DeniedProfile = codes "DeniedProfile"
fault_text DeniedGroup = codes "DeniedGroup"
fault_text NoUnit = codes "NoUnit"
fault_text NonCancelable = codes "NonCancelable"
fault_text Cancelable = codes "Cancelable"
fault_text UnitExists = codes "UnitExists"
fault_text NoDevice = codes "NoDevice"
fault_text DeviceState = codes "DeviceState"
fault_text DeviceInUse = codes "DeviceInUse"
fault_text NoVolume = codes "NoVolume"
fault_text NoReply = codes "NoReply"
fault_text NoTarget = codes "NoTarget"
fault_text Halted = codes "Halted"
fault_text LastMaster = codes "LastMaster"
fault_text WrongKind = codes "WrongKind"
fault_text ReplyExists = codes "ReplyExists"
fault_text NotSpecial = codes "NotSpecial"
fault_text NotOwner = codes "NotOwner"
fault_text (Exists subject) = codes "Exists " ++ subject
fault_text (Missing subject) = codes "Missing " ++ subject
fault_text (InUse subject) = codes "InUse " ++ subject
fault_text BatchChanged = codes "BatchChanged"
fault_text NotEmpty = codes "NotEmpty"
fault_text (RowFault row why) = codes "RowFault " ++ decimal row ++ codes " " ++ why_text why
fault_text NoMemory = codes "NoMemory"
fault_text Store = codes "Store"
fault_text (NotOurs version) = codes "NotOurs " ++ decimal version
