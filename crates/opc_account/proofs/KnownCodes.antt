-- Each code that a row of the account may have.
use Rattle.std.proofs.Common.{◌≡◌, refl, true}
use Rattle.opc_terms.specs.Faults.{fault_code}
use Rattle.opc_terms.specs.declared.fault.Fault.{Fault}
use Rattle.opc_terms.specs.declared.fault.Fault.TheVariants.{
  Empty,
  TooLong,
  BadCharacter,
  UnknownVerb,
  BadOperand,
  OpenQuote,
  NoConsole,
  ConsoleOffline,
  LogonRequired,
  Revoked,
  BadLogon,
  AlreadyOn,
  NotOn,
  DeniedConsole,
  DeniedProfile,
  DeniedGroup,
  NoUnit,
  NonCancelable,
  Cancelable,
  UnitExists,
  NoDevice,
  DeviceState,
  DeviceInUse,
  NoVolume,
  NoReply,
  NoTarget,
  Halted,
  LastMaster,
  WrongKind,
  ReplyExists,
  NotSpecial,
  NotOwner,
  Exists,
  Missing,
  InUse,
  BatchChanged,
  NotEmpty,
  RowFault,
  NoMemory,
  Store,
  NotOurs,
}
use Rattle.opc_account.specs.Codes.{CodesAreKnown, is_known}

of_faults : (fault : Fault) → is_known (fault_code fault) ≡ true
of_faults Empty = refl
of_faults TooLong = refl
of_faults (BadCharacter at) = refl
of_faults (UnknownVerb from to) = refl
of_faults (BadOperand from to) = refl
of_faults (OpenQuote at) = refl
of_faults NoConsole = refl
of_faults ConsoleOffline = refl
of_faults LogonRequired = refl
of_faults Revoked = refl
of_faults BadLogon = refl
of_faults (AlreadyOn user) = refl
of_faults NotOn = refl
of_faults DeniedConsole = refl
of_faults DeniedProfile = refl
of_faults DeniedGroup = refl
of_faults NoUnit = refl
of_faults NonCancelable = refl
of_faults Cancelable = refl
of_faults UnitExists = refl
of_faults NoDevice = refl
of_faults DeviceState = refl
of_faults DeviceInUse = refl
of_faults NoVolume = refl
of_faults NoReply = refl
of_faults NoTarget = refl
of_faults Halted = refl
of_faults LastMaster = refl
of_faults WrongKind = refl
of_faults ReplyExists = refl
of_faults NotSpecial = refl
of_faults NotOwner = refl
of_faults (Exists subject) = refl
of_faults (Missing subject) = refl
of_faults (InUse subject) = refl
of_faults BatchChanged = refl
of_faults NotEmpty = refl
of_faults (RowFault row why) = refl
of_faults NoMemory = refl
of_faults Store = refl
of_faults (NotOurs version) = refl

pub codes_known : CodesAreKnown
codes_known = record { of_faults = of_faults; of_warnings = refl }
