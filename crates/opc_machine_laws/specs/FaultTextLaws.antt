-- What each fault is called, and what it names, for those who are refused.
use Rattle.std.specs.Prelude.{◌≡◌, ℕ, List, [], ◌∷◌, ◌++◌, codes, decimal}
use Rattle.opc_terms.specs.declared.fault.Fault.{Fault}
use Rattle.opc_terms.specs.declared.fault.Fault.TheVariants as fault
use Rattle.opc_terms.specs.declared.fault.Why.{Why}
use Rattle.opc_terms.specs.declared.fault.Why.TheVariants as why
use Rattle.opc_terms.specs.declared.store_fault.StoreFault.TheVariants as store
use Rattle.opc_terms.specs.Faults.{fault_text, store_fault}

-- which column of a row is wrong, or what else is
abbrev pub why_word : Why → List ℕ
why_word why.Header = codes "Header"
why_word why.Columns = codes "Columns"
why_word why.Many = codes "Many"
why_word why.Kind = codes "Kind"
why_word why.Class = codes "Class"
why_word why.Name = codes "Name"
why_word why.Id = codes "Id"
why_word why.Value = codes "Value"
why_word why.Owner = codes "Owner"
why_word why.Flags = codes "Flags"
why_word why.Digest = codes "Digest"
why_word why.When = codes "When"
why_word why.Restricted = codes "Restricted"

-- the name of a fault, and each detail after a space
abbrev pub detailed : List ℕ → List (List ℕ) → List ℕ
detailed name [] = name
detailed name (detail ∷ more) = detailed (name ++ codes " " ++ detail) more

-- what a fault is called, and its details: the places in the line, from 0, or the user, the name, the row or the version
-- that it is about
abbrev pub named : Fault → List ℕ
named fault.Empty = codes "Empty"
named fault.TooLong = codes "TooLong"
named (fault.BadCharacter at) = detailed (codes "BadCharacter") (decimal at ∷ [])
named (fault.UnknownVerb from to) = detailed (codes "UnknownVerb") (decimal from ∷ decimal to ∷ [])
named (fault.BadOperand from to) = detailed (codes "BadOperand") (decimal from ∷ decimal to ∷ [])
named (fault.OpenQuote at) = detailed (codes "OpenQuote") (decimal at ∷ [])
named fault.NoConsole = codes "NoConsole"
named fault.ConsoleOffline = codes "ConsoleOffline"
named fault.LogonRequired = codes "LogonRequired"
named fault.Revoked = codes "Revoked"
named fault.BadLogon = codes "BadLogon"
named (fault.AlreadyOn user) = detailed (codes "AlreadyOn") (user ∷ [])
named fault.NotOn = codes "NotOn"
named fault.DeniedConsole = codes "DeniedConsole"
named fault.DeniedProfile = codes "DeniedProfile"
named fault.DeniedGroup = codes "DeniedGroup"
named fault.NoUnit = codes "NoUnit"
named fault.NonCancelable = codes "NonCancelable"
named fault.Cancelable = codes "Cancelable"
named fault.UnitExists = codes "UnitExists"
named fault.NoDevice = codes "NoDevice"
named fault.DeviceState = codes "DeviceState"
named fault.DeviceInUse = codes "DeviceInUse"
named fault.NoVolume = codes "NoVolume"
named fault.NoReply = codes "NoReply"
named fault.NoTarget = codes "NoTarget"
named fault.Halted = codes "Halted"
named fault.LastMaster = codes "LastMaster"
named fault.WrongKind = codes "WrongKind"
named fault.ReplyExists = codes "ReplyExists"
named fault.NotSpecial = codes "NotSpecial"
named fault.NotOwner = codes "NotOwner"
named (fault.Exists subject) = detailed (codes "Exists") (subject ∷ [])
named (fault.Missing subject) = detailed (codes "Missing") (subject ∷ [])
named (fault.InUse subject) = detailed (codes "InUse") (subject ∷ [])
named fault.BatchChanged = codes "BatchChanged"
named fault.NotEmpty = codes "NotEmpty"
named (fault.RowFault row why) = detailed (codes "RowFault") (decimal row ∷ why_word why ∷ [])
named fault.NoMemory = codes "NoMemory"
named fault.Store = codes "Store"
named (fault.NotOurs version) = detailed (codes "NotOurs") (decimal version ∷ [])

abbrev pub FaultsAreNamedSo : Type 0
FaultsAreNamedSo = (f : Fault) → fault_text f ≡ named f

-- A request is aborted by E90 if an allocation failed, and by E91 if the store did.
pub record AbortsSayWhy : Type 0 where
  pub memory : store_fault store.NoMemory ≡ fault.NoMemory
  pub store : store_fault store.Store ≡ fault.Store
