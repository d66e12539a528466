-- What each fault is called, and what it names.
use Rattle.std.proofs.Common.{◌≡◌, ◌++◌, codes, decimal, refl, ap}
use Rattle.opc_terms.specs.declared.fault.Fault.TheVariants as fault
use Rattle.opc_terms.specs.declared.fault.Why.{Why}
use Rattle.opc_terms.specs.declared.fault.Why.TheVariants as why
use Rattle.opc_terms.specs.Faults.{why_text}
use Rattle.opc_machine_laws.specs.FaultTextLaws.{AbortsSayWhy, FaultsAreNamedSo, why_word}

why_is : (w : Why) → why_text w ≡ why_word w
why_is why.Header = refl
why_is why.Columns = refl
why_is why.Many = refl
why_is why.Kind = refl
why_is why.Class = refl
why_is why.Name = refl
why_is why.Id = refl
why_is why.Value = refl
why_is why.Owner = refl
why_is why.Flags = refl
why_is why.Digest = refl
why_is why.When = refl
why_is why.Restricted = refl

pub named_so : FaultsAreNamedSo
named_so fault.Empty = refl
named_so fault.TooLong = refl
named_so (fault.BadCharacter at) = refl
named_so (fault.UnknownVerb from to) = refl
named_so (fault.BadOperand from to) = refl
named_so (fault.OpenQuote at) = refl
named_so fault.NoConsole = refl
named_so fault.ConsoleOffline = refl
named_so fault.LogonRequired = refl
named_so fault.Revoked = refl
named_so fault.BadLogon = refl
named_so (fault.AlreadyOn user) = refl
named_so fault.NotOn = refl
named_so fault.DeniedConsole = refl
named_so fault.DeniedProfile = refl
named_so fault.DeniedGroup = refl
named_so fault.NoUnit = refl
named_so fault.NonCancelable = refl
named_so fault.Cancelable = refl
named_so fault.UnitExists = refl
named_so fault.NoDevice = refl
named_so fault.DeviceState = refl
named_so fault.DeviceInUse = refl
named_so fault.NoVolume = refl
named_so fault.NoReply = refl
named_so fault.NoTarget = refl
named_so fault.Halted = refl
named_so fault.LastMaster = refl
named_so fault.WrongKind = refl
named_so fault.ReplyExists = refl
named_so fault.NotSpecial = refl
named_so fault.NotOwner = refl
named_so (fault.Exists subject) = refl
named_so (fault.Missing subject) = refl
named_so (fault.InUse subject) = refl
named_so fault.BatchChanged = refl
named_so fault.NotEmpty = refl
named_so (fault.RowFault row why) = ap (λ text. codes "RowFault " ++ decimal row ++ codes " " ++ text) (why_is why)
named_so fault.NoMemory = refl
named_so fault.Store = refl
named_so (fault.NotOurs version) = refl

pub aborts_say : AbortsSayWhy
aborts_say = record { memory = refl; store = refl }
