-- The verbs, in full and by their one abbreviation. FORCE, LOGON and LOGOFF have none.
use Rattle.std.specs.Prelude.{ℕ, List, [], ◌∷◌, codes}
use Rattle.opc_reader.specs.declared.verb.Verb.{Verb}
use Rattle.opc_reader.specs.declared.verb.Verb.TheVariants.{
  Display,
  Cancel,
  Force,
  Start,
  Stop,
  Modify,
  Reply,
  Vary,
  Mount,
  Unload,
  Swap,
  Reset,
  Send,
  Log,
  Monitor,
  StopMonitor,
  Halt,
  Logon,
  Logoff,
}

abbrev pub verbs : List (List ℕ × Verb)
verbs =
    (codes "DISPLAY", Display) ∷ (codes "D", Display)
    ∷ (codes "CANCEL", Cancel) ∷ (codes "C", Cancel)
    ∷ (codes "FORCE", Force)
    ∷ (codes "START", Start) ∷ (codes "S", Start)
    ∷ (codes "STOP", Stop) ∷ (codes "P", Stop)
    ∷ (codes "MODIFY", Modify) ∷ (codes "F", Modify)
    ∷ (codes "REPLY", Reply) ∷ (codes "R", Reply)
    ∷ (codes "VARY", Vary) ∷ (codes "V", Vary)
    ∷ (codes "MOUNT", Mount) ∷ (codes "M", Mount)
    ∷ (codes "UNLOAD", Unload) ∷ (codes "U", Unload)
    ∷ (codes "SWAP", Swap) ∷ (codes "G", Swap)
    ∷ (codes "RESET", Reset) ∷ (codes "E", Reset)
    ∷ (codes "SEND", Send) ∷ (codes "SE", Send)
    ∷ (codes "LOG", Log) ∷ (codes "L", Log)
    ∷ (codes "MONITOR", Monitor) ∷ (codes "MN", Monitor)
    ∷ (codes "STOPMN", StopMonitor) ∷ (codes "PM", StopMonitor)
    ∷ (codes "HALT", Halt) ∷ (codes "Z", Halt)
    ∷ (codes "LOGON", Logon) ∷ (codes "LOGOFF", Logoff) ∷ []
