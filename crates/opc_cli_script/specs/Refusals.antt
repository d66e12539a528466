-- Why a script was not run, or not to its end.
use Rattle.std.specs.Prelude.{◌≡◌, ℕ, Bool, true, false, List, Some, Result, Ok, Err}
use Rattle.opc_cli_script.specs.declared.script.ScriptFault.{ScriptFault}
use Rattle.opc_cli_script.specs.declared.script.ScriptFault.TheVariants.{BadLine, NoMemory, Output}
use Rattle.opc_cli_script.specs.Scripts.{bad_line, is_bad}

-- the line with this number is bad, or an allocation failed
abbrev pub IsLineUnread : ℕ → List ℕ → ScriptFault → Type 0
IsLineUnread number line (BadLine found) = (found ≡ number) × (is_bad line ≡ true)
IsLineUnread number line NoMemory = Unit {0}
IsLineUnread number line (Output error) = ⊥

-- the script has its first bad line there, or an allocation failed
abbrev pub IsUnread : List ℕ → ScriptFault → Type 0
IsUnread script (BadLine number) = bad_line script ≡ Some number
IsUnread script NoMemory = Unit {0}
IsUnread script (Output error) = ⊥

-- the output failed
abbrev pub is_output : ScriptFault → Bool
is_output (BadLine number) = false
is_output NoMemory = false
is_output (Output error) = true

-- it ended because the output failed
abbrev pub is_cut_by_output : {A : Type 0} → Result A ScriptFault → Bool
is_cut_by_output (Ok value) = false
is_cut_by_output (Err fault) = is_output fault
