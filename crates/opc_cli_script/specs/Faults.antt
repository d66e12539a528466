-- Why no further lines are answered.
use Rattle.std.specs.Prelude.{◌≡◌, Bool, true, false, Option, None, Result, Ok, Err}
use Rattle.std.specs.Option.{is_some}
use Rattle.opc_cli_script.specs.declared.turn.Turn.{Turn}
use Rattle.opc_cli_script.specs.declared.fault.NowFault.{NowFault}
use Rattle.opc_cli_script.specs.declared.fault.NowFault.TheVariants.{Input, Clock, Output, NoMemory}

-- no line was read
abbrev pub is_input : NowFault → Bool
is_input (Input error) = true
is_input fault = false

-- the clock was not read
abbrev pub is_clock : NowFault → Bool
is_clock (Clock error) = true
is_clock fault = false

-- the output failed
abbrev pub is_output : NowFault → Bool
is_output (Output error) = true
is_output fault = false

-- it ended because the output failed
abbrev pub is_cut_by_output : {A : Type 0} → Result A NowFault → Bool
is_cut_by_output (Ok value) = false
is_cut_by_output (Err fault) = is_output fault

-- When each applies: a line that could not be read or timestamped was not handled, and the output failed for one that
-- was.
abbrev pub IsFaultOf : NowFault → Option Turn → Type 0
IsFaultOf (Input error) turn = turn ≡ None
IsFaultOf (Clock error) turn = turn ≡ None
IsFaultOf (Output error) turn = is_some turn ≡ true
IsFaultOf NoMemory turn = Unit {0}
