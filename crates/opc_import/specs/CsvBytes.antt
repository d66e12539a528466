-- The bytes of comma-separated text.
use Rattle.csv.specs.declared.parser.Action.{Action}
use Rattle.csv.specs.declared.parser.Action.TheVariants as action
use Rattle.csv.specs.declared.parser.State.{State}
use Rattle.csv.specs.declared.parser.State.TheVariants as state
use Rattle.opc_import.specs.declared.csv_bytes.ByteEnd.{ByteEnd}
use Rattle.opc_import.specs.declared.csv_bytes.ByteEnd.TheVariants as end
use Rattle.opc_import.specs.declared.csv_bytes.BytePlace.{BytePlace}
use Rattle.opc_import.specs.declared.csv_bytes.BytePlace.TheVariants as place

-- the state in which `csv` reads a byte at a place
abbrev pub state_of : BytePlace → State
state_of place.RecordStart = state.StartRecord
state_of place.AfterReturn = state.AfterCr
state_of place.FieldStart = state.StartField
state_of place.Plain = state.InField
state_of place.Quoted = state.InQuoted
state_of place.AfterQuote = state.AfterQuote

-- what ends with a byte, by what `csv` does with it
abbrev pub end_of : Action → ByteEnd
end_of action.Skip = end.Nothing
end_of action.Copy = end.Nothing
end_of action.EndField = end.Field
end_of action.EndRecord = end.Record
