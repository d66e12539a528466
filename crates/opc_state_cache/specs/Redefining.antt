-- Which edits are of profiles.
use Rattle.std.specs.Prelude.{Bool, true, false}
use Rattle.opc_state.specs.declared.change.Edit.{Edit}
use Rattle.opc_state.specs.declared.change.Edit.TheVariants as edit

-- the edits of profiles, and an import
abbrev pub redefines : Edit → Bool
redefines (edit.PutProfile profile) = true
redefines (edit.RemoveProfile class pattern) = true
redefines (edit.PutBatch batch) = true
redefines other = false
