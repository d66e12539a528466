-- The numbers of a row and of its line are not floats.
use Rattle.std.proofs.Common.{◌≡◌, ℕ, List, Option, Some, None, false, refl}
use Rattle.serde_json.specs.Written.{has_float}
use Rattle.opc_check_notes.specs.declared.note.Note.{Note}
use Rattle.opc_check_notes.specs.Texts.{note_value, number_value}

number_so : (n : Option ℕ) → has_float (number_value n) ≡ false
number_so None = refl
number_so (Some n) = refl

pub note_so : (line : Option ℕ) (fields : Option (List ℕ)) (note : Note) → has_float (note_value line fields note) ≡ false
note_so line None note = rw (number_so line, number_so note.row) refl
note_so line (Some fields) note = rw (number_so line, number_so note.row) refl
