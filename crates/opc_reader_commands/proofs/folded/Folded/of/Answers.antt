use Rattle.std.proofs.Common.{◌≡◌, ℕ, List, ◌++◌, length, map, take, sym, ap, ◌∙◌, subst}
use Rattle.std.specs.Char.{to_ascii_uppercase}
use Rattle.std.specs.Str.{IsAscii}
use Rattle.std.proofs.lemmas.List.{length-map, take_at}
use Rattle.std.proofs.lemmas.Str.Ascii.{IsAscii-map, uppercase_ascii}
use Rattle.opc_reader_commands.proofs.folded.Folded.of.Goals as goal

upper_prefix : (text prefix rest : List ℕ) → prefix ≡ map to_ascii_uppercase text → IsAscii text → IsAscii (take (length text) (prefix ++ rest))
upper_prefix text prefix rest e ascii =
    let count : length prefix ≡ length text = ap length e ∙ length-map text to_ascii_uppercase in
    let upper : IsAscii prefix = subst IsAscii (sym e) (IsAscii-map to_ascii_uppercase text uppercase_ascii ascii) in
    subst IsAscii (sym (take_at prefix rest (length text) count)) upper

pub invariant_of-result : goal.invariant_of-result
invariant_of-result c = (
  c.requires.fits,
  upper_prefix _ _ _
      (c.make_ascii_uppercase.ensures.after
      ∙ ap (map to_ascii_uppercase) (c.copy_from_slice.ensures.after ∙ c.as_bytes.ensures.value)) c.requires.ascii,
)
