-- The text that some bytes are.
use Rattle.std.proofs.Common.{◌≡◌, ℕ, List, refl, Some, None, inl, inr}
use Rattle.std.specs.Prelude.{IsUtf8}
use Rattle.std.specs.Str.{is_utf8}
use Rattle.std.proofs.lemmas.Bool.{cases_Bool}
use Rattle.std.proofs.lemmas.Str.{IsUtf8-from_is_utf8, is_utf8-from_IsUtf8}
use Rattle.opc_decide_files.specs.DecidingFiles.{text_of}

pub text_none : (bytes : List ℕ) → (IsUtf8 bytes → ⊥) → None ≡ text_of bytes
text_none bytes h = elim (cases_Bool (is_utf8 bytes)) [
  | inl text ↦ absurd (h (IsUtf8-from_is_utf8 bytes text))
  | inr other ↦ rw other refl
]

pub text_some : (bytes text : List ℕ) → text ≡ bytes → IsUtf8 bytes → Some text ≡ text_of bytes
text_some bytes text e utf8 = rw (e, is_utf8-from_IsUtf8 bytes utf8) refl
