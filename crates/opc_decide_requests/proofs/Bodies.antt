-- The value that a body is, or that it is none.
use Rattle.std.proofs.Common.{◌≡◌, ℕ, List, refl, Some, None, inl, inr}
use Rattle.std.specs.Prelude.{IsUtf8}
use Rattle.std.specs.Str.{is_utf8}
use Rattle.std.proofs.lemmas.Bool.{cases_Bool}
use Rattle.std.proofs.lemmas.Str.{IsUtf8-from_is_utf8, is_utf8-from_IsUtf8}
use Rattle.serde_json.specs.Data.{Data}
use Rattle.serde_json.specs.Read.{read}
use Rattle.opc_decide_requests.specs.Requests.{value_of}

pub value_none : (bytes : List ℕ) → (IsUtf8 bytes → read bytes ≡ None) → None ≡ value_of bytes
value_none bytes h = elim (cases_Bool (is_utf8 bytes)) [
  | inl text ↦ rw (text, h (IsUtf8-from_is_utf8 bytes text)) refl
  | inr other ↦ rw other refl
]

pub value_read : (bytes : List ℕ) (d : Data) → IsUtf8 bytes → read bytes ≡ Some d → Some d ≡ value_of bytes
value_read bytes d text e = rw (is_utf8-from_IsUtf8 bytes text, e) refl
