-- What bodies mean, case by case.
use Rattle.std.proofs.Common.{◌≡◌, ◌≢◌, ◌∙◌, ℕ, List, refl, sym, ap, Some, None, Ok, Err, inl, inr}
use Rattle.std.specs.Prelude.{IsUtf8}
use Rattle.std.specs.Str.{is_utf8}
use Rattle.std.proofs.lemmas.Bool.{cases_Bool}
use Rattle.std.proofs.lemmas.Str.{IsUtf8-from_is_utf8, is_utf8-from_IsUtf8}
use Rattle.serde_json.specs.Data.{Data, Members, null, boolean, number, string, array, object}
use Rattle.serde_json.specs.Events.{members_len}
use Rattle.serde_json.specs.Find.{as_object}
use Rattle.serde_json.specs.Read.{read}
use Rattle.opc_import.specs.Files.{policy_of}
use Rattle.opc_import.specs.declared.fault.ImportFault.{ImportFault}
use Rattle.opc_import.specs.declared.fault.ImportFault.TheVariants as import
use Rattle.opc_terms.specs.declared.fault.Why.{Why}
use Rattle.opc_policy_members.specs.declared.row.Row.{Row}
use Rattle.opc_http_requests.specs.BodyValues.{rows_in, value_in}
use Rattle.opc_http_requests.specs.Keys.{members_count}
use Rattle.opc_http_requests.specs.declared.refusal.HttpRefusal.TheVariants.{BadRequest, BadRow}
use Rattle.opc_http_requests.specs.declared.refusal.InvalidPart.TheVariants.{Json, Utf8}

some-members : (a b : Members) → Some a ≡ Some b → a ≡ b
some-members a b e = cc

none-some : (a : Members) → Some a ≡ None → ⊥
none-some a e = cc

pub members_count-object : (d : Data) (ms : Members) → Some ms ≡ as_object d → members_len ms ≡ members_count d
members_count-object null ms e = absurd (none-some ms e)
members_count-object (boolean b) ms e = absurd (none-some ms e)
members_count-object (number n) ms e = absurd (none-some ms e)
members_count-object (string s) ms e = absurd (none-some ms e)
members_count-object (array ds) ms e = absurd (none-some ms e)
members_count-object (object other) ms e = ap members_len (some-members ms other e)

-- a body with no value
pub value-none : (bytes : List ℕ) → (IsUtf8 bytes → read bytes ≡ None) → value_in bytes ≡ Err (BadRequest Json)
value-none bytes h = elim (cases_Bool (is_utf8 bytes)) [
  | inl text ↦ rw (text, h (IsUtf8-from_is_utf8 bytes text)) refl
  | inr other ↦ rw other refl
]

-- a body with this value
pub value-read : (bytes : List ℕ) (d : Data) → IsUtf8 bytes → read bytes ≡ Some d → value_in bytes ≡ Ok d
value-read bytes d text e = rw (is_utf8-from_IsUtf8 bytes text, e) refl

-- a policy file that is not a text
pub rows-none : (bytes : List ℕ) → ¬ (IsUtf8 bytes) → rows_in bytes ≡ Err (BadRequest Utf8)
rows-none bytes h = elim (cases_Bool (is_utf8 bytes)) [
  | inl text ↦ absurd (h (IsUtf8-from_is_utf8 bytes text))
  | inr other ↦ rw other refl
]

-- a policy file with these rows
pub rows-read : (bytes : List ℕ) (rows : List Row) → IsUtf8 bytes → policy_of bytes ≡ Ok rows → rows_in bytes ≡ Ok rows
rows-read bytes rows text e = rw (is_utf8-from_IsUtf8 bytes text, e) refl

-- a bad row does not mean that an allocation failed
row-or-memory : (row : ℕ) (why : Why) → import.Row row why ≡ import.NoMemory → ⊥
row-or-memory row why e = cc

-- a policy file with a bad row
pub rows-fault : (bytes : List ℕ) (f : ImportFault) (row : ℕ) (why : Why) → IsUtf8 bytes → f ≡ import.Row row why
    → (f ≢ import.NoMemory → policy_of bytes ≡ Err f)
    → rows_in bytes ≡ Err (BadRow row why)
rows-fault bytes f row why text is h =
    let bad : policy_of bytes ≡ Err (import.Row row why) = h (λ e. row-or-memory row why (sym is ∙ e)) ∙ ap Err is in
    rw (is_utf8-from_IsUtf8 bytes text, bad) refl
