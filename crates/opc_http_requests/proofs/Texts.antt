-- Bytes that are not a text are neither a path nor a name.
use Rattle.std.proofs.Common.{◌≡◌, ◌<◌, ℕ, zero, suc, true, List, [], ◌∷◌, refl, Some, None, Err, inl, inr, lit<, rules, arith}
use Rattle.std.specs.Prelude.{IsUtf8}
use Rattle.std.specs.List.{list_all}
use Rattle.std.specs.Str.{IsAscii}
use Rattle.std.proofs.lemmas.Bool.{cases_Bool}
use Rattle.std.proofs.lemmas.Bool.Decides.{nat_tests}
use Rattle.std.proofs.lemmas.Str.{IsUtf8-from_ascii}
use Rattle.opc_names.specs.Names.{name_fault}
use Rattle.opc_names.specs.declared.rule.NameRule.{NameRule}
use Rattle.opc_names.proofs.Faults.{name_ascii}
use Rattle.opc_import.specs.Fields.{name_of}
use Rattle.opc_http_requests.specs.declared.refusal.HttpRefusal.TheVariants.{NotFound}
use Rattle.opc_http_requests.specs.Paths.{is_path_byte, path_in}

path-byte : (c : ℕ) → is_path_byte c ≡ true → c < 128
path-byte c h = grind (arith, nat_tests, h)

-- the bytes of a path are ASCII
path-ascii : (text : List ℕ) → list_all is_path_byte text ≡ true → IsAscii text
path-ascii [] h i = lit< tt
path-ascii (c ∷ text) h zero = path-byte c (first h)
  where
    first : list_all is_path_byte (c ∷ text) ≡ true → is_path_byte c ≡ true
    first k = search (rules, k)
path-ascii (c ∷ text) h (suc i) = path-ascii text (second h) i
  where
    second : list_all is_path_byte (c ∷ text) ≡ true → list_all is_path_byte text ≡ true
    second k = search (rules, k)

pub no-path : (target : List ℕ) → ¬ (IsUtf8 target) → path_in target ≡ Err NotFound
no-path target bad = elim (cases_Bool (list_all is_path_byte target)) [
  | inl is ↦ absurd (bad (IsUtf8-from_ascii target (path-ascii target is)))
  | inr other ↦ rw other refl
]

pub no-name : (rule : NameRule) (bytes : List ℕ) → ¬ (IsUtf8 bytes) → name_of rule bytes ≡ None
no-name rule bytes bad = go (name_fault rule bytes) refl
  where
    go : (fault : _) → name_fault rule bytes ≡ fault → name_of rule bytes ≡ None
    go None e = absurd (bad (IsUtf8-from_ascii bytes (name_ascii rule bytes e)))
    go (Some fault) e = rw e refl
