-- Bytes that are copied into zeros.
use Rattle.std.proofs.Common.{ℕ, ◌≤◌, List, ◌++◌, length, drop, replicate, refl, ◌∙◌, arith, length-append, length-drop}
use Rattle.std.proofs.lemmas.List.{drop_at, drop-replicate, length-replicate}
use Rattle.opc_names.specs.Padded.{IsPadded}

pub copied_padded : (n : ℕ) (bytes : List ℕ) → length bytes ≤ n → IsPadded n (length bytes) (bytes ++ drop (length bytes) (replicate n 0))
copied_padded n bytes fits = record {
  fits = fits;
  full = omega (
    arith,
    length-append bytes (drop (length bytes) (replicate n 0)),
    length-drop {A = ℕ} (length bytes) (replicate n 0),
    length-replicate {A = ℕ} n 0,
  );
  zeros = drop_at bytes _ (length bytes) refl ∙ drop-replicate (length bytes) n 0;
}
