-- A body that is read has at most 65,536 bytes.
use Rattle.std.proofs.Common.{◌≡◌, ◌≤◌, ℕ, List, [], ◌∷◌, codes, Some, None, Ok, Err, nat_le, inl, inr, arith}
use Rattle.std.specs.Prelude.{Option, Result}
use Rattle.std.proofs.lemmas.Bool.{cases_Bool}
use Rattle.std.proofs.lemmas.Bool.Decides.{nat_tests}
use Rattle.opc_http_requests.specs.Framing.{FieldLine, body_length, body_limit, length_by, length_in, length_with, number_in, only, values_of}
use Rattle.opc_http_requests.specs.declared.refusal.HttpRefusal.{HttpRefusal}

no-value : (why : HttpRefusal) (n : ℕ) → Path (Result ℕ HttpRefusal) (Err why) (Ok n) → ⊥
no-value why n e = cc

same : (m n : ℕ) → Path (Result ℕ HttpRefusal) (Ok m) (Ok n) → m ≡ n
same m n e = cc

few-by : (read : Option ℕ) (n : ℕ) → length_by read ≡ Ok n → n ≤ 65536
few-by None n e = absurd (no-value _ n e)
few-by (Some m) n e = elim (cases_Bool (nat_le m body_limit)) [
  | inl few ↦ (let is : m ≡ n = same m n (rw few at e) in let low : m ≤ 65536 = grind (arith, nat_tests, few) in omega (arith, is, low))
  | inr many ↦ absurd (no-value _ n (rw many at e))
]

few-in : (found : Result (Option (List ℕ)) HttpRefusal) (n : ℕ) → length_in found ≡ Ok n → n ≤ 65536
few-in (Err why) n e = absurd (no-value why n e)
few-in (Ok None) n e = let is : 0 ≡ n = same 0 n e in omega (arith, is)
few-in (Ok (Some value)) n e = few-by (number_in 9 value) n e

few-with : (codings : List (List ℕ)) (found : Result ℕ HttpRefusal) (n : ℕ) → (found ≡ Ok n → n ≤ 65536) → length_with codings found ≡ Ok n → n ≤ 65536
few-with [] found n h e = h e
few-with (coding ∷ rest) found n h e = absurd (no-value _ n e)

pub few-bytes : (fields : List FieldLine) (n : ℕ) → body_length fields ≡ Ok n → n ≤ 65536
few-bytes fields n e =
    let only_length = only (values_of (codes "content-length") fields) in
    few-with (values_of (codes "transfer-encoding") fields) (length_in only_length) n (few-in only_length n) e
