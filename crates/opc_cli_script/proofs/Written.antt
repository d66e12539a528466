-- What was written, one text after another.
use Rattle.std.proofs.Common.{◌≡◌, ◌≤◌, ◌+◌, ◌-◌, ◌++◌, ℕ, List, [], Option, Some, None, length, take, drop, sym, ap, subst, ◌∙◌, arith}
use Rattle.std.specs.Io.KnownBytes.{Appends}
use Rattle.std.proofs.lemmas.List.{append_assoc, append-nil, length-drop, take_all}
use Rattle.std.proofs.Math.Seq.{take-add}

pub appends_none : (a : Option (List ℕ)) → Appends a a []
appends_none None = tt
appends_none (Some xs) = sym (append-nil xs)

pub appends_more : (a b c : Option (List ℕ)) (x y : List ℕ) → Appends a b x → Appends b c y → Appends a c (x ++ y)
appends_more None b c x y h k = tt
appends_more (Some xs) None c x y h k = absurd h
appends_more (Some xs) (Some ys) None x y h k = absurd k
appends_more (Some xs) (Some ys) (Some zs) x y h k = k ∙ ap (λ t. t ++ y) h ∙ append_assoc xs x y

-- a prefix of some bytes, and then some of the rest
module _ (bytes : List ℕ) (done count : ℕ) (low : done ≤ length bytes) (bound : count ≤ length (take (length bytes - done) (drop done bytes))) where
  rest_is : take (length bytes - done) (drop done bytes) ≡ drop done bytes
  rest_is = take_all (length bytes - done) (drop done bytes) (omega (arith, length-drop done bytes))

  pub next_within : done + count ≤ length bytes
  next_within =
      let short : count ≤ length (drop done bytes) = subst (λ xs. count ≤ length xs) rest_is bound in
      omega (arith, short, length-drop done bytes, low)

  pub next_written : (a b c : Option (List ℕ)) → Appends a b (take done bytes)
      → Appends b c (take count (take (length bytes - done) (drop done bytes)))
      → Appends a c (take (done + count) bytes)
  next_written a b c h k = subst (Appends a c) (sym (take-add done count bytes))
      (appends_more a b c (take done bytes) (take count (drop done bytes)) h
      (subst (λ xs. Appends b c (take count xs)) rest_is k))
