-- What was written, one write after another.
use Rattle.std.proofs.Common.{◌≡◌, ◌≤◌, ◌+◌, ◌-◌, ◌++◌, ℕ, List, [], Option, Some, None, length, take, drop, sym, ap, subst, ◌∙◌, arith}
use Rattle.std.specs.Io.KnownBytes.{Appends, Keeps}
use Rattle.std.proofs.lemmas.List.{append_assoc, append-nil, length-drop, take_all}
use Rattle.std.proofs.Math.Seq.{take-add}

pub appends-none : (a : Option (List ℕ)) → Appends a a []
appends-none None = tt
appends-none (Some xs) = sym (append-nil xs)

-- a write that took nothing
pub keeps-nothing : (a b : Option (List ℕ)) → Appends a b [] → Keeps a b
keeps-nothing None b h = tt
keeps-nothing (Some xs) None h = absurd h
keeps-nothing (Some xs) (Some ys) h = h ∙ append-nil xs

pub appends-kept : (a b : Option (List ℕ)) → Keeps a b → Appends a b []
appends-kept None b h = tt
appends-kept (Some xs) None h = absurd h
appends-kept (Some xs) (Some ys) h = h ∙ sym (append-nil xs)

pub appends-more : (a b c : Option (List ℕ)) (x y : List ℕ) → Appends a b x → Appends b c y → Appends a c (x ++ y)
appends-more None b c x y h k = tt
appends-more (Some xs) None c x y h k = absurd h
appends-more (Some xs) (Some ys) None x y h k = absurd k
appends-more (Some xs) (Some ys) (Some zs) x y h k = k ∙ ap (λ t. t ++ y) h ∙ append_assoc xs x y

-- bytes that stay as they are add nothing
pub appends-then-kept : (a b c : Option (List ℕ)) (x : List ℕ) → Appends a b x → Keeps b c → Appends a c x
appends-then-kept None b c x h k = tt
appends-then-kept (Some xs) None c x h k = absurd h
appends-then-kept (Some xs) (Some ys) None x h k = absurd k
appends-then-kept (Some xs) (Some ys) (Some zs) x h k = k ∙ h

-- a prefix of some bytes, and then some of the rest
module _ (bytes : List ℕ) (done count : ℕ) (low : done ≤ length bytes) (bound : count ≤ length (take (length bytes - done) (drop done bytes))) where
  rest-is : take (length bytes - done) (drop done bytes) ≡ drop done bytes
  rest-is = take_all (length bytes - done) (drop done bytes) (omega (arith, length-drop done bytes))

  pub next-within : done + count ≤ length bytes
  next-within =
      let short : count ≤ length (drop done bytes) = subst (λ xs. count ≤ length xs) rest-is bound in
      omega (arith, short, length-drop done bytes, low)

  pub next-written : (a b c : Option (List ℕ)) → Appends a b (take done bytes)
      → Appends b c (take count (take (length bytes - done) (drop done bytes)))
      → Appends a c (take (done + count) bytes)
  next-written a b c h k = subst (Appends a c) (sym (take-add done count bytes))
      (appends-more a b c (take done bytes) (take count (drop done bytes)) h
      (subst (λ xs. Appends b c (take count xs)) rest-is k))
