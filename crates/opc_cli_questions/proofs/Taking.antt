-- Bytes that are taken, one read after another.
use Rattle.std.proofs.Common.{◌≡◌, ◌≤◌, ◌∙◌, ◌++◌, ℕ, List, Option, Some, None, IfSome, length, take, sym, ap, refl, subst}
use Rattle.std.specs.Prelude.{Result, Ok, Err}
use Rattle.std.specs.Io.KnownBytes.{Consumes, IsAtEnd, Keeps, ReadConsumes}
use Rattle.std.proofs.lemmas.List.{append-nil, take_all, take_at}

-- a read after others that gave nothing
pub after_kept : {E : Type 0} (a b c : Option (List ℕ)) (result : Result ℕ E) (buf : List ℕ) → Keeps a b
    → ReadConsumes b c result buf → ReadConsumes a c result buf
after_kept None b c (Ok n) buf kept read = (tt, read.1)
after_kept None b c (Err e) buf kept read = tt
after_kept (Some xs) None c result buf kept read = absurd kept
after_kept (Some xs) (Some ys) c result buf kept read = subst (λ zs. ReadConsumes (Some zs) c result buf) kept read

pub kept_again : (a b c : Option (List ℕ)) → Keeps a b → Keeps b c → Keeps a c
kept_again None b c one two = tt
kept_again (Some xs) None c one two = absurd one
kept_again (Some xs) (Some ys) None one two = absurd two
kept_again (Some xs) (Some ys) (Some zs) one two = two ∙ one

pub kept_at_first : (a : Option (List ℕ)) → Keeps a a
kept_at_first None = tt
kept_at_first (Some xs) = refl

-- all that there was, if there were no more than this many
pub whole_read : (most : ℕ) (a b : Option (List ℕ)) (bytes : List ℕ) → Consumes a b bytes → IsAtEnd b
    → length bytes ≤ most → IfSome a (λ all. bytes ≡ take most all)
whole_read most None b bytes read end fits = tt
whole_read most (Some all) None bytes read end fits = absurd read
whole_read most (Some all) (Some rest) bytes read end fits =
    let is : all ≡ bytes = read ∙ ap (λ (t : List ℕ). bytes ++ t) end ∙ append-nil bytes in
    sym (ap (take most) is ∙ take_all most bytes fits)

-- as many as there may be
pub full_read : (most : ℕ) (a b : Option (List ℕ)) (bytes : List ℕ) → Consumes a b bytes → length bytes ≡ most → IfSome a (λ all. bytes ≡ take most all)
full_read most None b bytes read full = tt
full_read most (Some all) None bytes read full = absurd read
full_read most (Some all) (Some rest) bytes read full = sym (ap (take most) read ∙ take_at bytes rest most full)
