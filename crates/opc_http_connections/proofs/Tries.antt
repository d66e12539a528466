-- Calls that are tried again.
use Rattle.std.proofs.Common.{◌≡◌, ◌∙◌, ◌+◌, ◌++◌, ℕ, Bool, true, false, List, Option, Some, None, Result, Ok, Err, ap, arith, subst, sym, take}
use Rattle.std.specs.Prelude.{suc}
use Rattle.std.specs.Io.KnownBytes.{Appends, Consumes, Keeps, ReadConsumes, WriteAppends}
use Rattle.std.proofs.KnownBytes.{Keeps-trans}
use Rattle.std.specs.declared.io.Error.{Error}
use Rattle.std.specs.declared.time.Duration.{Duration}
use Rattle.opc_http_connections.specs.Timed.{AreTries, IsTried, IsTry, is_interrupted}

module _ {K C : Type 0} (shows : K → Result Duration Error → Type 0) (limits : C → Duration → Bool → Type 0) (calls : C → Result ℕ Error → C → Type 0)
    (timer : K) (deadline : Option Duration) where
  -- one more, after a signal, by the same clock and deadline
  pub tried_again : (same : K) (due : Option Duration) (n : ℕ) (before mid after : C) (first answer : Result ℕ Error) → same ≡ timer → due ≡ deadline
      → AreTries shows limits calls timer deadline n before first mid → is_interrupted first ≡ true
      → IsTry shows limits calls same due mid answer after → AreTries shows limits calls timer deadline (n + 1) before answer after
  tried_again same due n before mid after first answer is on tries signal try =
      let by = subst (λ d. IsTry shows limits calls same d mid answer after) on try in
      let last = subst (λ k. IsTry shows limits calls k deadline mid answer after) is by in
      let e : suc n ≡ n + 1 = omega arith in
      subst (λ m. AreTries shows limits calls timer deadline m before answer after) e (mid, first, tries, signal, last)

  -- no signal interrupted the last one
  pub tried : (n : ℕ) (before after : C) (answer : Result ℕ Error) → AreTries shows limits calls timer deadline n before answer after
      → is_interrupted answer ≡ false → IsTried shows limits calls timer deadline before answer after
  tried n before after answer tries done = record { interrupted = n; tries = tries; ended = λ signal. cc }

  -- the last one that there may be
  pub tried_to_the_end : (n : ℕ) (before after : C) (answer : Result ℕ Error) → AreTries shows limits calls timer deadline n before answer after
      → n ≡ 1_000_000_000 → IsTried shows limits calls timer deadline before answer after
  tried_to_the_end n before after answer tries all = record { interrupted = n; tries = tries; ended = λ signal. all }

-- bytes that are kept and then taken from
kept_consumes : (before mid after : Option (List ℕ)) (given : List ℕ) → Keeps before mid → Consumes mid after given → Consumes before after given
kept_consumes None mid after given k c = tt
kept_consumes (Some xs) None after given k c = absurd k
kept_consumes (Some xs) (Some ys) None given k c = absurd c
kept_consumes (Some xs) (Some ys) (Some zs) given k c = sym k ∙ c

kept_appends : (before mid after : Option (List ℕ)) (put : List ℕ) → Keeps before mid → Appends mid after put → Appends before after put
kept_appends None mid after put k c = tt
kept_appends (Some xs) None after put k c = absurd k
kept_appends (Some xs) (Some ys) None put k c = absurd c
kept_appends (Some xs) (Some ys) (Some zs) put k c = c ∙ ap (λ l. l ++ put) k

read_kept : (before mid after : Option (List ℕ)) (answer : Result ℕ Error) (buf : List ℕ) → Keeps before mid
    → ReadConsumes mid after answer buf → ReadConsumes before after answer buf
read_kept before mid after (Ok n) buf k r = (kept_consumes before mid after (take n buf) k r.0, r.1)
read_kept before mid after (Err e) buf k r = Keeps-trans before mid after k r

written_kept : (before mid after : Option (List ℕ)) (answer : Result ℕ Error) (put : List ℕ) → Keeps before mid
    → WriteAppends mid after answer put → WriteAppends before after answer put
written_kept before mid after (Ok n) put k r = kept_appends before mid after (take n put) k r
written_kept before mid after (Err e) put k r = Keeps-trans before mid after k r

-- what was interrupted gave nothing and took nothing
pub read_again : (before mid after : Option (List ℕ)) (first answer : Result ℕ Error) (one two : List ℕ) → ReadConsumes before mid first one
    → is_interrupted first ≡ true → ReadConsumes mid after answer two → ReadConsumes before after answer two
read_again before mid after (Ok n) answer one two a signal b = cc
read_again before mid after (Err e) answer one two a signal b = read_kept before mid after answer two a b

pub written_again : (before mid after : Option (List ℕ)) (first answer : Result ℕ Error) (put : List ℕ) → WriteAppends before mid first put
    → is_interrupted first ≡ true → WriteAppends mid after answer put → WriteAppends before after answer put
written_again before mid after (Ok n) answer put a signal b = cc
written_again before mid after (Err e) answer put a signal b = written_kept before mid after answer put a b
