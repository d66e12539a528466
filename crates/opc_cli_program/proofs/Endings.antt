-- The result of what the program wrote.
use Rattle.std.proofs.Common.{◌≡◌, Bool, true, if◌then◌else◌, Result, Ok, Err}
use Rattle.std.specs.Prelude.{IsErr, IsOk, MatchResult, is_err}
use Rattle.opc_cli_failures.specs.declared.status.Status.{Status}
use Rattle.opc_cli_failures.specs.declared.failure.Failure.{Failure}

-- it succeeds if and only if all was written
pub as_written : {A E : Type 0} (whole cut : Type 0) (wrote : Result A E) (end : Result Status Failure) → MatchResult wrote (λ _. IsOk end) (λ _. IsErr end)
    → MatchResult wrote (λ _. whole) (λ _. cut) → MatchResult end (λ _. whole) (λ _. cut)
as_written whole cut (Ok a) (Ok status) same h = h
as_written whole cut (Ok a) (Err failure) same h = cc
as_written whole cut (Err e) (Ok status) same h = cc
as_written whole cut (Err e) (Err failure) same h = h

-- it fails if and only if a write did
pub as_failed : {A E : Type 0} (wrote : Result A E) (end : Result Status Failure) → MatchResult wrote (λ _. IsOk end) (λ _. IsErr end)
    → (before after : Bool) → after ≡ (if is_err wrote then true else before) → after ≡ (if is_err end then true else before)
as_failed (Ok a) (Ok status) same before after h = h
as_failed (Ok a) (Err failure) same before after h = cc
as_failed (Err e) (Ok status) same before after h = cc
as_failed (Err e) (Err failure) same before after h = h
