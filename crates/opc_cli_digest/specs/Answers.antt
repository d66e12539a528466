-- What `digest` answers, and what it prints.
use Rattle.std.specs.Prelude.{◌≡◌, ◌⊎◌, ℕ, Bool, true, false, List, Option, codes}
use Rattle.std.specs.Io.KnownBytes.{Appends}
use Rattle.std.specs.IoError.{error_kind}
use Rattle.std.specs.declared.io.Error.{Error}
use Rattle.opc_cli_failures.specs.declared.status.Status.{Status}
use Rattle.opc_cli_failures.specs.declared.status.Status.TheVariants.{BadInput, Done, Failed}
use Rattle.opc_cli_failures.specs.Printing.{IsReported}
use Rattle.opc_cli_failures.specs.Statuses.{fault_of_kind}
use Rattle.opc_reader_commands.specs.Stretches.{folded}
use Rattle.opc_cli_digest.specs.Passwords.{IsPassword, IsTyped, digest_line, line_of}

-- the prompt on a terminal before the password is typed
abbrev pub prompt_line : List ℕ
prompt_line = codes "opcmds: type the password and Enter; it is shown as it is typed\n"

-- what is printed if a line is no password
abbrev pub mistake_line : List ℕ
mistake_line =
    codes "error: the password is invalid: it is 1 to 8 of A to Z, 0 to 9, #, $ and @; see opcmds digest --help\n"

module _ {K : Type 0} (shown : K → Option (List ℕ)) (has_failed : K → Bool) where
  -- a text was printed, unless a write failed
  abbrev pub IsSaid : (quiet said : K) → List ℕ → Type 0
  IsSaid quiet said text = has_failed said ≡ false → Appends (shown quiet) (shown said) text

  -- On a terminal, the prompt was printed.
  abbrev pub IsPrompted : (is_terminal : Bool) → (quiet prompted : K) → Type 0
  IsPrompted true quiet prompted = IsSaid quiet prompted prompt_line
  IsPrompted false quiet prompted = prompted ≡ quiet

  -- An error was reported by the fault of its kind.
  pub record IsFailedBy (quiet reported : K) (status : Status) (error : Error) : Type 0 where
    pub status_is : status ≡ Failed
    pub printed : has_failed reported ≡ false
        → IsReported (fault_of_kind (error_kind error)) (shown quiet) (shown reported)

  -- An allocation, the input or the output failed; and that was reported.
  abbrev pub IsFailed : (quiet reported : K) → Status → Type 0
  IsFailed quiet reported status = (error : Error) × IsFailedBy quiet reported status error

  module _ {W : Type 0} (contents : W → Option (List ℕ)) (before written : W) (quiet reported : K) (status : Status)
    where
      -- The digest of a password was printed,
      pub record IsDigested (line : List ℕ) : Type 0 where
        pub password : IsPassword line
        pub text : Appends (contents before) (contents written) (digest_line (folded line))
        pub status_is : status ≡ Done
        pub silent : reported ≡ quiet

      -- or, if the line is no password, what a password is.
      pub record IsLineRefused (line : List ℕ) : Type 0 where
        pub no_password : IsPassword line → ⊥
        pub said : IsSaid quiet reported mistake_line
        pub status_is : status ≡ BadInput
        pub silent : written ≡ before

      abbrev pub IsLineAnswered : (typed : List ℕ) → Type 0
      IsLineAnswered typed =
          IsDigested (line_of typed) ⊎ (IsLineRefused (line_of typed) ⊎ IsFailed quiet reported status)

      -- The line was read and answered; or it was not read, and nothing was written.
      abbrev pub IsAnswered : (left : Option (List ℕ)) → Type 0
      IsAnswered left = ((typed : List ℕ) × IsTyped left typed × IsLineAnswered typed)
          ⊎ (IsFailed quiet reported status × (written ≡ before))

  -- On a terminal, the prompt was printed first.
  pub record IsPromptedAnswer {W : Type 0} (contents : W → Option (List ℕ)) (before written : W) (quiet reported : K)
      (is_terminal : Bool) (left : Option (List ℕ)) (status : Status) : Type 0 where
    pub prompted : K
    pub prompts : IsPrompted is_terminal quiet prompted
    pub answered : IsAnswered contents before written prompted reported status left
    pub kept : has_failed reported ≡ false → has_failed prompted ≡ false
