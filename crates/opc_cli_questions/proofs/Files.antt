-- A policy file of which at most one byte past the limit is read.
use Rattle.std.proofs.Common.{Err, ◌≡◌, ◌≤◌, ◌<◌, ◌+◌, ◌⊎◌, ℕ, List, Option, Some, None, IfSome, inl, inr, length, take, subst, ◌∙◌, refl, arith}
use Rattle.std.specs.Prelude.{IsUtf8}
use Rattle.std.proofs.lemmas.List.{length-take, take_all}
use Rattle.opc_terms.specs.declared.fault.Fault.{Fault}
use Rattle.opc_policy_members.specs.declared.row.Row.{Row}
use Rattle.opc_state.specs.State.{empty}
use Rattle.opc_machine.specs.Bootstrap.{bootstrapped}
use Rattle.opc_cli_failures.specs.Statuses.{IsFailure}
use Rattle.opc_cli_questions.specs.PolicyFiles.{AreRead, AreReadFrom, IsBadFile, IsNoPolicyFile, IsNoText, IsPolicyFile, IsRefused, IsUnread}
use Rattle.opc_check.specs.Unread.{policy_limit}

whole : (n : ℕ) (all : List ℕ) → length (take (n + 1) all) ≤ n → take (n + 1) all ≡ all
whole n all h = take_all (n + 1) all (omega (arith, h, length-take (n + 1) all))

longer : (n : ℕ) (all : List ℕ) → n < length (take (n + 1) all) → n < length all
longer n all h = omega (arith, h, length-take (n + 1) all)

module _ (bytes all : List ℕ) (are : bytes ≡ take (policy_limit + 1) all) where
  same : length bytes ≤ policy_limit → bytes ≡ all
  same fits = are ∙ whole policy_limit all (subst (λ b. length b ≤ policy_limit) are fits)

  no_text : IsNoText bytes → IsNoText all
  no_text (inl long) = inl (longer policy_limit all (subst (λ b. policy_limit < length b) are long))
  no_text (inr short) = inr (subst (λ b. (length b ≤ policy_limit) × (IsUtf8 b → ⊥)) (same short.0) short)

  no_file : (fault : Fault) → IsNoPolicyFile bytes fault → IsNoPolicyFile all fault
  no_file fault (inl reported) = inl (no_text reported.0, reported.1)
  no_file fault (inr bad) = inr (subst (λ b. IsBadFile b fault) (same bad.fits) bad)

-- at most one byte past the limit of what was left
abbrev pub AreFirst : Option (List ℕ) → List ℕ → Type 0
AreFirst left bytes = IfSome left (λ all. bytes ≡ take (policy_limit + 1) all)

pub are_read : (left : Option (List ℕ)) (bytes : List ℕ) (rows : List Row) → AreFirst left bytes → IsPolicyFile bytes rows → AreRead left rows
are_read None bytes rows are file = record { bytes = bytes; whole = tt; file = file }
are_read (Some all) bytes rows are file = record { bytes = bytes; whole = same bytes all are file.fits; file = file }

pub are_read_from : (left : Option (List ℕ)) (bytes : List ℕ) (rows : List Row) → AreFirst left bytes → IsPolicyFile bytes rows
    → AreReadFrom left bytes rows
are_read_from None bytes rows are file = record { whole = tt; file = file }
are_read_from (Some all) bytes rows are file = record { whole = same bytes all are file.fits; file = file }

refused : (left : Option (List ℕ)) (bytes : List ℕ) (fault : Fault) → AreFirst left bytes → IsNoPolicyFile bytes fault → IsRefused left fault
refused None bytes fault are bad = record { bytes = bytes; whole = tt; no_file = bad }
refused (Some all) bytes fault are bad = record { bytes = all; whole = refl; no_file = no_file bytes all are fault bad }

pub unread : (left : Option (List ℕ)) (bytes : List ℕ) (fault : Fault) → AreFirst left bytes → IsFailure fault
    ⊎ IsNoPolicyFile bytes fault → IsUnread left fault
unread left bytes fault are (inl failed) = inl failed
unread left bytes fault are (inr bad) = inr (refused left bytes fault are bad)

-- a file that was opened has left what its path holds, if that is known
abbrev pub HasAll : (held left : Option (List ℕ)) → Type 0
HasAll held left = IfSome held (λ bytes. left ≡ Some bytes)

pub opened_is_read : (held left : Option (List ℕ)) (rows : List Row) → HasAll held left → AreRead left rows → AreRead held rows
opened_is_read None left rows has read = record { bytes = read.bytes; whole = tt; file = read.file }
opened_is_read (Some all) left rows has read = subst (λ l. AreRead l rows) has read

pub opened_is_read_from : (held left : Option (List ℕ)) (bytes : List ℕ) (rows : List Row) → HasAll held left → AreReadFrom left bytes rows
    → AreReadFrom held bytes rows
opened_is_read_from None left bytes rows has read = record { whole = tt; file = read.file }
opened_is_read_from (Some all) left bytes rows has read = subst (λ l. AreReadFrom l bytes rows) has read

pub opened_is_unread : (held left : Option (List ℕ)) (fault : Fault) → HasAll held left → IsUnread left fault → IsUnread held fault
opened_is_unread held left fault has (inl failed) = inl failed
opened_is_unread None left fault has (inr refused) = inr (record { bytes = refused.bytes; whole = tt; no_file = refused.no_file })
opened_is_unread (Some all) left fault has (inr refused) = inr (subst (λ l. IsRefused l fault) has refused)

-- Rows that were read were refused, or there was no memory.
pub not_made : (left : Option (List ℕ)) (rows : List Row) (fault : Fault) → AreRead left rows
    → IsFailure fault ⊎ (bootstrapped rows empty ≡ Err fault)
    → IsUnread left fault ⊎ ((read : List Row) × AreRead left read × (bootstrapped read empty ≡ Err fault))
not_made left rows fault read (inl failed) = inl (inl failed)
not_made left rows fault read (inr refused) = inr (rows, read, refused)
