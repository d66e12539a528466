-- Policy files, as the bytes of a reader.
use Rattle.std.specs.Prelude.{◌≡◌, ◌≤◌, ◌<◌, ◌⊎◌, ℕ, List, Option, Ok, Err, IfSome, IsUtf8, length}
use Rattle.opc_terms.specs.declared.fault.Fault.{Fault}
use Rattle.opc_terms.specs.declared.fault.Fault.TheVariants.{RowFault}
use Rattle.opc_terms.specs.declared.fault.Why.TheVariants.{Header}
use Rattle.opc_policy_members.specs.declared.row.Row.{Row}
use Rattle.opc_import.specs.declared.fault.ImportFault.{ImportFault}
use Rattle.opc_import.specs.Faults.{as_fault}
use Rattle.opc_import.specs.Files.{policy_of}
use Rattle.opc_check.specs.Unread.{policy_limit}
use Rattle.opc_cli_failures.specs.Statuses.{IsFailure}

-- The bytes are a policy file, and have these rows.
pub record IsPolicyFile (bytes : List ℕ) (rows : List Row) : Type 0 where
  pub fits : length bytes ≤ policy_limit
  pub utf8 : IsUtf8 bytes
  pub reads : policy_of bytes ≡ Ok rows

-- The bytes are a text, but not a policy file, for this fault: the header's, or that of the first bad row.
pub record IsBadFile (bytes : List ℕ) (fault : Fault) : Type 0 where
  pub fits : length bytes ≤ policy_limit
  pub utf8 : IsUtf8 bytes
  pub bad : ImportFault
  pub reads : policy_of bytes ≡ Err bad
  pub reported : fault ≡ as_fault bad

-- too many, or not UTF-8
abbrev pub IsNoText : List ℕ → Type 0
IsNoText bytes = (policy_limit < length bytes) ⊎ ((length bytes ≤ policy_limit) × (IsUtf8 bytes → ⊥))

-- The bytes are not a policy file, for this fault. If they are not a text, that is reported as a bad header.
abbrev pub IsNoPolicyFile : List ℕ → Fault → Type 0
IsNoPolicyFile bytes fault = (IsNoText bytes × (fault ≡ RowFault 0 Header)) ⊎ IsBadFile bytes fault

-- what a reader had left, if that is known
abbrev pub AreLeft : Option (List ℕ) → List ℕ → Type 0
AreLeft left bytes = IfSome left (λ all. bytes ≡ all)

-- What a reader had left is the policy file of these rows.
pub record AreRead (left : Option (List ℕ)) (rows : List Row) : Type 0 where
  pub bytes : List ℕ
  pub whole : AreLeft left bytes
  pub file : IsPolicyFile bytes rows

-- These bytes are what a reader had left, and they are the policy file of these rows.
pub record AreReadFrom (left : Option (List ℕ)) (bytes : List ℕ) (rows : List Row) : Type 0 where
  pub whole : AreLeft left bytes
  pub file : IsPolicyFile bytes rows

-- what a reader had left is not a policy file
pub record IsRefused (left : Option (List ℕ)) (fault : Fault) : Type 0 where
  pub bytes : List ℕ
  pub whole : AreLeft left bytes
  pub no_file : IsNoPolicyFile bytes fault

-- No rows were read: an allocation or the reader failed, or it gave no valid policy file.
abbrev pub IsUnread : Option (List ℕ) → Fault → Type 0
IsUnread left fault = IsFailure fault ⊎ IsRefused left fault
