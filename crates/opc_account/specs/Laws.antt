-- What a query of the account asks for, for those who write one.
use Rattle.std.specs.Prelude.{
  ◌≡◌,
  ◌≤◌,
  ◌<◌,
  ◌+◌,
  ◌↔◌,
  ℕ,
  Bool,
  true,
  false,
  List,
  [],
  ◌∷◌,
  IfSome,
  codes,
  length,
}
use Rattle.std.specs.Borrow.{Bor}
use Rattle.opc_state.specs.declared.account.AccountRow.{AccountRow}
use Rattle.opc_account.specs.Codes.{is_among}
use Rattle.opc_account.specs.Filters.{meets}
use Rattle.opc_account.specs.Queries.{first_number}
use Rattle.opc_account.specs.declared.filter.Filter.{Filter}
use Rattle.opc_account.specs.declared.query.First.TheVariants.{Last, Number}

-- A row meets a filter if it is not before the one time nor after the other, at which rows still count, of this very
-- user, at this very console, and of one of these codes.
pub record IsMet (f : Filter) (row : AccountRow) : Type 0 where
  pub since : IfSome f.since (λ first. first ≤ row.moment)
  pub until : IfSome f.until (λ last. row.moment ≤ last)
  pub user : IfSome f.user (λ (wanted : Bor (List ℕ)). row.user ≡ wanted.now)
  pub console : IfSome f.console (λ (wanted : Bor (List ℕ)). row.console ≡ wanted.now)
  pub code : IfSome f.codes (λ (wanted : Bor (List ℕ)). is_among wanted.now row.code ≡ true)

abbrev pub FiltersMeanSo : Type 0
FiltersMeanSo = (f : Filter) (row : AccountRow) → (meets f row ≡ true) ↔ IsMet f row

-- Worked examples of what is among the requested codes, and of what is not.
abbrev pub Among : List (List ℕ × List ℕ) → Bool → Type 0
Among [] so = Unit {0}
Among (example ∷ more) so = (is_among example.0 example.1 ≡ so) × Among more so

pub record CodesMeanSo : Type 0 where
  pub these : Among ((codes "E12", codes "E12") ∷ (codes "E1*", codes "E12") ∷ (codes "E20,WARN", codes "WARN")
      ∷ (codes "E20,E1*", codes "E10") ∷ (codes "E*", codes "E92") ∷ []) true
  pub not_those : Among ((codes "E12", codes "E13") ∷ (codes "E1", codes "E12") ∷ (codes "E1*", codes "E20")
      ∷ (codes "E123", codes "E12") ∷ (codes "E20,E21", codes "E12") ∷ (codes "E*", codes "WARN") ∷ []) false

-- Of the last rows each is looked at, as many as asked for, and no other; from a number on, that row and those after it.
pub record RowsAreCounted (account : List AccountRow) (number : ℕ) : Type 0 where
  pub last : (n : ℕ) → (first_number (Last n) account ≤ number) ↔ (length account < number + n)
  pub from : (n : ℕ) → (first_number (Number n) account ≤ number) ↔ (n ≤ number)

abbrev pub RowsAreCountedSo : Type 0
RowsAreCountedSo = (account : List AccountRow) (number : ℕ) → 1 ≤ number → RowsAreCounted account number
