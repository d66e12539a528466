-- What a query shows of an account, for those who read it.
use Rattle.std.specs.Prelude.{◌≡◌, ◌≤◌, ◌<◌, ◌-◌, ℕ, true, List, Some, length, slice_get, take}
use Rattle.std.specs.List.{All, AllPairs, Contains}
use Rattle.opc_state.specs.Loads.{asked_for}
use Rattle.opc_state.specs.declared.account.AccountRow.{AccountRow}
use Rattle.opc_account.specs.Filters.{meets, met, takes_all}
use Rattle.opc_account.specs.Queries.{first_number, shown}
use Rattle.opc_account.specs.declared.query.Query.{Query}

-- the account has this row under its number
abbrev pub IsStored : List AccountRow → ℕ × AccountRow → Type 0
IsStored account row = (1 ≤ row.0) × (slice_get account (row.0 - 1) ≡ Some row.1)

-- it does not come before the first one, and meets the filter
abbrev pub IsAskedFor : Query → List AccountRow → ℕ × AccountRow → Type 0
IsAskedFor q account row = (first_number q.first account ≤ row.0) × (meets q.filter row.1 ≡ true)

abbrev pub ShownRowsAreStored : Type 0
ShownRowsAreStored =
    (q : Query) (account : List AccountRow) → All (λ row. IsStored account row × IsAskedFor q account row) (shown q account)

-- if not fewer are to be shown than there are
abbrev pub StoredRowsAreShown : Type 0
StoredRowsAreShown =
    (q : Query) (account : List AccountRow) (row : ℕ × AccountRow) → length account ≤ q.count → IsStored account row
    → IsAskedFor q account row → Contains (shown q account) row

abbrev pub RowsAreShownInOrder : Type 0
RowsAreShownInOrder =
    (q : Query) (account : List AccountRow) → AllPairs (λ (one other : ℕ × AccountRow). one.0 < other.0) (shown q account)

-- without a filter, if no more rows are loaded than are left to be shown
abbrev pub LoadedRowsAreShown : Type 0
LoadedRowsAreShown =
    (q : Query) (account : List AccountRow) (next most left : ℕ) → takes_all q.filter ≡ true → most ≤ left
    → take left (met q.filter (asked_for next most account)) ≡ asked_for next most account
