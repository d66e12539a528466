-- Which rows of an account a query shows.
use Rattle.std.specs.Prelude.{◌+◌, ◌-◌, ℕ, List, drop, length, max, take}
use Rattle.opc_state.specs.Loads.{numbered}
use Rattle.opc_state.specs.declared.account.AccountRow.{AccountRow}
use Rattle.opc_account.specs.Filters.{met}
use Rattle.opc_account.specs.declared.query.First.{First}
use Rattle.opc_account.specs.declared.query.First.TheVariants.{Last, Number}
use Rattle.opc_account.specs.declared.query.Query.{Query}

-- the number of the first row that is looked at: that row, or the first of the last rows
abbrev pub first_number : First → List AccountRow → ℕ
first_number (Number n) account = max 1 n
first_number (Last n) account = length account - n + 1

-- the rows with their numbers from that row on
abbrev pub rows_from : ℕ → List AccountRow → List (ℕ × AccountRow)
rows_from number account = drop (number - 1) (numbered account)

-- From the first row on, those that meet the filter, in the order of their numbers, at most as many as requested.
abbrev pub shown : Query → List AccountRow → List (ℕ × AccountRow)
shown q account = take q.count (met q.filter (rows_from (first_number q.first account) account))
