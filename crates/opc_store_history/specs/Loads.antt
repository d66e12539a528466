-- What some loads return of a state.
use Rattle.std.specs.Prelude.{ℕ, pos, ◌-◌, ◌==◌, List, ◌∷◌, Option, find, take, drop}
use Rattle.std.specs.Option.{option_map}
use Rattle.sqlite_value.specs.declared.value.Value.TheVariants.{Int}
use Rattle.sqlite_value.specs.Order.{Row}
use Rattle.opc_import.specs.Lines.{policy_text}
use Rattle.opc_state.specs.declared.account.AccountRow.{AccountRow}
use Rattle.opc_state.specs.declared.change.Batch.{Batch}
use Rattle.opc_store_schema.specs.Represented.{account_shown}

-- the rows of an account from a number on, at most as many as requested
abbrev pub account_page : ℕ → ℕ → List AccountRow → List AccountRow
account_page from count account = take count (drop (from - 1) account)

-- a row of the account with its number, as a query returns it
abbrev pub numbered_shown : ℕ × AccountRow → Row
numbered_shown p = Int (pos p.0) ∷ account_shown p.1

-- the policy file of a batch that is stored
abbrev pub kept_text : List Batch → ℕ → Option (List ℕ)
kept_text batches number = option_map (λ (b : Batch). policy_text b.rows)
    (find (λ (b : Batch). b.number == number) batches)
