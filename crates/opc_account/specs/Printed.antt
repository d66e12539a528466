-- What `account` prints.
use Rattle.std.specs.Prelude.{
  ◌≡◌,
  ℕ,
  Bool,
  true,
  false,
  List,
  [],
  ◌++◌,
  Option,
  Result,
  IfErr,
  length,
  nat_lt,
  take,
}
use Rattle.std.specs.Io.KnownBytes.{Appends}
use Rattle.opc_state.specs.Asked.{Loads}
use Rattle.opc_state.specs.Meaning.{Meaning}
use Rattle.opc_state.specs.declared.account.AccountRow.{AccountRow}
use Rattle.opc_state.specs.Loads.{asked_for}
use Rattle.opc_account.specs.Filters.{met}
use Rattle.opc_account.specs.Lines.{AreLines, header}
use Rattle.opc_account.specs.Queries.{shown}
use Rattle.opc_account.specs.declared.query.Query.{Query}
use Rattle.opc_cli_failures.specs.declared.failure.Failure.{Failure}
use Rattle.opc_cli_failures.specs.declared.status.Status.{Status}
use Rattle.opc_cli_failures.specs.declared.status.Status.TheVariants.{Done}
use Rattle.opc_cli_failures.specs.Statuses.{IsFailure}

-- columns have a header
abbrev pub header_of : (is_json : Bool) → List ℕ
header_of true = []
header_of false = header

-- The lines of these rows were printed.
pub record ArePrinted (is_json : Bool) (rows : List (ℕ × AccountRow)) (before written : Option (List ℕ)) : Type 0 where
  pub text : List ℕ
  pub are : AreLines is_json rows text
  pub printed : Appends before written text

-- The lines of a page were printed: of the next rows those that meet the filter, at most as many as are left to be
-- shown. It is the last one if it has fewer rows than were requested.
pub record IsPage (query : Query) (next left most : ℕ) (account : List AccountRow) (before written : Option (List ℕ))
    (count : ℕ) (is_last : Bool) : Type 0 where
  pub printed : ArePrinted query.json (take left (met query.filter (asked_for next most account))) before written
  pub count_is : count ≡ length (take left (met query.filter (asked_for next most account)))
  pub last_is : is_last ≡ nat_lt (length (asked_for next most account)) most

-- The header and the lines of the rows that the query shows were printed.
pub record IsAccount (query : Query) (account : List AccountRow) (before written : Option (List ℕ)) : Type 0 where
  pub text : List ℕ
  pub are : AreLines query.json (shown query account) text
  pub printed : Appends before written (header_of query.json ++ text)

-- It was printed of the state that the tables represent, and they were not changed; or an allocation, the tables or the
-- output failed.
pub record IsAccountPrinted {T W : Type 0} (m : Meaning T) (contents : W → Option (List ℕ)) (old new : T)
    (query : Query) (before written : W) (end : Result Status Failure) : Type 0 where
  pub shows : Loads m old new end
      (λ s status. (status ≡ Done) × IsAccount query s.account (contents before) (contents written))
  pub fails : IfErr end (λ failure. IsFailure failure.fault)
