-- What is at the path of a database file, and what an opening that was refused removes there.
use Rattle.std.specs.Prelude.{
  ◌≡◌,
  ◌||◌,
  ◌⊎◌,
  ◌++◌,
  ◌*◌,
  ℕ,
  Bool,
  IsTrue,
  List,
  Option,
  Some,
  IfSome,
  codes,
  nat_eq,
  string_bytes,
}
use Rattle.std.specs.List.{starts_with}
use Rattle.std.specs.Path.{path_buf_bytes}
use Rattle.std.specs.Str.{bytes_eq}
use Rattle.opc_store_file.specs.Spare.{is_spare_database, is_spare_log}
use Rattle.opc_store_file.specs.declared.site.Site.{Site}
use Rattle.opc_store_file.specs.declared.spare.Prior.{Prior}

-- a database in memory, or a text that is read as a URI
abbrev pub means_no_file : List ℕ → Bool
means_no_file path = bytes_eq path (codes ":memory:") || starts_with nat_eq path (codes "file:")

-- the permissions 0600: to read and to write, for its owner
abbrev pub owner_alone : ℕ
owner_alone = 6 * 64

-- the path of the log of a database file
abbrev pub log_of : (database : List ℕ) → List ℕ
log_of database = database ++ codes "-wal"

abbrev pub database_path : Site → List ℕ
database_path site = path_buf_bytes site.database

abbrev pub log_path : Site → List ℕ
log_path site = string_bytes site.log

module _ {N : Type 0} where
  -- a file that the opening made, at this path or at one that leads to it
  abbrev pub IsMade : (makes : N → List ℕ → Type 0) → (leads : N → (path file : List ℕ) → Type 0) → N → List ℕ → Type 0
  IsMade makes leads paths file = makes paths file ⊎ ((path : List ℕ) × makes paths path × leads paths path file)

  -- what was there before the opening: at the path of the log, and how long the database file was
  pub record IsPrior (sizes : N → List ℕ → ℕ → Type 0) (finds : N → List ℕ → Bool → Type 0) (paths : N)
      (database log : List ℕ) (prior : Prior) : Type 0 where
    pub its : log ≡ log_of database
    pub length : sizes paths database prior.length
    pub there : finds paths log prior.has_log

  -- Where the files lie, as it was found. The database file was made only if that is known of it.
  pub record IsSite (makes : N → List ℕ → Type 0) (leads : N → (path file : List ℕ) → Type 0)
      (sizes : N → List ℕ → ℕ → Type 0) (finds : N → List ℕ → Bool → Type 0) (paths : N) (site : Site) : Type 0 where
    pub prior : IsPrior sizes finds paths (database_path site) (log_path site) site.prior
    pub made : IsTrue site.prior.is_made → IsMade makes leads paths (database_path site)

  -- a log that the opening made and in which nothing is, while nobody else has its database file open
  pub record IsSpareLog (sizes : N → List ℕ → ℕ → Type 0) (finds : N → List ℕ → Bool → Type 0)
      (measures locks : N → List ℕ → Option ℕ → Type 0) (paths : N) (log : List ℕ) : Type 0 where
    pub database : List ℕ
    pub prior : Prior
    pub before : IsPrior sizes finds paths database log prior
    pub length : ℕ
    pub locked : locks paths database (Some length)
    pub log_length : ℕ
    pub measured : measures paths log (Some log_length)
    pub spare : IsTrue (is_spare_log prior length log_length)

  module _ (removes : N → List ℕ → Bool → Type 0) (paths : N) (site : Site) where
    -- The database file was removed if nobody needs it, or could not be.
    abbrev pub IsDatabaseTidied : (length : ℕ) → Type 0
    IsDatabaseTidied length = IsTrue (is_spare_database site.prior length)
        → (able : Bool) × removes paths (database_path site) able

    module _ (measures : N → List ℕ → Option ℕ → Type 0) where
      -- So was the log.
      abbrev pub IsLogTidied : (length : ℕ) → Type 0
      IsLogTidied length = (log : Option ℕ) × measures paths (log_path site) log
          × IfSome log (λ log_length. IsTrue (is_spare_log site.prior length log_length)
          → (able : Bool) × removes paths (log_path site) able)

      -- Both were, if the database file could be locked.
      abbrev pub IsTidied : (locks : N → List ℕ → Option ℕ → Type 0) → Type 0
      IsTidied locks = (held : Option ℕ) × locks paths (database_path site) held
          × IfSome held (λ length. IsLogTidied length × IsDatabaseTidied length)
