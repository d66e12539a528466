-- What is reported of a database file whose tables are newly made.
use Rattle.std.specs.Prelude.{◌++◌, ℕ, List, codes}

abbrev pub made_line : (path : List ℕ) → List ℕ
made_line path = codes "opcmds: database " ++ path ++ codes ": newly created; it has no policy\n"
