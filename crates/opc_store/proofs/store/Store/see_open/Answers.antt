use Rattle.std.proofs.Common.{ℕ, List, codes, refl}
use Rattle.sqlite_tied.specs.Compute.{everything}
use Rattle.sqlite_resolve.specs.Compile.{first}
use Rattle.opc_store_sql.proofs.Quiet.{ShowsNothing, understood_quiet}
use Rattle.opc_store.proofs.store.Store.see_open.Goals as goal

abbrev select_one : List ℕ
select_one = codes "SELECT 1"

one_shows : ShowsNothing (first select_one)
unfolding everything
one_shows schema base = refl

pub read-requires-clause-quiet : goal.read-requires-clause-quiet
read-requires-clause-quiet g c = understood_quiet select_one one_shows
